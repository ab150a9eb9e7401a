-- Lists that are written from a place on, and lists that are made place by place.
use Rattle.std.specs.Prelude.{ℕ, zero, suc, ◌+◌, List, [], ◌∷◌, ◌++◌, slice_set}

-- the first n places become the value
unfoldable pub blanked : {X : Type 0} → X → List X → ℕ → List X
blanked v xs zero = xs
blanked v xs (suc n) = slice_set (blanked v xs n) n v

-- ys with f of each x laid over it from a place on; what would fall past the end falls away
abbrev pub laid : {X Y : Type 0} → (X → Y) → ℕ → List X → List Y → List Y
laid f at [] ys = ys
laid f at (x ∷ xs) ys = laid f (at + 1) xs (slice_set ys at (f x))

abbrev pub itself : {X : Type 0} → X → X
itself x = x

-- f of the numbers below n
unfoldable pub tabulated : {X : Type 0} → (ℕ → X) → ℕ → List X
tabulated f zero = []
tabulated f (suc n) = tabulated f n ++ (f n ∷ [])
