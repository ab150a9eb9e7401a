-- Bytes cut into pieces at every byte of one value: a sheet at its line feeds, a line at its spaces.
use Rattle.std.specs.Prelude.{ℕ, cond, List, [], ◌∷◌, ◌==◌}

-- a byte in front of the first piece
abbrev pub onto : ℕ → List (List ℕ) → List (List ℕ)
onto b [] = (b ∷ []) ∷ []
onto b (p ∷ ps) = (b ∷ p) ∷ ps

-- what stands before, between and after the bytes d; the last piece is what no d follows
abbrev pub cut : ℕ → List ℕ → List (List ℕ)
cut d [] = [] ∷ []
cut d (b ∷ bs) = cond (b == d) ([] ∷ cut d bs) (onto b (cut d bs))
