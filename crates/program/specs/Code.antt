-- The operations of all tasks: a list for each task, and how a plain table holds them.
use Rattle.std.specs.Prelude.{ℕ, List, [], ◌∷◌, ◌++◌, take, drop}

-- one more at the end of the last list, if there is one
abbrev pub on_last : {X : Type 0} → List (List X) → X → List (List X)
on_last [] x = []
on_last (c ∷ []) x = (c ++ (x ∷ [])) ∷ []
on_last (c ∷ d ∷ ds) x = c ∷ on_last (d ∷ ds) x

-- a table cut into pieces of these lengths, one after another
abbrev pub chunks : {X : Type 0} → List ℕ → List X → List (List X)
chunks [] xs = []
chunks (n ∷ ns) xs = take n xs ∷ chunks ns (drop n xs)
