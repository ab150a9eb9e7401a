-- Where a session's calls begin.
use Rattle.std.specs.Prelude.{ℕ, ◌+◌, cond, List, [], ◌∷◌, length, Some, None, codes, Option}
use Rattle.std.specs.Str.{bytes_eq}
use Rattle.session.specs.declared.CallsLine.{CallsLine}

-- the first line `(calls)` among the pieces between line feeds; the first piece begins at a place and has a number
abbrev pub calls_from : ℕ → ℕ → List (List ℕ) → Option CallsLine
calls_from at n [] = None
calls_from at n (l ∷ []) = None
calls_from at n (l ∷ m ∷ ms) =
    cond (bytes_eq l (codes "(calls)")) (Some (record { at = at; line = n })) (calls_from (at + length l + 1) (n + 1) (m ∷ ms))
