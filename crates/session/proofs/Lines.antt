-- The loop over a session's lines, until the line `(calls)`.
use Rattle.std.proofs.Common.{◌≡◌, ℕ, ◌<◌, true, List, [], ◌∷◌, length, Some, codes, arith}
use Rattle.std.specs.Str.{bytes_eq}
use Rattle.std.proofs.lemmas.Bool.{cond-true}
use Rattle.text.specs.Cut.{cut}
use Rattle.text.proofs.Pieces.{cut_some}
use Rattle.session.specs.Input.{calls_from}

here : (at k : ℕ) (l : List ℕ) (ps : List (List ℕ)) → 0 < length ps → bytes_eq l (codes "(calls)") ≡ true → calls_from at k (l ∷ ps) ≡ Some (record { at = at; line = k })
here at k l [] some e = absurd (omega arith)
here at k l (m ∷ ms) some e = cond-true _ _ _ e

-- the line `(calls)`, with a line feed after it
pub found : (at k : ℕ) (l after : List ℕ) → bytes_eq l (codes "(calls)") ≡ true → calls_from at k (l ∷ cut 10 after) ≡ Some (record { at = at; line = k })
found at k l after e = here at k l (cut 10 after) (cut_some 10 after) e
