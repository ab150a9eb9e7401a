-- The loop over lines: a refused one, and a good one.
use Rattle.std.proofs.Common.{◌≡◌, ℕ, ◌+◌, ◌<◌, List, [], ◌∷◌, length, Ok, Err, Result, ap, ◌∙◌, arith}
use Rattle.text.specs.Cut.{cut}
use Rattle.text.specs.Tokens.{Tok}
use Rattle.value.specs.declared.codes.Fault.{Fault}
use Rattle.sheet.specs.declared.parts.LineFault.{LineFault}
use Rattle.sheet.specs.declared.parts.Refusal.TheVariants.{Line}
use Rattle.sheet.specs.Content.{Content}
use Rattle.sheet.specs.Lines.{judged}
use Rattle.sheet.specs.Reading.{read_lines}
use Rattle.text.proofs.Pieces.{cut_some}

module _ {V : Type 0} (reads : List Tok → Result V Fault) (k : ℕ) (s : Content V) (l : List ℕ) where
  bad_line : (ps : List (List ℕ)) (f : LineFault) → 0 < length ps → judged reads s l ≡ Err f → read_lines reads k s (l ∷ ps) ≡ Err (Line f k)
  bad_line [] f some e = absurd (omega arith)
  bad_line (m ∷ ms) f some e = rw (e, read_lines)

  good_line : (ps : List (List ℕ)) (w : Content V) → 0 < length ps → judged reads s l ≡ Ok w → read_lines reads k s (l ∷ ps) ≡ read_lines reads (k + 1) w ps
  good_line [] w some e = absurd (omega arith)
  good_line (m ∷ ms) w some e = rw (e, read_lines)

  -- where the line stands first in the bytes that are left
  module _ (bs after : List ℕ) (first : cut 10 bs ≡ l ∷ cut 10 after) where
    pub refused : (f : LineFault) → judged reads s l ≡ Err f → read_lines reads k s (cut 10 bs) ≡ Err (Line f k)
    refused f e = ap (read_lines reads k s) first ∙ bad_line (cut 10 after) f (cut_some 10 after) e

    pub went_on : (w : Content V) → judged reads s l ≡ Ok w → read_lines reads k s (cut 10 bs) ≡ read_lines reads (k + 1) w (cut 10 after)
    went_on w e = ap (read_lines reads k s) first ∙ good_line (cut 10 after) w (cut_some 10 after) e
