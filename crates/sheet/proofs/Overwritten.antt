-- What writing leaves, where all values are lawful and the output is long enough.
use Rattle.std.proofs.Common.{◌≡◌, ℕ, ◌≤◌, true, List, length, Option, sym, ◌∙◌}
use Rattle.std.proofs.lemmas.Bool.{cond-true, and_from, le-leb}
use Rattle.sheet.specs.Content.{Content}
use Rattle.sheet.specs.Output.{over}
use Rattle.sheet.specs.Writing.{lawful, written, write_out}
use Rattle.sheet.proofs.Overlaid.{all_fits}

module _ {V : Type 0} (form : V → Option (List ℕ)) (s : Content V) (out : List ℕ) (ok : lawful form s ≡ true) (fits : length (written form s) ≤ length out) where
  pub overwritten : (next : List ℕ) → next ≡ over 0 (written form s) out → next ≡ write_out form s out
  overwritten next e = e ∙ (all_fits (written form s) out fits ∙ sym (cond-true _ _ _ (and_from (lawful form s) _ ok (le-leb (length (written form s)) (length out) fits))))
