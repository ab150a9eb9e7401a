use Rattle.text.proofs.Numerals.{Sofar}
use Rattle.text.proofs.decimals.number.Given as goal

abbrev pub invariant-loop-b : goal.invariant-loop-b
invariant-loop-b l = Sofar l.part l.b-index l.n
