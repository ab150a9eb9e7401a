use Rattle.value.proofs.HexReading.{Sofar}
use Rattle.value.proofs.hex.read_hex.Given as goal

abbrev pub invariant-loop-b : goal.invariant-loop-b
invariant-loop-b l = Sofar l.part l.b-index l.n
