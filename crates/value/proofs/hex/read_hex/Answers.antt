use Rattle.std.proofs.Common.{arith, rules}
use Rattle.value.proofs.HexReading.{turn, fitting, finished}
use Rattle.value.proofs.hex.read_hex.Goals as goal

pub overflow_mul-n : goal.overflow_mul-n
overflow_mul-n c = let r = fitting _ _ _ _ c.loop-b.invariant (omega arith) (c.in_ok-d.ensures) in search rules

pub overflow_add-n : goal.overflow_add-n
overflow_add-n c = let r = fitting _ _ _ _ c.loop-b.invariant (omega arith) (c.in_ok-d.ensures) in search rules

pub loop-b-preserved : goal.loop-b-preserved
loop-b-preserved c = turn _ _ _ _ c.loop-b.invariant c.loop-b-test.true (c.in_ok-d.ensures)

pub returns : goal.returns
returns c = finished c.args.part.now c.loop-b.b-index c.loop-b.n c.if-part-ne8.false c.loop-b-test.false c.loop-b.invariant
