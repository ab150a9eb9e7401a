use Rattle.std.proofs.Common.{arith}
use Rattle.std.proofs.lemmas.Bool.Decides.{nat_tests}
use Rattle.text.proofs.Numerals.{one_more, no_number, all_read}
use Rattle.text.proofs.decimals.number.Goals as goal

pub returns-in_err-n : goal.returns-in_err-n
returns-in_err-n c = rw c.from_residual.ensures (no_number _ _ c.loop-b-test.true c.in_err-n.ensures)

pub loop-b-preserved : goal.loop-b-preserved
loop-b-preserved c = one_more _ _ _ _ c.loop-b.invariant c.loop-b-test.true c.in_ok-n.ensures

pub returns : goal.returns
returns c = all_read _ _ _ c.loop-b.invariant c.loop-b-test.false (grind (arith, nat_tests)) c.if-part-gt10.false (grind (arith, nat_tests))
