use Rattle.std.proofs.Common.{arith}
use Rattle.std.specs.Int.{int_wrap}
use Rattle.machine.proofs.examples.table_stands.Goals as goal

pub returns : goal.returns
unfolding int_wrap
returns c = grind arith
