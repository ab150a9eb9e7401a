use Rattle.std.proofs.Common.{add-one, rules}
use Rattle.engine.specs.Restoring.{restored}
use Rattle.engine.proofs.turn.Turn.restore.Goals as goal

pub loop-c-init : goal.loop-c-init
unfolding restored
loop-c-init g c = search rules

pub loop-c-preserved : goal.loop-c-preserved
unfolding restored
loop-c-preserved g c = simp add-one (search rules)
