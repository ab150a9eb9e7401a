use Rattle.std.proofs.Common.{None, ◌∙◌}
use Rattle.std.proofs.lemmas.List.{set-get_or}
use Rattle.board.proofs.Turns.{released_none, released_turn}
use Rattle.board.proofs.Board.release.Goals as goal
use Rattle.board.proofs.Board.release.Goals.{then-is_task, else-is_task}

pub loop-owner-init : goal.loop-owner-init
loop-owner-init c = simp released_none

pub loop-owner-preserved : goal.loop-owner-preserved
loop-owner-preserved c =
    released_turn c.args.t c.args.self.now.owners c.loop-owner.owner-items c.if-is_task.owner-items c.loop-owner.owner-index c.is_task.result c.loop-owner.invariant c.is_task.ensures
    (elim c.if-is_task.branch [
      | then-is_task w ↦ rw w.if-is_task.true w.owner-items-is
      | else-is_task w ↦ rw w.if-is_task.false (w.owner-items-is ∙ set-get_or c.loop-owner.owner-items c.loop-owner.owner-index None)
    ])
