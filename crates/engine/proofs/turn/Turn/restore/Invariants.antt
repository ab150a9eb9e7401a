use Rattle.std.proofs.Common.{◌≡◌}
use Rattle.engine.specs.Restoring.{restored}
use Rattle.engine.proofs.turn.Turn.restore.Given as goal

abbrev pub invariant-loop-c : goal.invariant-loop-c
invariant-loop-c g l = l.slice ≡ restored l.t g.K.Kind.ZERO l.fn.self.engine.now.board.owners l.initial.slice l.c
