use Rattle.std.proofs.Common.{◌≡◌}
use Rattle.board.specs.Loops.{released}
use Rattle.board.proofs.Board.release.Given as goal

abbrev pub invariant-loop-owner : goal.invariant-loop-owner
invariant-loop-owner l = l.owner-items ≡ released l.t l.initial.owner-items l.owner-index
