use Rattle.std.proofs.Common.{◌≡◌}
use Rattle.board.specs.Boards.{with_rows}
use Rattle.board.specs.Loops.{delivered}
use Rattle.board.proofs.Board.add_owed.Given as goal

abbrev pub invariant-loop-u : goal.invariant-loop-u
invariant-loop-u l = l.self ≡ with_rows l.initial.self (delivered l.counts l.initial.self.rows l.u)
