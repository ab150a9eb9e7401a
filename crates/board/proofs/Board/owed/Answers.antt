use Rattle.std.proofs.Common.{rules}
use Rattle.board.specs.Boards.{row_at}
use Rattle.board.proofs.Places.{made_tabulated}
use Rattle.board.proofs.Board.owed.Goals as goal

pub returns : goal.returns
returns c = made_tabulated _ _ (λ t. (row_at c.args.self.now t).owed) 16 (λ i y q less k. search rules) c.from_fn.result 0 c.from_fn.ensures.items
