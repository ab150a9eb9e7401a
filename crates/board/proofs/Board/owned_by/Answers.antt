use Rattle.std.proofs.Common.{false, None, get_or, arith, rules}
use Rattle.book.proofs.Made.{made_list}
use Rattle.board.specs.Boards.{mine}
use Rattle.board.specs.Loops.{owned}
use Rattle.board.proofs.Places.{length-owned, get_or-owned}
use Rattle.board.proofs.Board.owned_by.Goals as goal

pub returns : goal.returns
returns c =
    made_list _ _ (λ k. mine c.args.t (get_or c.args.self.now.owners k None)) 64 (λ i y q less k. search rules) c.from_fn.result false (owned c.args.t c.args.self.now.owners 64) c.from_fn.ensures.items
    (length-owned c.args.t c.args.self.now.owners 64)
    (λ k h. get_or-owned c.args.t c.args.self.now.owners 64 k h (omega arith))
