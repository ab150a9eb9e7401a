use Rattle.std.proofs.Common.{◌∙◌, not, arith, rules}
use Rattle.std.proofs.lemmas.Iterator.{YieldsList-from_slice}
use Rattle.std.proofs.lemmas.Iterator.Search.{any_from_yields_List}
use borrow.Author.Tests.{tests}
use Rattle.book.proofs.Any.{any_listed}
use Rattle.board.specs.declared.Row.{Row}
use Rattle.board.specs.Boards.{no_row, is_idle}
use Rattle.board.proofs.Board.is_at_work.Goals as goal

pub returns : goal.returns
returns c =
    any_from_yields_List (λ (r : Row). not (is_idle r.state)) c.any.new.self _ c.any.result c.any.ensures.ran (YieldsList-from_slice {s = c.iter.result} c.args.self.now.rows cc) (λ x b q k. search (rules, tests))
    ∙ any_listed (λ (r : Row). not (is_idle r.state)) c.args.self.now.rows no_row 16 (omega arith)
