use Rattle.std.proofs.Common.{false, arith}
use Rattle.book.proofs.Changes.{is_begun}
use Rattle.book.proofs.Tables.{get_or-set}
use Rattle.book.proofs.marks.MarksBook.begin.Goals as goal

pub returns-then-t-lt16-clause-notes : goal.returns-then-t-lt16-clause-notes
returns-then-t-lt16-clause-notes c = is_begun c.args.t _ _ (omega arith) c.strike.ensures (λ u. get_or-set c.args.self.now.stale c.args.t false u false (omega arith))
