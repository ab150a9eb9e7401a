use Rattle.std.proofs.Common.{arith}
use Rattle.book.specs.Counted.{counted}
use Rattle.book.proofs.Changes.{is_noting}
use Rattle.book.proofs.Counting.{noting-noted, noting-stale}
use Rattle.book.proofs.counts.calls.CountsBook.note.Goals as goal

pub returns-then-c-lt64-clause-notes : goal.returns-then-c-lt64-clause-notes
returns-then-c-lt64-clause-notes c =
    let old = c.args.self.now in
    is_noting c.args.t c.args.c c.args.held (counted old) _ (omega arith) (omega arith)
    (noting-noted old.tasks old.commits c.note.new.self c.args.t c.args.c c.args.held (omega arith) c.note.ensures.flag c.note.ensures.first)
    (noting-stale old.tasks old.commits c.note.new.self c.args.t c.args.c c.args.held (omega arith) c.note.ensures.flag c.note.ensures.first)
