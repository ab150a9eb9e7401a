use Rattle.std.proofs.Common.{Bool, true, false, cond, ◌||◌, eqb, get_or, ap, ◌∙◌, arith}
use Rattle.std.proofs.Math.Bool.{and_comm}
use Rattle.book.specs.Marked.{reads, marked}
use Rattle.book.proofs.Changes.{is_noting}
use Rattle.book.proofs.Tables.{get_or-set, at_place}
use Rattle.book.proofs.marks.MarksBook.note.Goals as goal

pub returns-then-c-lt64-clause-notes : goal.returns-then-c-lt64-clause-notes
returns-then-c-lt64-clause-notes c =
    let old = c.args.self.now in
    is_noting c.args.t c.args.c c.args.held (marked old) _ (omega arith) (omega arith)
    (λ u d.
    at_place false old.readers c.enlist.new.row c.args.c (λ q. eqb q c.args.t) true d u (omega arith) c.enlist.ensures
    ∙ ap (λ (b : Bool). cond b true (reads old.readers u d)) (and_comm (eqb d c.args.c) (eqb u c.args.t)))
    (λ u. get_or-set old.stale c.args.t (get_or old.stale c.args.t false || c.args.held) u false (omega arith))
