use Rattle.std.proofs.Common.{refl, ◌∙◌, arith}
use Rattle.book.proofs.Changes.{is_finished}
use Rattle.book.proofs.marks.MarksBook.finish.Goals as goal

pub returns-then-t-lt16-clause-notes : goal.returns-then-t-lt16-clause-notes
returns-then-t-lt16-clause-notes c = c.forget.ensures.notes ∙ is_finished c.args.t _ _ _ (omega arith) (λ u k. refl) c.taint_all.ensures
