use Rattle.std.proofs.Common.{ℕ, false, get_or, ap, ◌∙◌, arith}
use Rattle.book.specs.Tasks.{task_at}
use Rattle.book.specs.Counted.{counted}
use Rattle.book.proofs.Changes.{is_finished, spends}
use Rattle.book.proofs.Counting.{finish-noted, finish-stale, left_bounds}
use Rattle.book.proofs.counts.calls.CountsBook.finish.Goals as goal

pub returns-then-t-lt16 : goal.returns-then-t-lt16
returns-then-t-lt16 c =
    let old = c.args.self.now in
    record {
      notes = c.forget.ensures.notes
          ∙ is_finished c.args.t _ (counted old) _ (omega arith)
          (λ u. finish-noted (task_at old.tasks u) (task_at c.flag_worn.new.tasks u) c.args.cells.now old.commits c.count_all.new.commits (c.flag_worn.ensures u))
          (λ u. finish-stale (task_at old.tasks u) (task_at c.flag_worn.new.tasks u) c.args.cells.now old.commits c.count_all.new.commits (c.flag_worn.ensures u) c.count_all.ensures (old.ok u));
      spare = spends c.args.t _ _ _ (omega arith)
          (λ d. rw (ap (λ (f : ℕ → ℕ). f d) c.forget.ensures.spare) (left_bounds (get_or c.args.cells.now d false) (get_or old.commits d 0) (get_or c.count_all.new.commits d 0) (c.count_all.ensures d)));
    }
