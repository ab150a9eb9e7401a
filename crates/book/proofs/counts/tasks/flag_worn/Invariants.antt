use Rattle.std.proofs.Common.{◌≡◌, ℕ, false, ◌&&◌, leb, get_or, is_some}
use Rattle.book.specs.Seen.{any}
use Rattle.book.specs.Tasks.{task_at, first_note, flagging}
use Rattle.book.proofs.counts.tasks.flag_worn.Given as goal

abbrev pub invariant-loop-c : goal.invariant-loop-c
invariant-loop-c l = (u : ℕ) → task_at l.tasks u ≡ flagging (any (λ c. (get_or l.cells c false && leb 255 (get_or l.commits c 0)) && is_some (first_note l.initial.tasks u c)) l.c) (task_at l.initial.tasks u)
