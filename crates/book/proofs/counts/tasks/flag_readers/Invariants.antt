use Rattle.std.proofs.Common.{◌≡◌, ℕ, ◌&&◌, ltb, length, is_some}
use Rattle.book.specs.Tasks.{task_at, first_note, flagging}
use Rattle.book.proofs.counts.tasks.flag_readers.Given as goal

abbrev pub invariant-loop-task : goal.invariant-loop-task
invariant-loop-task l = (length l.tasks ≡ 16) × ((u : ℕ) → task_at l.tasks u ≡ flagging (ltb u l.task-index && is_some (first_note l.initial.tasks u l.c)) (task_at l.initial.tasks u))
