-- What counts keep of each task.
use Rattle.std.specs.Prelude.{ℕ, Bool, false, ◌||◌, List, [], replicate, None, Option, slice_index_or}
use Rattle.book.specs.declared.counts.tasks.Task.{Task}

-- a task that has noted nothing
abbrev pub fresh : Task
fresh = record { flag = false; first = replicate 64 None }

-- the same, where no station has the task
abbrev pub no_task : Task
no_task = record { flag = false; first = [] }

abbrev pub task_at : List Task → ℕ → Task
task_at ts t = slice_index_or ts t no_task

-- the count of cell c when task t first noted it
abbrev pub first_note : List Task → ℕ → ℕ → Option ℕ
first_note ts t c = slice_index_or (task_at ts t).first c None

-- a task whose flag is set if it was, or if the test holds
abbrev pub flagging : Bool → Task → Task
flagging b k = record { flag = k.flag || b; first = k.first }
