-- Call lines: a name and a task's number, as `(admit 0)`.
use Rattle.std.specs.Prelude.{ℕ, List, Some, None, codes, Option}
use Rattle.text.specs.Frame.{framed}
use Rattle.text.specs.Number.{numeral}
use Rattle.session.specs.declared.calls.Call.{Call}
use Rattle.session.specs.declared.calls.Call.TheVariants.{Admit, Open, Step, Commit, Undo}

-- the number that stands in a line's frame
abbrev pub number_in : Option (List ℕ) → Option ℕ
number_in None = None
number_in (Some part) = numeral part

abbrev pub task_after : List ℕ → List ℕ → Option ℕ
task_after head line = number_in (framed head line)

-- the call, where a task is named, else the next
abbrev pub or_next : (ℕ → Call) → Option ℕ → Option Call → Option Call
or_next call None next = next
or_next call (Some t) next = Some (call t)

abbrev pub called : List ℕ → Option Call
called line =
    or_next Admit (task_after (codes "(admit ") line)
    (or_next Open (task_after (codes "(open ") line)
    (or_next Step (task_after (codes "(step ") line)
    (or_next Commit (task_after (codes "(commit ") line) (or_next Undo (task_after (codes "(undo ") line) None))))
