use Rattle.std.proofs.Common.{◌+◌, ◌*◌, ◌≤◌, take}
use Rattle.program.specs.Program.{code}
use Rattle.sheet.specs.Output.{Lays}
use Rattle.sheet.specs.Writing.{tasks_text}
use Rattle.sheet.proofs.output.Out.put_tasks.Given as goal

abbrev pub invariant-loop-t : goal.invariant-loop-t
invariant-loop-t l =
    Lays l.initial.self l.self (tasks_text (take l.t l.given) (take l.t (code l.program)))
    × (l.self.end ≤ l.initial.self.end + 32800 * l.t)
