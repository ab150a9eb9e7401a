use Rattle.std.proofs.Common.{◌≡◌, ◌+◌, ◌*◌, ◌≤◌, drop}
use Rattle.program.specs.Program.{code}
use Rattle.sheet.specs.Ends.{first_open}
use Rattle.sheet.proofs.kept.ends.open_task.Given as goal

abbrev pub invariant-loop-t : goal.invariant-loop-t
invariant-loop-t l =
    (first_open l.line (drop l.t (code l.program)) ≡ first_open l.first (code l.program))
    × (l.line ≤ l.first + 1025 * l.t)
