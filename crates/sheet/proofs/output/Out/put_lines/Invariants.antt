use Rattle.std.proofs.Common.{ℕ, ◌+◌, ◌*◌, ◌≤◌, List, take}
use Rattle.std.specs.List.{flat_map}
use Rattle.sheet.specs.Output.{Lays, Spells}
use Rattle.sheet.proofs.output.Out.put_lines.Given as goal

abbrev pub invariant-loop-item : goal.invariant-loop-item
invariant-loop-item g l =
    ((text : _ → List ℕ) → Spells g.F.Fn l.line_of text → Lays l.initial.self l.self (flat_map text (take l.item-index l.items)))
    × (l.self.end ≤ l.initial.self.end + 32 * l.item-index)
