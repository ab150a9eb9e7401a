use Rattle.std.proofs.Common.{◌≡◌, ◌+◌, ◌≤◌, length}
use Rattle.text.specs.Cut.{cut}
use Rattle.sheet.specs.Content.{nothing}
use Rattle.sheet.specs.Reading.{read_lines}
use Rattle.sheet.specs.Sheets.{content}
use Rattle.sheet.proofs.kept.Sheet.take_text.Given as goal

abbrev pub invariant-loop-first : goal.invariant-loop-first
invariant-loop-first g l =
    (read_lines g.K.Kind.reads l.line (content l.sheet) (cut 10 l.rest) ≡ read_lines g.K.Kind.reads 1 nothing (cut 10 l.text))
    × (l.line + length l.rest ≤ 65537)

abbrev pub decreases-loop-first : goal.decreases-loop-first
decreases-loop-first g l = length l.rest
