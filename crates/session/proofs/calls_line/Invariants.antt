use Rattle.std.proofs.Common.{◌≡◌, ◌+◌, ◌≤◌, length}
use Rattle.text.specs.Cut.{cut}
use Rattle.session.specs.Input.{calls_from}
use Rattle.session.proofs.calls_line.Given as goal

abbrev pub invariant-loop-first : goal.invariant-loop-first
invariant-loop-first l =
    (calls_from l.at l.line (cut 10 l.rest) ≡ calls_from 0 1 (cut 10 l.input))
    × (l.at + length l.rest ≤ length l.input)
    × (l.line ≤ l.at + 1)

abbrev pub decreases-loop-first : goal.decreases-loop-first
decreases-loop-first l = length l.rest
