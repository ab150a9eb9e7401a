use Rattle.std.proofs.Common.{◌≡◌, ℕ, false, ◌&&◌, ◌||◌, get_or, length}
use Rattle.book.specs.Seen.{any}
use Rattle.book.specs.Marked.{reads}
use Rattle.book.proofs.marks.taint_all.Given as goal

abbrev pub invariant-loop-row : goal.invariant-loop-row
invariant-loop-row l = (u : ℕ) → get_or l.stale u false ≡ (get_or l.initial.stale u false || any (λ c. get_or l.cells c false && reads l.readers u c) (length l.yielded))
