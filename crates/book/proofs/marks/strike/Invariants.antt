use Rattle.std.proofs.Common.{◌≡◌, ℕ, false, cond, ◌&&◌, eqb, ltb, length}
use Rattle.book.specs.Marked.{reads}
use Rattle.book.proofs.marks.strike.Given as goal

abbrev pub invariant-loop-row : goal.invariant-loop-row
invariant-loop-row l = (length l.readers ≡ 64) × ((u c : ℕ) → reads l.readers u c ≡ cond (eqb u l.t && ltb c l.row-index) false (reads l.initial.readers u c))
