use Rattle.std.proofs.Common.{ℕ, arith}
use Rattle.book.proofs.Changes.{same_seen}
use Rattle.book.proofs.Counting.{none_noted, none_stale, none_first}
use Rattle.book.proofs.Tables.{all_in}
use Rattle.book.proofs.counts.Counts.new.Goals as goal

pub invariant_of-result : goal.invariant_of-result
invariant_of-result c = record { ok = λ u k n e. none_first c.begun.result c.begun.ensures u k n e }

pub returns : goal.returns
returns c = record { notes = same_seen _ _ (none_noted c.begun.result c.begun.ensures) (none_stale c.begun.result c.begun.ensures); spare = λ k. omega (arith, all_in {X = ℕ} 0 64 k) }
