use Rattle.std.proofs.Common.{arith}
use Rattle.book.specs.Counted.{counted}
use Rattle.book.proofs.Changes.{is_begun}
use Rattle.book.proofs.Counting.{begun-noted, begun-stale, begun_first}
use Rattle.book.proofs.counts.calls.CountsBook.begin.Goals as goal

pub returns-then-t-lt16-clause-notes : goal.returns-then-t-lt16-clause-notes
returns-then-t-lt16-clause-notes c =
    let old = c.args.self.now in
    is_begun c.args.t (counted old) _ (omega arith)
    (λ u k. begun-noted c.begun.result c.begun.ensures old.tasks c.args.t u (omega arith) k)
    (λ u. begun-stale c.begun.result c.begun.ensures old.tasks c.args.t u (omega arith) old.commits)

pub invariant_of-self : goal.invariant_of-self
invariant_of-self c = record { ok = λ u k n e. c.args.self.now.ok u k n (begun_first c.begun.result c.begun.ensures c.args.self.now.tasks c.args.t u (omega arith) k n e) }
