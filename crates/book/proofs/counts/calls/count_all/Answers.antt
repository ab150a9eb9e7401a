use Rattle.std.proofs.Common.{arith, rules, false, get_or}
use Rattle.std.proofs.lemmas.List.{get_or_past}
use Rattle.book.specs.Counted.{risen}
use Rattle.book.proofs.Counting.{rises}
use Rattle.book.proofs.Made.{made_all}
use Rattle.book.proofs.counts.calls.count_all.Goals as goal

pub returns : goal.returns
returns c = made_all _ _ (risen c.args.cells.now c.args.commits.now) 64 (λ i y q less k. (search rules, rises (get_or c.args.cells.now i false) (get_or c.args.commits.now i 0) y (c.fits-commits i) (search rules))) c.from_fn.result 0 c.from_fn.ensures.items (λ k h. rw (get_or_past c.args.cells.now k false (omega arith), get_or_past c.args.commits.now k 0 (omega arith)))
