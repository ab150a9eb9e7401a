use Rattle.std.proofs.Common.{false, ◌||◌, get_or, arith, rules}
use Rattle.std.proofs.lemmas.List.{get_or_past}
use Rattle.book.proofs.Made.{made_all}
use Rattle.book.proofs.marks.taint.Goals as goal

pub returns : goal.returns
returns c = made_all _ _ (λ u. get_or c.args.stale.now u false || get_or c.args.row.now u false) 16 (λ i y q less k. search rules) c.from_fn.result false c.from_fn.ensures.items (λ u h. rw (get_or_past c.args.stale.now u false (omega arith), get_or_past c.args.row.now u false (omega arith)))
