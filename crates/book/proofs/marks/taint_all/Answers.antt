use Rattle.std.proofs.Common.{[], false, length, rules, length-append}
use Rattle.std.proofs.lemmas.Slice.Zip.{zip_turn}
use Rattle.book.proofs.Any.{any_none, any_turn, any_pass}
use Rattle.book.proofs.marks.taint_all.Goals as goal

pub loop-row-init : goal.loop-row-init
loop-row-init c = search (rules, any_none)

pub loop-row-preserved-then-hit : goal.loop-row-preserved-then-hit
loop-row-preserved-then-hit c u =
    let turn = zip_turn c.args.readers.now c.args.cells.now c.loop-row.yielded c.into_iter-row-iterator.result c.loop-row.row-iterator c.next.new.self c.next.result (search rules) (search rules) c.loop-row.yielded_by (c.in-Some.row, c.in-Some.field-0-1) c.in-Some.is c.next.ensures.steps in
    any_turn _ _ _ _ _ (length c.loop-row.yielded) _ (length-append c.loop-row.yielded _) (rw (← turn.3 false, c.if-hit.true, ← turn.2 [])) (c.loop-row.invariant u) (c.taint.ensures u)

pub loop-row-preserved : goal.loop-row-preserved
loop-row-preserved c u =
    let turn = zip_turn c.args.readers.now c.args.cells.now c.loop-row.yielded c.into_iter-row-iterator.result c.loop-row.row-iterator c.next.new.self c.next.result (search rules) (search rules) c.loop-row.yielded_by (c.in-Some.row, c.in-Some.field-0-1) c.in-Some.is c.next.ensures.steps in
    any_pass _ _ _ (length c.loop-row.yielded) _ (length-append c.loop-row.yielded _) (rw (← turn.3 false, c.if-hit.false)) (c.loop-row.invariant u)
