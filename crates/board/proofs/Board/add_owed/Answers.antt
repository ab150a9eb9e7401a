use Rattle.std.proofs.Common.{◌≡◌, ap, ◌∙◌, arith, rules}
use Rattle.board.specs.declared.Board.{Board}
use Rattle.board.specs.Boards.{row_at}
use Rattle.board.proofs.Delivery.{delivered_later, room_for}
use Rattle.board.proofs.Turns.{delivered_none, delivered_more}
use Rattle.board.proofs.Board.add_owed.Goals as goal

pub loop-u-init : goal.loop-u-init
loop-u-init c = simp delivered_none (search rules)

pub overflow_add-self : goal.overflow_add-self
overflow_add-self c =
    let u = c.loop-u.u in
    let same : row_at c.loop-u.self u ≡ row_at c.args.self.now u = ap (λ (x : Board). row_at x u) c.loop-u.invariant ∙ delivered_later _ _ u u (omega arith) in
    let room = room_for c.args.counts.now c.args.self.now u c.requires c.loop-u-test.true in
    simp same (omega arith)

pub loop-u-preserved : goal.loop-u-preserved
loop-u-preserved c = simp delivered_more (search rules)

pub returns : goal.returns
returns c = let e : c.loop-u.u ≡ 16 = omega arith in simp (← e) c.loop-u.invariant
