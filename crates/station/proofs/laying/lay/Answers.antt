use Rattle.std.proofs.Common.{refl, ◌∙◌, arith}
use Rattle.board.proofs.Layings.{laid_put, laid_past}
use Rattle.station.proofs.laying.lay.Goals as goal
use Rattle.station.proofs.laying.lay.Goals.{then-i-room, else-i-room}

pub loop-i-preserved : goal.loop-i-preserved
loop-i-preserved g c = λ h each.
    let i = c.loop-i.i in
    let so_far = c.loop-i.invariant h each in
    elim c.if-i-room.branch [
      | then-i-room w ↦
          let gives = each c.index-items-i.result _ (record { shown = _; shows = refl; says = record { met = w.f.ensures } }) in
          let put = laid_put h c.args.start i c.args.items.now c.args.out.now c.loop-i.out c.index-items-i.result c.loop-i-test.true c.index-items-i.is so_far in
          cc
      | else-i-room w ↦ w.out-is ∙ laid_past h c.args.start i c.args.items.now c.args.out.now c.loop-i.out c.loop-i-test.true (omega arith) so_far
    ]
