use Rattle.std.proofs.Common.{sym, refl, ap, ◌∙◌}
use borrow.Rule.Slice.PartMut.{put_mid}
use Rattle.sheet.proofs.Overlaid.{over_past, over_part}
use Rattle.sheet.proofs.output.Out.put.Goals as goal
use Rattle.sheet.proofs.output.Out.put.Goals.{then-at-self, else-at-self}

pub returns-clause-text : goal.returns-clause-text
returns-clause-text c =
    let s = c.args.self.now in
    let bs = c.as_slice-bytes.result.now in
    rw (sym c.as_slice-bytes.ensures) elim c.if-at-self.branch [
      | then-at-self w ↦ record {
        bytes = ap (λ o. o.bytes.ghost_name) w.self-is;
        laid = ap (λ o. o.bytes.now) w.self-is ∙ (ap (put_mid s.end _ s.bytes.now) w.copy_from_slice.ensures.after ∙ over_part s.end w.min-n.result bs s.bytes.now w.if-at-self.true w.min-n.ensures);
        ends = refl;
      }
      | else-at-self w ↦ record {
        bytes = ap (λ o. o.bytes.ghost_name) w.self-is;
        laid = ap (λ o. o.bytes.now) w.self-is ∙ sym (over_past s.end bs s.bytes.now w.if-at-self.false);
        ends = refl;
      }
    ]
