use Rattle.std.proofs.Common.{sym, refl, ◌∙◌}
use Rattle.std.proofs.lemmas.Bool.{and_parts}
use Rattle.program.specs.Program.{code}
use Rattle.sheet.specs.Lines.{op_line}
use Rattle.sheet.specs.Sheets.{content}
use Rattle.sheet.proofs.Adding.{op_more}
use Rattle.sheet.proofs.OpLines.{op_accepted}
use Rattle.sheet.proofs.kept.Sheet.take_op.Goals as goal

pub returns : goal.returns
returns g c =
    let s = content c.args.self.now in
    let read = (λ i. op_line (sym c.len.ensures.value i) (sym c.len-2.ensures.value i) c.args.line.now) ∙ sym c.in_ok-op.ensures in
    op_accepted s c.args.line.now (λ z. c.if-tasks-eq0.false (c.tasks.ensures.value ∙ z)) c.in_ok-op.op read
    ∙ op_more s c.args.self.now.owed (code c.add_op.new.self) c.in_ok-op.op refl (and_parts _ _ (sym c.in_ok-add_op.ensures.value)).1 c.in_ok-add_op.ensures.after
