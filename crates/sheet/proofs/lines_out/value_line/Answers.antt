use Rattle.std.proofs.Common.{[], unwrap_or, ap, ◌∙◌, arith}
use Rattle.text.specs.Line.{spelt, added}
use Rattle.sheet.specs.Writing.{line_end}
use Rattle.sheet.proofs.LinesOut.{formed_short, three}
use Rattle.sheet.proofs.lines_out.value_line.Goals as goal

pub returns : goal.returns
returns g c few =
    let form = unwrap_or (g.K.Kind.form c.args.value) [] in
    let short = formed_short (g.K.Kind.form c.args.value) (g.met.K.Kind.short c.args.value) in
    three c.args.head.now form line_end (spelt c.new-line.result) (spelt c.extend.new.self) (spelt c.extend-2.new.self) (spelt c.close.new.line) c.new-line.ensures c.extend.ensures (c.extend-2.ensures ∙ ap (added (spelt c.extend.new.self)) (c.as_slice.ensures ∙ c.form_of-form.ensures)) c.close.ensures (omega arith)
