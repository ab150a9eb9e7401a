use Rattle.std.proofs.Common.{decimal, ap, ◌∙◌, arith}
use Rattle.std.proofs.lemmas.Fmt.{length-decimal-le}
use Rattle.text.specs.Line.{spelt, added}
use Rattle.sheet.specs.Lines.{task_head}
use Rattle.sheet.specs.Writing.{line_end}
use Rattle.sheet.proofs.LinesOut.{three}
use Rattle.sheet.proofs.lines_out.task_line.Goals as goal

pub returns : goal.returns
returns c =
    let n = c.args.owed in
    let d = length-decimal-le 3 n (omega arith) (omega (arith, c.ranges.owed)) (omega (arith, c.ranges.owed)) in
    three task_head (decimal n) line_end (spelt c.new-line.result) (spelt c.extend.new.self) (spelt c.push_number.new.self) (spelt c.close.new.line) c.new-line.ensures c.extend.ensures (c.push_number.ensures ∙ ap (λ m. added (spelt c.extend.new.self) (decimal m)) c.from.ensures) c.close.ensures (omega arith)
