use Rattle.std.proofs.Common.{◌<◌, length, take, arith, rules, subst}
use Rattle.std.specs.List.{flat_map}
use Rattle.std.proofs.lemmas.List.{length-take-le}
use Rattle.program.specs.Program.{code}
use Rattle.text.specs.Line.{spelt}
use Rattle.sheet.specs.Output.{Lays}
use Rattle.sheet.specs.Writing.{op_text}
use Rattle.sheet.proofs.LinesPut.{task_put}
use Rattle.sheet.proofs.output.Out.put_tasks.Goals as goal

pub loop-t-preserved : goal.loop-t-preserved
loop-t-preserved c =
    let cs = code c.args.program.now in
    let given = take c.tasks.result c.args.owed.now in
    let h : c.loop-t.t < length cs = omega (arith, c.loop-t-test.true, c.tasks.ensures.value, length-take-le c.tasks.result c.args.owed.now (omega (arith, c.tasks.ensures.bound, c.told-owed))) in
    let ops = subst (λ l. Lays c.put.new.self c.put_lines.new.self (flat_map op_text l)) c.ops.ensures.value (c.put_lines.ensures.text op_text (λ x l k. search rules)) in (
      task_put given cs c.loop-t.t (spelt c.task_line.result) c.args.self.now c.loop-t.self c.put.new.self c.put_lines.new.self c.loop-t-test.true h c.task_line.ensures c.loop-t.invariant.0 c.put.ensures.text ops,
      omega (arith, c.put.ensures.bound, c.put_lines.ensures.bound, c.ops.ensures.bound, c.loop-t.invariant.1),
    )
