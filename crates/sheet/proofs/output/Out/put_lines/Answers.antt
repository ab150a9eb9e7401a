use Rattle.std.proofs.Common.{subst, arith}
use Rattle.std.specs.List.{flat_map}
use Rattle.std.proofs.lemmas.List.{take_all}
use Rattle.text.specs.Line.{spelt}
use Rattle.sheet.specs.Output.{Lays}
use Rattle.sheet.proofs.LinesPut.{line_put, spelt_at}
use Rattle.sheet.proofs.output.Out.put_lines.Goals as goal

pub loop-item-preserved : goal.loop-item-preserved
loop-item-preserved g c = (
  λ text h. line_put text c.args.items.now c.loop-item.item-index c.item-item.result (spelt c.line_of.result) c.args.self.now c.loop-item.self c.put.new.self c.loop-item-test.true c.item-item.is (spelt_at g.F.Fn c.args.line_of text h _ c.line_of.result c.line_of.ensures) (c.loop-item.invariant.0 text h) c.put.ensures.text,
  omega (arith, c.put.ensures.bound, c.loop-item.invariant.1),
)

pub returns-clause-text : goal.returns-clause-text
returns-clause-text g c text h =
    subst (λ l. Lays c.args.self.now c.loop-item.self (flat_map text l)) (take_all c.loop-item.item-index c.args.items.now (omega (arith, c.loop-item-test.false))) (c.loop-item.invariant.0 text h)
