use Rattle.std.proofs.Common.{[], ◌∷◌, decimal, ap, ◌∙◌, arith}
use Rattle.std.specs.List.{flat_map}
use Rattle.std.proofs.lemmas.List.{take_all}
use Rattle.text.specs.Line.{spelt, added}
use Rattle.sheet.specs.Writing.{spaced}
use Rattle.sheet.proofs.LinesOut.{spaced_more, words_short}
use Rattle.sheet.proofs.lines_out.words.Goals as goal

pub loop-n-preserved : goal.loop-n-preserved
loop-n-preserved c =
    spaced_more (40 ∷ c.args.letter ∷ []) (spelt c.loop-n.line) (spelt c.push-in-loop-n.new.self) (spelt c.push_number.new.self) c.args.numbers.now c.loop-n.n-index c.loop-n-test.true c.loop-n.invariant c.push-in-loop-n.ensures (c.push_number.ensures ∙ ap (λ m. added (spelt c.push-in-loop-n.new.self) (decimal m)) c.from.ensures)

pub returns : goal.returns
returns c few =
    words_short c.args.letter c.args.numbers.now (spelt c.loop-n.line) (spelt c.close.new.line) (λ i. omega (arith, c.type_inv.numbers i)) (c.loop-n.invariant ∙ ap (λ ns. added (40 ∷ c.args.letter ∷ []) (flat_map spaced ns)) (take_all c.loop-n.n-index c.args.numbers.now c.loop-n-test.false)) c.close.ensures few
