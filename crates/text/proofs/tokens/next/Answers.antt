use Rattle.std.proofs.Common.{arith}
use Rattle.std.proofs.lemmas.Grind.{common_steps}
use Rattle.text.proofs.Lexing.{first_number, first_word}
use Rattle.text.proofs.tokens.next.Goals as goal

pub returns-then-is_figure-clause-lexes : goal.returns-then-is_figure-clause-lexes
returns-then-is_figure-clause-lexes c =
    grind (arith, common_steps, first_number _ _ _ c.in_ok-first.ensures.cases.0 c.if-not-is_atom.ensures c.if-is_figure.ensures)

pub returns-else-is_figure-clause-lexes : goal.returns-else-is_figure-clause-lexes
returns-else-is_figure-clause-lexes c =
    grind (arith, common_steps, first_word _ _ _ c.in_ok-first.ensures.cases.0 c.if-not-is_atom.ensures c.if-is_figure.ensures)
