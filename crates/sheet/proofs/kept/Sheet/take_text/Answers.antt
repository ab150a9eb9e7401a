use Rattle.std.proofs.Common.{◌≡◌, Ok, sym, ◌∙◌, arith, rules}
use Rattle.std.proofs.lemmas.Result.{err_from_is_err_and, MatchResult-at_err}
use Rattle.sheet.specs.Lines.{judged}
use Rattle.sheet.specs.Sheets.{content}
use Rattle.sheet.specs.declared.parts.Refusal.TheVariants.{Line}
use Rattle.sheet.proofs.Answered.{failed_with}
use Rattle.sheet.proofs.LineLoop.{refused, went_on}
use Rattle.sheet.proofs.kept.Sheet.take_text.Goals as goal

pub returns-in_err-map_err : goal.returns-in_err-map_err
returns-in_err-map_err g c =
    let l = c.loop-first in
    let f = failed_with c.take_line.result c.in_err-map_err.ensures.variant in
    let bad = refused g.K.Kind.reads l.line (content l.sheet) c.in-Some.first.now l.rest.now c.in-Some.after.now c.in-Some.ensures.pieces f.0 (MatchResult-at_err _ _ f.0 f.1 c.take_line.ensures) in
    let p = err_from_is_err_and c.from_residual.result c.from_residual.ensures.1 in
    let e : c.in_err-map_err.field-0.0 ≡ Line f.0 l.line = search rules in
    rw (p.1, p.2, e) search rules

pub loop-first-preserved : goal.loop-first-preserved
loop-first-preserved g c =
    let l = c.loop-first in
    let d : judged g.K.Kind.reads (content l.sheet) c.in-Some.first.now ≡ Ok (content c.take_line.new.self) = search rules in
    let good = went_on g.K.Kind.reads l.line (content l.sheet) c.in-Some.first.now l.rest.now c.in-Some.after.now c.in-Some.ensures.pieces (content c.take_line.new.self) d in
    (sym good ∙ l.invariant.0, let left = c.in-Some.ensures.lengths in omega (arith, l.invariant.1))
