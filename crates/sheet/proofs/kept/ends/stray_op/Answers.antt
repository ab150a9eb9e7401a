use Rattle.std.proofs.Common.{◌≡◌, ◌+◌, length, not, sym, ap, ◌∙◌, rules}
use borrow.Author.Tests.{tests}
use Rattle.std.specs.List.{position}
use Rattle.std.specs.Option.{option_map}
use Rattle.std.proofs.lemmas.Iterator.{YieldsList-from_slice}
use Rattle.std.proofs.lemmas.Iterator.Search.{position_from_yields_List}
use Rattle.sheet.specs.Ends.{lands}
use Rattle.sheet.proofs.Ending.{stray_at}
use Rattle.sheet.proofs.kept.ends.stray_op.Goals as goal

pub returns-in_err-place : goal.returns-in_err-place
returns-in_err-place c =
    let len = length c.args.ops.now in
    let p : c.position.result ≡ position (λ op. not (lands len c.args.tasks op)) c.args.ops.now = position_from_yields_List (λ op. not (lands len c.args.tasks op)) _ _ c.position.result c.position.ensures.ran (YieldsList-from_slice c.args.ops.now (cc)) (λ x b q k. search (rules, tests)) in
    c.from_residual.ensures
    ∙ sym (stray_at len c.args.tasks c.args.first c.args.ops.now c.position.result p ∙ ap (option_map (λ p. c.args.first + p)) c.in_err-place.was)

pub returns : goal.returns
returns c =
    let len = length c.args.ops.now in
    let p : c.position.result ≡ position (λ op. not (lands len c.args.tasks op)) c.args.ops.now = position_from_yields_List (λ op. not (lands len c.args.tasks op)) _ _ c.position.result c.position.ensures.ran (YieldsList-from_slice c.args.ops.now (cc)) (λ x b q k. search (rules, tests)) in
    sym (stray_at len c.args.tasks c.args.first c.args.ops.now c.position.result p ∙ ap (option_map (λ p. c.args.first + p)) c.in_ok-place.was)
