use Rattle.std.proofs.Common.{◌≡◌, ◌&&◌, is_some, sym, ap, ◌∙◌, rules}
use borrow.Author.Tests.{tests}
use Rattle.std.specs.List.{list_all}
use Rattle.std.proofs.lemmas.Iterator.{YieldsList-from_slice}
use Rattle.std.proofs.lemmas.Iterator.Search.{all_from_yields_List}
use Rattle.sheet.specs.Sheets.{content}
use Rattle.sheet.proofs.kept.Sheet.is_lawful.Goals as goal

pub returns-then-all : goal.returns-then-all
returns-then-all g c =
    let s = content c.args.self.now in
    let form = g.K.Kind.form in
    let a : c.all.result ≡ list_all (λ c. is_some (form c.value)) s.cells = all_from_yields_List (λ c. is_some (form c.value)) _ _ c.all.result c.all.ensures.ran (YieldsList-from_slice s.cells (cc)) (λ x b q k. search (rules, tests)) in
    let b : c.all-then-all.result ≡ list_all (λ v. is_some (form v)) s.consts = all_from_yields_List (λ v. is_some (form v)) _ _ c.all-then-all.result c.all-then-all.ensures.ran (YieldsList-from_slice s.consts (cc)) (λ x b q k. search (rules, tests)) in
    b ∙ ap (λ t. t && list_all (λ v. is_some (form v)) s.consts) (sym c.if-all.true ∙ a)
