use Rattle.std.proofs.Common.{◌≡◌, ℕ, length, take, set, Some, Ok, sym, refl, ap, ◌∙◌, subst, arith, rules}
use Rattle.std.proofs.lemmas.Bool.{ltb-true}
use Rattle.std.proofs.lemmas.Result.{OkIff-at_ok}
use Rattle.program.specs.Program.{code}
use Rattle.sheet.specs.Lines.{task_on}
use Rattle.sheet.specs.Sheets.{content}
use Rattle.sheet.proofs.Adding.{task_more}
use Rattle.sheet.proofs.Answered.{given}
use Rattle.sheet.proofs.kept.Sheet.take_task.Goals as goal

pub returns : goal.returns
returns g c =
    let s = c.args.self.now in
    let code = code c.add_task.new.self in
    let owed = c.in_ok-owed-2.owed in
    let p = given c.try_from.result c.in_ok-owed-2.ensures.variant in
    let q = OkIff-at_ok _ _ c.in_ok-owed.owed p.0 c.try_from.ensures p.1 in
    let same : owed ≡ c.in_ok-owed.owed = search rules in
    let k = task_more (content s) s.owed code owed refl s.sizes (omega (arith, q.0, same)) (ltb-true _ 16 (sym c.in_ok-add_task.ensures.value)) c.in_ok-add_task.ensures.after in
    ap (task_on (content s)) (sym c.number.ensures ∙ (c.in_ok-owed.ensures.ok_part ∙ ap Some (sym same)))
    ∙ subst (λ (t : ℕ). task_on (content s) (Some owed) ≡ Ok (record { cells = (content s).cells; consts = (content s).consts; owed = take (length code) (set s.owed t owed); code = code })) (sym c.tasks-t.ensures.value) k
