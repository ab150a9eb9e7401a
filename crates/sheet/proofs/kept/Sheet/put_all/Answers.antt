use Rattle.std.proofs.Common.{◌≡◌, ◌++◌, refl, sym, rules}
use Rattle.std.specs.List.{flat_map}
use Rattle.sheet.specs.Sheets.{content}
use Rattle.sheet.specs.Writing.{cell_text, const_text, tasks_text, written}
use Rattle.sheet.proofs.LinesPut.{laid_more}
use Rattle.sheet.proofs.kept.Sheet.put_all.Goals as goal

pub returns : goal.returns
returns g c =
    let s = content c.args.self.now in
    let cell = cell_text g.K.Kind.form in
    let const = const_text g.K.Kind.form in
    let tasks = tasks_text s.owed s.code in
    let cells = c.put_lines.ensures.text cell (λ x l k. search rules) in
    let consts = c.put_lines-2.ensures.text const (λ x l k. search rules) in
    let all : written g.K.Kind.form s ≡ flat_map cell c.cells.result.now ++ (flat_map const c.consts.result.now ++ tasks) = sym (λ i. flat_map cell (c.cells.ensures i) ++ (flat_map const (c.consts.ensures i) ++ tasks)) in
    let p = laid_more _ c.put_lines.new.self c.put_tasks.new.self _ _ _ cells (laid_more _ c.put_lines-2.new.self _ _ tasks _ consts c.put_tasks.ensures refl) all in
    record { text = search (rules, p.laid, p.bytes); end = search (rules, p.ends) }
