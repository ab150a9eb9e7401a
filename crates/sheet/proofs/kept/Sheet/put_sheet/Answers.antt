use Rattle.std.proofs.Common.{◌≤◌, length, sym, arith}
use Rattle.sheet.specs.Sheets.{content}
use Rattle.sheet.specs.Writing.{written}
use Rattle.sheet.proofs.Overwritten.{overwritten}
use Rattle.sheet.proofs.kept.Sheet.put_sheet.Goals as goal

pub returns-clause-text : goal.returns-clause-text
returns-clause-text g c =
    let s = content c.args.self.now in
    let fits : length (written g.K.Kind.form s) ≤ length c.args.out.now = omega (arith, c.put_all.ensures.end, c.if-put_all-out.false) in
    overwritten g.K.Kind.form s c.args.out.now (sym c.if-not-is_lawful.ensures) fits c.put_all-2.new.out c.put_all-2.ensures.text
