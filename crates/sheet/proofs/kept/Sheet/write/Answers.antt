use Rattle.sheet.specs.Sheets.{content}
use Rattle.sheet.proofs.Places.{LawfulKind}
use Rattle.sheet.proofs.RoundTrips.{write-back}
use Rattle.sheet.proofs.kept.Sheet.write.Goals as goal

pub returns : goal.returns
returns g c =
    let law : LawfulKind g.K.Kind.form g.K.Kind.reads = record {
      short = g.met.K.Kind.short;
      bracketed = g.met.K.Kind.bracketed;
      back = g.met.K.Kind.back;
      there = g.met.K.Kind.there;
    } in
    record {
      answer = c.put_sheet.ensures.answer;
      text = c.put_sheet.ensures.text;
      back = write-back g.K.Kind.form g.K.Kind.reads law (content c.args.self.now) c.args.out.now c.put_sheet.new.out c.put_sheet.result c.put_sheet.ensures.answer c.put_sheet.ensures.text;
    }
