use Rattle.sheet.proofs.Places.{LawfulKind}
use Rattle.sheet.proofs.RoundTrips.{read_back}
use Rattle.sheet.proofs.kept.Sheet.read.Goals as goal

pub returns : goal.returns
returns g c =
    let law : LawfulKind g.K.Kind.form g.K.Kind.reads = record {
      short = g.met.K.Kind.short;
      bracketed = g.met.K.Kind.bracketed;
      back = g.met.K.Kind.back;
      there = g.met.K.Kind.there;
    } in
    record {
      value = c.take_text.ensures;
      back = read_back g.K.Kind.form g.K.Kind.reads law c.args.text.now c.take_text.result c.take_text.ensures;
    }
