use Rattle.sheet.proofs.Places.{LawfulKind}
use Rattle.sheet.proofs.ReadThere.{read-writes-back}
use Rattle.sheet.proofs.WrittenBack.{written-reads-back}
use Rattle.sheet.proofs.laws.round_trips_stand.Goals as goal

pub returns : goal.returns
returns g c =
    let law : LawfulKind g.K.Kind.form g.K.Kind.reads = record {
      short = g.met.K.Kind.short;
      bracketed = g.met.K.Kind.bracketed;
      back = g.met.K.Kind.back;
      there = g.met.K.Kind.there;
    } in
    record {
      there = read-writes-back g.K.Kind.form g.K.Kind.reads law;
      back = written-reads-back g.K.Kind.form g.K.Kind.reads law;
    }
