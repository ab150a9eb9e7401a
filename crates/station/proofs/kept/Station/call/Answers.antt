use Rattle.machine.specs.Effect.{meaning_of}
use Rattle.station.proofs.Holding.{call_holds}
use Rattle.station.proofs.kept.Station.call.Goals as goal

pub invariant_of-self : goal.invariant_of-self
invariant_of-self g c =
    call_holds (meaning_of g.K.Kind) g.B.Book c.args.self.now c.args.slice.now c.args.t c.args.event c.call.ensures
