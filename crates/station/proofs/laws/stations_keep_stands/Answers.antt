use Rattle.machine.specs.Effect.{meaning_of}
use Rattle.station.proofs.CallsKeep.{calls_keep}
use Rattle.station.proofs.Fresh.{new_keeps, readings_keep}
use Rattle.station.proofs.laws.stations_keep_stands.Goals as goal

pub returns : goal.returns
returns g c =
    let k = g.K.Kind in
    record { new = new_keeps; calls = calls_keep (meaning_of k); readings = readings_keep k.ZERO k.form k.reads c.round_trips_stand.ensures.there }
