use Rattle.machine.proofs.Passing.{own_side_stands}
use Rattle.machine.proofs.laws.own_side_stands.Goals as goal

pub returns : goal.returns
returns g c = own_side_stands _
