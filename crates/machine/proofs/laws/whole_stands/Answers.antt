use Rattle.machine.proofs.Wholes.{whole_stands}
use Rattle.machine.proofs.laws.whole_stands.Goals as goal

pub returns : goal.returns
returns g c = whole_stands _
