use Rattle.model.proofs.Faults.{fault_inside_stands}
use Rattle.model.proofs.laws.fault_inside_stands.Goals as goal

pub returns : goal.returns
returns g c = fault_inside_stands _
