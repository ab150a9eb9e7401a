use Rattle.model.proofs.Kept.{kept_stands}
use Rattle.model.proofs.laws.moves_keep_stands.Goals as goal

pub returns : goal.returns
returns g c = kept_stands _
