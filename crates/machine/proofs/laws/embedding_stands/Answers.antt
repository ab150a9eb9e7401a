use Rattle.machine.proofs.Passing.{embedding_stands}
use Rattle.machine.proofs.laws.embedding_stands.Goals as goal

pub returns : goal.returns
returns g c = embedding_stands _
