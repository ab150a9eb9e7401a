use Rattle.board.proofs.Layings.{blanked_is}
use Rattle.station.proofs.laying.blank.Goals as goal

pub returns : goal.returns
returns g c = let b = blanked_is c.ZERO.result c.args.slice.now 320 c.requires in cc
