use Rattle.std.proofs.Common.{length, rules}
use denote.Param.{layout}
use Rattle.sheet.specs.Sheets.{content}
use Rattle.engine.specs.World.{world_of}
use Rattle.station.proofs.Fresh.{set_up_keeps}
use Rattle.station.proofs.Holding.{does_hold}
use Rattle.station.proofs.Sizes.{sheet_fits}
use Rattle.station.proofs.kept.Station.read.Goals as goal

pub read-requires : goal.read-requires
read-requires g c = search (rules, sheet_fits (layout g.row.K) (length c.args.slice.now))

pub set_up-requires : goal.set_up-requires
set_up-requires g c = search (rules, sheet_fits (layout g.row.K) (length c.args.slice.now))

pub invariant_of-self : goal.invariant_of-self
invariant_of-self g c =
    does_hold c.set_up.ensures (set_up_keeps g.K.Kind.ZERO (world_of g.B.Book c.args.self.now.engine c.args.slice.now) (content c.in_ok-sheet.sheet) c.in_ok-sheet.ensures.back.0)
