use Rattle.std.proofs.Common.{length, rules}
use denote.Param.{layout}
use Rattle.station.proofs.Sizes.{sheet_fits}
use Rattle.station.proofs.kept.Station.write.Goals as goal

pub sheet_in-requires : goal.sheet_in-requires
sheet_in-requires g c = search (rules, sheet_fits (layout g.row.K) (length c.args.slice.now))

pub write-requires : goal.write-requires
write-requires g c = search (rules, sheet_fits (layout g.row.K) (length c.args.slice.now))
