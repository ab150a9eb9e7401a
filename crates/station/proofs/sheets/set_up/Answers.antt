use Rattle.std.proofs.Common.{rules}
use Rattle.board.specs.Laying.{itself}
use Rattle.station.specs.Sheets.{cell_value}
use Rattle.station.proofs.sheets.set_up.Goals as goal

pub returns : goal.returns
returns g c =
    let cells = c.lay.ensures cell_value (λ x y r. search rules) in
    let consts = c.lay-2.ensures itself (λ x y r. search rules) in
    search rules
