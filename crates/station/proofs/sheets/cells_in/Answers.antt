use Rattle.std.proofs.Common.{rules}
use Rattle.std.proofs.lemmas.List.{get_or_default}
use Rattle.program.specs.declared.Mode.TheVariants.{Protected}
use Rattle.board.proofs.Places.{made_tabulated}
use Rattle.station.specs.Sheets.{cell_in}
use Rattle.station.proofs.sheets.cells_in.Goals as goal

pub returns : goal.returns
returns g c =
    let zero = g.K.Kind.ZERO in
    made_tabulated _ _ (cell_in zero c.args.board.now c.args.slice.now) 64 (λ i y q less k. search (rules, get_or_default)) c.from_fn.result (record { mode = Protected; value = zero }) c.from_fn.ensures.items
