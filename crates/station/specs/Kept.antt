-- What every station keeps, together; and that calls and readings keep it.
use Rattle.std.specs.Prelude.{ℕ, List, [], Result}
use Rattle.text.specs.Tokens.{Tok}
use Rattle.value.specs.declared.codes.Fault.{Fault}
use Rattle.program.specs.declared.Op.{Op}
use Rattle.machine.specs.Effect.{Meaning}
use Rattle.book.specs.Seen.{Seen}
use Rattle.board.specs.declared.Board.{Board}
use Rattle.engine.specs.declared.Event.{Event}
use Rattle.engine.specs.Calls.{called}
use Rattle.station.specs.Sheets.{no_board, reads_sheet}
use Rattle.engine.specs.World.{World}
use Rattle.station.specs.Rules.{BoardSizes, RowSizes, TableSizes, OwnedWell, StandsWell, InBounds, TasksClosed}

-- of what the sheet gave; no call changes it
pub record KeptTable (code : List (List Op)) (cells consts : ℕ) : Type 0 where
  pub sizes : TableSizes code cells consts
  pub in_bounds : InBounds code cells consts
  pub tasks_closed : TasksClosed code

-- of the board, which calls change
pub record KeptBoard (code : List (List Op)) (b : Board) : Type 0 where
  pub sizes : BoardSizes b
  pub row_sizes : RowSizes b
  pub owned_well : OwnedWell code b
  pub stands_well : StandsWell code b

pub record Kept {V : Type 0} (w : World V) : Type 0 where
  pub table : KeptTable w.code w.cells w.consts
  pub board : KeptBoard w.code w.board

-- a station that has read nothing
abbrev pub unread : {V : Type 0} → List V → Seen → World V
unread xs m = record { board = no_board; slice = xs; seen = m; code = []; cells = 0; consts = 0 }

-- a new station keeps it
abbrev pub NewKeeps : Type 0 → Type 0
NewKeeps V = (xs : List V) (m : Seen) → Kept (unread xs m)

-- every call keeps it, refused or not
abbrev pub CallsKeep : {V : Type 0} → Meaning V → Type 0
CallsKeep {V} k = (w : World V) (t : ℕ) (left : ℕ → ℕ) (e : Event) → Kept w → Kept (called k w t left e).world

-- every reading of a sheet keeps it, refused or not
abbrev pub ReadingsKeep : {V : Type 0} → V → (List Tok → Result V Fault) → Type 0
ReadingsKeep {V} nought reads = (bs : List ℕ) (w : World V) → Kept w → Kept (reads_sheet nought reads bs w).world
