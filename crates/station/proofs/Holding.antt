-- A station's ghost fields say what is kept: what is left by a call or a reading that does as defined has them.
use Rattle.std.proofs.Common.{ℕ, List, Result}
use Rattle.program.specs.declared.Op.{Op}
use Rattle.program.specs.Program.{code}
use Rattle.machine.specs.Effect.{Meaning}
use Rattle.book.specs.declared.Book.{Ghosts}
use Rattle.board.specs.declared.Board.{Board}
use Rattle.faults.specs.declared.Refusal.{Refusal}
use Rattle.engine.specs.declared.Engine.{Engine}
use Rattle.engine.specs.declared.Event.{Event}
use Rattle.engine.specs.Calls.{called}
use Rattle.engine.specs.World.{After, world_of, Leaves, Does}
use Rattle.station.specs.declared.kept.Station.{Station}
use Rattle.station.specs.Rules.{BoardSizes, RowSizes, TableSizes, OwnedWell, StandsWell, InBounds, TasksClosed}
use Rattle.station.specs.Kept.{Kept}
use Rattle.station.proofs.CallsKeep.{calls_keep}

-- the ghost fields
abbrev pub Holds : Board → List (List Op) → ℕ → ℕ → Type 0
Holds b ops cells consts = record {
  sizes : BoardSizes b;
  counts : RowSizes b;
  limits : TableSizes ops cells consts;
  bounds : InBounds ops cells consts;
  ends : TasksClosed ops;
  owners : OwnedWell ops b;
  places : StandsWell ops b;
}

module _ {B X V : Type 0} {book : Ghosts B} {s n : Engine B} {xs : List V} {r : X} {a : After X V} where
  pub does_hold : Leaves book s n xs r a → Kept a.world → Holds n.board (code n.program) n.cells n.consts
  does_hold d kept = rw (d.board, d.table, d.cells, d.consts) assumption

module _ {B V : Type 0} (k : Meaning V) (book : Ghosts B) (s : Station B) (ys : List V) (t : ℕ) (e : Event) {n : Engine B} {xs : List V} {r : Result (Unit {0}) Refusal} where
  pub call_holds : Does book s.engine n xs r (called k (world_of book s.engine ys) t (book.left s.engine.book) e) → Holds n.board (code n.program) n.cells n.consts
  call_holds d = does_hold d.leaves (calls_keep k (world_of book s.engine ys) t (book.left s.engine.book) e assumption)
