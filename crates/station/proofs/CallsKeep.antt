-- Every call keeps what a station keeps.
use Rattle.std.proofs.Common.{◌≡◌, ℕ, ◌+◌, ◌<◌, true, false, ltb, List, length, refl, arith}
use Rattle.std.proofs.lemmas.List.{length-replicate}
use Rattle.std.proofs.lemmas.Bool.Decides.{nat_tests}
use Rattle.program.specs.declared.Op.{Op}
use Rattle.program.specs.declared.Op.TheVariants.{Finish, Leave}
use Rattle.sheet.specs.Ends.{closes}
use Rattle.machine.specs.Effect.{Meaning}
use Rattle.board.specs.declared.Row.{Row}
use Rattle.board.specs.declared.Board.{Board}
use Rattle.board.specs.declared.TaskState.{TaskState}
use Rattle.board.specs.declared.TaskState.TheVariants.{Idle, Ready, Inside, Outside}
use Rattle.board.specs.Boards.{row_at, state_at, with_row, with_rows}
use Rattle.board.specs.Loops.{delivered}
use Rattle.engine.specs.declared.Event.{Event}
use Rattle.engine.specs.declared.Event.TheVariants.{Admit, Open, Step, Commit, Undo}
use Rattle.engine.specs.Calls.{admits, opens, ends, commits, undoes, meets, let_go}
use Rattle.engine.specs.Lookup.{op_at}
use Rattle.engine.specs.World.{World}
use Rattle.station.specs.Rules.{ops_of, stands}
use Rattle.station.specs.Kept.{KeptBoard, Kept, CallsKeep}
use Rattle.station.proofs.Lookups.{lands_at, goes_on, not_empty}
use Rattle.station.proofs.Loops.{length-delivered, delivered_at, length-released, released_at}
use Rattle.station.proofs.Steps.{written, ops_count, board_keeps, inside_keeps, outside_keeps}

module _ (code : List (List Op)) (b : Board) (t : ℕ) where
  -- a row that stands well where it is written
  stands_on : (u : ℕ) (r : Row) → stands (length (ops_of code t)) r.state ≡ true → stands (length (ops_of code u)) (state_at b u) ≡ true
      → stands (length (ops_of code u)) (state_at (with_row b t r) u) ≡ true
  stands_on u r new old = grind (arith, written)

  -- A task that releases its cells may go anywhere.
  release_keeps : (q : TaskState) → KeptBoard code b → stands (length (ops_of code t)) q ≡ true → KeptBoard code (let_go b t q)
  release_keeps q kb stand =
      let long = length-released t b.owners 64 in
      record {
        sizes = grind (arith, written);
        row_sizes = grind (arith, written);
        owned_well = λ c. let at = released_at t b.owners 64 c kb.sizes.1 in let old = kb.owned_well c in grind (arith, written);
        stands_well = λ u. stands_on u _ stand (kb.stands_well u);
      }

module _ {V : Type 0} (k : Meaning V) (w : World V) (kept : Kept w) (t : ℕ) (is : t < length w.code) where
  -- Owed calls that are delivered change nothing that is kept.
  delivery_keeps : (counts : List ℕ) → KeptBoard w.code (with_rows w.board (delivered counts w.board.rows 16))
  delivery_keeps counts = grind (arith, nat_tests, length-delivered counts w.board.rows 16, delivered_at counts w.board.rows 16)

  admit_keeps : state_at w.board t ≡ Idle → Kept (admits k w t).world
  admit_keeps now =
      let one = not_empty kept.table t is in
      grind (arith, written)

  open_keeps : (p : ℕ) → state_at w.board t ≡ Ready p → Kept (opens k w t p).world
  open_keeps p now = grind (arith, written, length-replicate)

  -- Where a transaction ends its task goes on at a place of its own.
  end_keeps : (q : TaskState) → stands (ops_count w t) q ≡ true → Kept (ends k w t q).world
  end_keeps q stand =
      let go = release_keeps w.code (with_rows w.board (delivered (row_at w.board t).own w.board.rows 16)) t q (delivery_keeps (row_at w.board t).own) stand in
      grind arith

  -- At a finish the task is idle, and at a leave it goes on outside, at the next place.
  commit_keeps : (p : ℕ) (op : Op) → (closes op ≡ false → ltb (p + 1) (ops_count w t) ≡ true) → Kept (commits k w t p op).world
  commit_keeps p Finish on = end_keeps Idle refl
  commit_keeps p Leave on = end_keeps (Outside (p + 1)) (on refl)
  commit_keeps p _ on = kept

  -- An undone task is ready where it opened.
  undo_keeps : (p o : ℕ) → state_at w.board t ≡ Inside p o → Kept (undoes k w t o).world
  undo_keeps p o now = let here = kept.board.stands_well t in board_keeps w kept _ _ _ (release_keeps w.code w.board t (Ready o) kept.board (grind (arith, nat_tests)))

  -- a task stands at a place of its own
  inside_at : (p o : ℕ) → state_at w.board t ≡ Inside p o → p < ops_count w t
  inside_at p o now = let here = kept.board.stands_well t in grind (arith, nat_tests)

  outside_at : (p : ℕ) → state_at w.board t ≡ Outside p → p < ops_count w t
  outside_at p now = let here = kept.board.stands_well t in grind (arith, nat_tests)

  meet_keeps : (left : ℕ → ℕ) (q : TaskState) (e : Event) → state_at w.board t ≡ q → Kept (meets k w t left q e).world
  meet_keeps left Idle Admit now = admit_keeps now
  meet_keeps left (Ready p) Open now = open_keeps p now
  meet_keeps left (Inside p o) Step now =
      inside_keeps w kept k t p is left o now (op_at w.code t p) (goes_on kept.table t p (inside_at p o now)) (lands_at kept.table t p)
  meet_keeps left (Inside p o) Commit now = commit_keeps p (op_at w.code t p) (goes_on kept.table t p (inside_at p o now))
  meet_keeps left (Inside p o) Undo now = undo_keeps p o now
  meet_keeps left (Outside p) Step now =
      outside_keeps w kept k t p is now (op_at w.code t p) (goes_on kept.table t p (outside_at p now)) (lands_at kept.table t p)
  meet_keeps left _ _ now = kept

-- Every call keeps it, whether it is accepted or refused.
pub calls_keep : {V : Type 0} (k : Meaning V) → CallsKeep k
calls_keep k w t left e kept = grind (arith, nat_tests, meet_keeps k w kept t)
