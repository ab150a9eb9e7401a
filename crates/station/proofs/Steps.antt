-- Every step of a task keeps what a station keeps.
use Rattle.std.proofs.Common.{◌≡◌, ℕ, ◌+◌, ◌<◌, Bool, true, false, cond, ltb, leb, List, length, get_or, Some, None, Ok, Err, Option, Result, refl, arith}
use Rattle.std.proofs.lemmas.List.{set_past, length-set, get_or-set_same, get_or-set_other}
use Rattle.std.proofs.lemmas.Bool.Decides.{nat_tests}
use Rattle.std.proofs.lemmas.Grind.{common_steps}
use Rattle.value.specs.declared.codes.Cause.{Cause}
use Rattle.program.specs.declared.Mode.{Mode}
use Rattle.program.specs.declared.Mode.TheVariants.{Unprotected}
use Rattle.program.specs.declared.Op.{Op}
use Rattle.program.specs.declared.Op.TheVariants.{Read, Write, Constant, Apply, Jump, JumpIfFalse, Await, Start, Leave, Unprotect}
use Rattle.sheet.specs.Ends.{closes, lands}
use Rattle.machine.specs.Effect.{Meaning}
use Rattle.book.specs.Seen.{Seen}
use Rattle.board.specs.declared.Board.{Board}
use Rattle.board.specs.declared.TaskState.{TaskState}
use Rattle.board.specs.declared.TaskState.TheVariants.{Inside, Outside}
use Rattle.board.specs.Boards.{row_at, state_at, owner, mode_of, is_protected, with_state, with_owner, with_owed, with_mode, counted}
use Rattle.engine.specs.Operations.{applies_to, writes_owned_by, unprotects_owned_by, step_inside, step_outside}
use Rattle.engine.specs.World.{World, After, changed}
use Rattle.station.specs.Rules.{ops_of, well_owned}
use Rattle.station.specs.Kept.{KeptBoard, Kept}

-- what a list has at each place after a write, and what a test tells
pub ruleset written = (nat_tests, get_or-set_same, get_or-set_other, set_past, length-set)

-- how many operations a task has
abbrev pub ops_count : {V : Type 0} → World V → ℕ → ℕ
ops_count w t = length (ops_of w.code t)

-- of two answers, whichever is given
pub either_keeps : {X V : Type 0} (x : Bool) (a b : After X V) → Kept a.world → Kept b.world → Kept (cond x a b).world
either_keeps true a b f g = f
either_keeps false a b f g = g

-- The writes that a step makes beside its task's own state.
module _ (code : List (List Op)) (b : Board) (kb : KeptBoard code b) (t p : ℕ) where
  -- a protected cell is owned by a task that is inside
  owns : (c o n : ℕ) → state_at b t ≡ Inside p o → t < length code → ltb n (length (ops_of code t)) ≡ true → is_protected (mode_of b c) ≡ true
      → KeptBoard code (with_state (with_owner b c t) t (Inside n o))
  owns c o n now is on guard = grind (arith, common_steps)

  counts : (u o : ℕ) → state_at b t ≡ Inside p o → t < length code → ltb (p + 1) (length (ops_of code t)) ≡ true → KeptBoard code (counted b t u (Inside (p + 1) o))
  counts u o now is on = grind (arith, common_steps)

  -- what a task is owed says nothing of where it stands
  owned_still : (u n : ℕ) (m : Mode) (o : Option ℕ) → well_owned code b m o ≡ true → well_owned code (with_owed b u n) m o ≡ true
  owned_still u n m o h = grind (arith, written)

  owes : (u n : ℕ) → KeptBoard code (with_owed b u n)
  owes u n = grind (arith, written, owned_still u n)

  -- nor does it move another task
  still_out : (u n : ℕ) → state_at b t ≡ Outside p → state_at (with_owed b u n) t ≡ Outside p
  still_out u n now = grind (arith, written)

  goes_on_out : (n : ℕ) → state_at b t ≡ Outside p → ltb n (length (ops_of code t)) ≡ true → KeptBoard code (with_state b t (Outside n))
  goes_on_out n now on = grind (arith, written)

  frees : (c n : ℕ) → state_at b t ≡ Outside p → owner b c ≡ None → ltb n (length (ops_of code t)) ≡ true → KeptBoard code (with_state (with_mode b c Unprotected) t (Outside n))
  frees c n now free on = grind (arith, common_steps)

module _ {V : Type 0} (w : World V) (kept : Kept w) where
  -- nothing else of the world is kept
  pub board_keeps : (b : Board) (xs : List V) (m : Seen) → KeptBoard w.code b → Kept (changed w b xs m)
  board_keeps b xs m kb = record { table = kept.table; board = kb }

  module _ (k : Meaning V) (t p : ℕ) (is : t < length w.code) where
    -- a value is loaded, or there is none
    load_keeps : (to : ℕ) (q : TaskState) (r : Result V Cause) → KeptBoard w.code (with_state w.board t q) → Kept (applies_to k w t to q r).world
    load_keeps to q (Ok v) kb = board_keeps _ _ _ kb
    load_keeps to q (Err cause) kb = kept

    -- A cell that is written inside is owned only if it is protected.
    write_keeps : (left : ℕ → ℕ) (o cell from : ℕ) → state_at w.board t ≡ Inside p o → ltb (p + 1) (ops_count w t) ≡ true → (u : Option ℕ)
        → Kept (writes_owned_by k w t u left cell from (Inside (p + 1) o)).world
    write_keeps left o cell from now on None = let go = owns w.code w.board kept.board t p cell o (p + 1) now is on in grind arith
    write_keeps left o cell from now on (Some u) = grind (arith, written)

    pub inside_keeps : (left : ℕ → ℕ) (o : ℕ) → state_at w.board t ≡ Inside p o → (op : Op)
        → (closes op ≡ false → ltb (p + 1) (ops_count w t) ≡ true) → lands (ops_count w t) (length w.code) op ≡ true
        → Kept (step_inside k w t left p o op).world
    inside_keeps left o now (Read to cell) on land = board_keeps _ _ _ (grind (arith, written))
    inside_keeps left o now (Write cell from) on land = write_keeps left o cell from now (on refl) (owner w.board cell)
    inside_keeps left o now (Constant to n) on land = board_keeps _ _ _ (grind (arith, written))
    inside_keeps left o now (Apply operation to i j) on land = load_keeps to _ _ (grind (arith, written))
    inside_keeps left o now (Jump target) on land = board_keeps _ _ _ (grind (arith, written))
    inside_keeps left o now (JumpIfFalse test target) on land = grind (arith, written)
    inside_keeps left o now (Await test) on land = grind (arith, written)
    inside_keeps left o now (Start u) on land = either_keeps (leb 255 (get_or (row_at w.board t).own u 0)) _ _ kept (board_keeps _ _ _ (counts w.code w.board kept.board t p u o now is (on refl)))
    inside_keeps left o now _ on land = kept

    -- It is unprotected only where nobody owns it.
    unprotect_keeps : (cell : ℕ) → state_at w.board t ≡ Outside p → ltb (p + 1) (ops_count w t) ≡ true → (u : Option ℕ) → owner w.board cell ≡ u
        → Kept (unprotects_owned_by k w t u cell (Outside (p + 1))).world
    unprotect_keeps cell now on None free = board_keeps _ _ _ (frees w.code w.board kept.board t p cell (p + 1) now free on)
    unprotect_keeps cell now on (Some u) free = kept

    pub outside_keeps : state_at w.board t ≡ Outside p → (op : Op)
        → (closes op ≡ false → ltb (p + 1) (ops_count w t) ≡ true) → lands (ops_count w t) (length w.code) op ≡ true
        → Kept (step_outside k w t p op).world
    outside_keeps now (Apply operation to i j) on land = load_keeps to _ _ (grind (arith, written))
    outside_keeps now (JumpIfFalse test target) on land = grind (arith, written)
    outside_keeps now (Await test) on land = grind (arith, written)
    outside_keeps now (Start u) on land =
        let b = w.board in
        let n = (row_at b u).owed + 1 in
        either_keeps (leb 255 (row_at b u).owed) _ _ kept
        (board_keeps _ _ _ (goes_on_out w.code (with_owed b u n) (owes w.code b kept.board t p u n) t p (p + 1) (still_out w.code b kept.board t p u n now) (on refl)))
    outside_keeps now Leave on land = kept
    outside_keeps now (Unprotect cell) on land = unprotect_keeps cell now (on refl) (owner w.board cell) refl
    outside_keeps now _ on land = board_keeps _ _ _ (grind (arith, written))
