-- What every accepted call keeps: the strong machine reaches the undone state, and each transaction that is not stale is a private run over it.
use Rattle.std.specs.Prelude.{◌≡◌, ℕ, Bool, true, false, Option}
use Rattle.std.specs.Bool.{then_some}
use Rattle.std.specs.Option.{is_some}
use Rattle.program.specs.declared.Mode.TheVariants.{Protected}
use Rattle.book.specs.Seen.{a_task, a_cell}
use Rattle.machine.specs.Effect.{Meaning, Program}
use Rattle.machine.specs.Strong.{State, given, Reaches}
use Rattle.machine.specs.Fragment.{Footprint, Run}
use Rattle.board.specs.Boards.{mine}
use Rattle.model.specs.Model.{Stage, off, inside, Model, is_inside, undone}

module _ {V : Type 0} where
  abbrev pub is_off : Stage V → Bool
  is_off off = true
  is_off _ = false

  -- what task t has written to a cell, by the cell's owner and value
  abbrev pub written : ℕ → Option ℕ → V → Option V
  written t o v = then_some (mine t o) v

  -- what the transaction of task t has done so far
  abbrev pub footprint : Model V → ℕ → Footprint V
  footprint m t = record { log = λ c. written t (m.owner c) (m.cell c); noted = m.seen.noted t; calls = m.own t }

  module _ (k : Meaning V) (p : Program V) where
    -- the transaction that is open at that stage, unless it is stale, is a private run over the undone cells
    abbrev pub RunAt : Model V → ℕ → Stage V → Type 0
    RunAt m t (inside l o) = m.seen.stale t ≡ false → Run k p t (undone m).cell o l (footprint m t)
    RunAt m t _ = Unit {0}

    pub record Inv (s₀ : State V) (m : Model V) : Type 0 where
      pub reach : Reaches k p s₀ (undone m)
      -- an owned cell is protected and one of the station's, and its owner is inside
      pub guarded : (c : ℕ) → is_some (m.owner c) ≡ true → m.mode c ≡ Protected
      pub ranged : (c : ℕ) → is_some (m.owner c) ≡ true → a_cell c ≡ true
      pub owners : (t c : ℕ) → mine t (m.owner c) ≡ true → is_inside (m.stage t) ≡ true
      -- a task that is not off is one of the program's and of the station's
      pub known : (t : ℕ) → is_off (m.stage t) ≡ false → (given p t ≡ true) × (a_task t ≡ true)
      pub runs : (t : ℕ) → RunAt m t (m.stage t)
