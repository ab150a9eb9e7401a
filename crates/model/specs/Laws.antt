-- Laws of the engine's moves, for every program over a kind of value.
use Rattle.std.specs.Prelude.{◌≡◌, ℕ, true, false}
use Rattle.std.specs.Option.{is_some}
use Rattle.value.specs.declared.codes.Cause.{Cause}
use Rattle.book.specs.Seen.{a_task}
use Rattle.machine.specs.Effect.{Meaning, Program, Local, faults, asked}
use Rattle.machine.specs.Strong.{active, outside, State, given, quiet, Reaches}
use Rattle.machine.specs.Fault.{Faces}
use Rattle.machine.specs.Separation.{Separated}
use Rattle.model.specs.Model.{inside, out, Model, is_inside, undone}
use Rattle.model.specs.Moves.{Move}
use Rattle.model.specs.Inv.{is_off, Inv}
use Rattle.model.specs.Parts.{part_of, ShiftsBy}

module _ {V : Type 0} (k : Meaning V) where
  -- An accepted call keeps the invariant, and moves the undone state by its part of the strong machine's way.
  abbrev pub Kept : Type 0
  Kept = (p : Program V) (s₀ : State V) (m n : Model V) → Separated k p s₀ → Inv k p s₀ m → (v : Move k p m n)
      → Inv k p s₀ n × ShiftsBy k p (part_of v) (undone m) (undone n)

  -- The invariant holds at first, where no task is inside and no cell is owned.
  abbrev pub AtFirst : Type 0
  AtFirst = (p : Program V) (m : Model V) → ((t : ℕ) → is_inside (m.stage t) ≡ false) → ((c : ℕ) → is_some (m.owner c) ≡ false)
      → ((t : ℕ) → is_off (m.stage t) ≡ false → (given p t ≡ true) × (a_task t ≡ true))
      → Inv k p (undone m) m

  -- A fault inside a transaction that is not stale is one that the strong machine comes to, in a fragment of that task.
  abbrev pub FaultInside : Type 0
  FaultInside = (p : Program V) (s₀ : State V) (m : Model V) → Inv k p s₀ m
      → (t : ℕ) (l o : Local V) (cause : Cause) → m.stage t ≡ inside l o → m.seen.stale t ≡ false → asked k p t l ≡ faults cause
      → (s : State V) × Reaches k p s₀ s × (s.phase t ≡ active l) × Faces k p s t l.place cause

  -- A fault outside is one that the task faces in the undone state, as a driver.
  abbrev pub FaultOutside : Type 0
  FaultOutside = (p : Program V) (s₀ : State V) (m : Model V) → Inv k p s₀ m
      → (t : ℕ) (l : Local V) (cause : Cause) → m.stage t ≡ out l → asked k p t l ≡ faults cause
      → Reaches k p s₀ (undone m) × (quiet p (undone m) ≡ true) × ((undone m).phase t ≡ outside l) × Faces k p (undone m) t l.place cause
