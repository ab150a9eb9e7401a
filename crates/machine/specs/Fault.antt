-- Facing a fault: a task's next operation gives a cause in place of a value.
use Rattle.std.specs.Prelude.{◌≡◌, ℕ, Some, None, Option}
use Rattle.value.specs.declared.codes.Cause.{Cause}
use Rattle.machine.specs.Effect.{Meaning, Program, Local, Effect, faults, asked}
use Rattle.machine.specs.Strong.{Phase, active, outside, State}

module _ {V : Type 0} where
  -- the place and the cause of the fault that a task at l faces, if it faces one
  abbrev pub fault_of : Local V → Effect V → Option (ℕ × Cause)
  fault_of l (faults cause) = Some (l.place, cause)
  fault_of l _ = None

module _ {V : Type 0} (k : Meaning V) (p : Program V) where
  -- only a task that could run now faces one: active or outside
  abbrev pub fault_in : ℕ → Phase V → Option (ℕ × Cause)
  fault_in t (active l) = fault_of l (asked k p t l)
  fault_in t (outside l) = fault_of l (asked k p t l)
  fault_in t _ = None

  -- the next operation of task t gives this cause, at this place
  abbrev pub Faces : State V → ℕ → ℕ → Cause → Type 0
  Faces s t place cause = fault_in t (s.phase t) ≡ Some (place, cause)
