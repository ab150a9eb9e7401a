-- What is so before and after an event that has occurred.
use Rattle.std.proofs.Common.{◌≡◌, ℕ, true, false, eqb, ◌⊎◌, Some, refl, arith}
use Rattle.machine.specs.Effect.{Meaning, Program, Local}
use Rattle.machine.specs.Strong.{Phase, ready, active, State, Event, admits, opens, runs, is_active, placed, given, quiet, event}
use Rattle.machine.specs.MachineLaws.{FaultsStop}

abbrev pub task_of : Event → ℕ
task_of (admits t) = t
task_of (opens t) = t
task_of (runs t) = t

module _ {V : Type 0} (k : Meaning V) (p : Program V) (s n : State V) where
  -- the event's task is given, no other moves, and it was active or none was
  pub record Occurred (t : ℕ) : Type 0 where
    pub known : given p t ≡ true
    pub others : (u : ℕ) → eqb u t ≡ false → n.phase u ≡ s.phase u
    pub turn : (quiet p s ≡ true) ⊎ (is_active (s.phase t) ≡ true)

  module _ (t : ℕ) where
    admission : event k p (admits t) s ≡ Some n → Occurred t
    admission is = grind arith

    opening : event k p (opens t) s ≡ Some n → Occurred t
    opening is = grind arith

    operation : event k p (runs t) s ≡ Some n → Occurred t
    operation is = grind arith

    -- an opening, in full
    pub was_ready : (ph : Phase V) → s.phase t ≡ ph → event k p (opens t) s ≡ Some n → (l : Local V) × (ph ≡ ready l)
    was_ready (ready l) at is = (l, refl)
    was_ready _ at is = grind arith

    pub opened_is : (l : Local V) → s.phase t ≡ ready l → event k p (opens t) s ≡ Some n → (given p t ≡ true) × (quiet p s ≡ true) × (n ≡ placed s t (active l))
    opened_is l at is = grind arith

  pub occurred : (e : Event) → event k p e s ≡ Some n → Occurred (task_of e)
  occurred (admits t) = admission t
  occurred (opens t) = opening t
  occurred (runs t) = operation t

-- a task at a fault does nothing, on either side
pub faults_stop_stands : {V : Type 0} (k : Meaning V) → FaultsStop k
faults_stop_stands k p s t place cause h = grind arith
