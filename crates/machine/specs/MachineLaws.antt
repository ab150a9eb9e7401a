-- Laws of the strong machine, for every program over a kind of value.
use Rattle.std.specs.Prelude.{◌≡◌, ℕ, true, ◌≢◌, Some, None}
use Rattle.value.specs.declared.codes.Cause.{Cause}
use Rattle.machine.specs.Effect.{Meaning, Program}
use Rattle.machine.specs.Strong.{State, Event, opens, runs, is_active, given, quiet, event, Reaches}
use Rattle.machine.specs.Fault.{Faces}
use Rattle.machine.specs.Separation.{Separated}

module _ {V : Type 0} (k : Meaning V) where
  -- From a state with no task active, never are two tasks active at once.
  abbrev pub OneAtATime : Type 0
  OneAtATime = (p : Program V) (s₀ s : State V) → quiet p s₀ ≡ true → Reaches k p s₀ s
      → (t u : ℕ) → given p t ≡ true → given p u ≡ true → is_active (s.phase t) ≡ true → is_active (s.phase u) ≡ true → t ≡ u

  -- What is separated from the start on is so from every later state on.
  abbrev pub Lasts : Type 0
  Lasts = (p : Program V) (s₀ s : State V) → Separated k p s₀ → Reaches k p s₀ s → Separated k p s

  -- A task that faces a fault does not run.
  abbrev pub FaultsStop : Type 0
  FaultsStop = (p : Program V) (s : State V) (t place : ℕ) (cause : Cause) → Faces k p s t place cause → event k p (runs t) s ≡ None

  module _ (p : Program V) (t : ℕ) where
    -- events, whichever, lead from s to another state, and task t is active in each state before the last
    pub data Stretch (s : State V) : State V → Type 0 where
      here : Stretch s s
      more : {m n : State V} (e : Event) → Stretch s m → is_active (m.phase t) ≡ true → event k p e m ≡ Some n → Stretch s n

  -- From its opening to its end a fragment is undisturbed: no mode changes, and no other task's phase.
  abbrev pub Undisturbed : Type 0
  Undisturbed = (p : Program V) (t : ℕ) (s o n : State V) → event k p (opens t) s ≡ Some o → Stretch p t o n
      → (n.mode ≡ s.mode) × ((u : ℕ) → u ≢ t → n.phase u ≡ s.phase u)
