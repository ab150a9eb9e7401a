-- The strong machine: one fragment at a time, drivers only in between.
use Rattle.std.specs.Prelude.{◌≡◌, ℕ, zero, suc, Bool, true, false, cond, not, ◌&&◌, Some, None, Option, nat_lt}
use Rattle.program.specs.declared.Mode.{Mode}
use Rattle.machine.specs.Update.{upd, one_more}
use Rattle.machine.specs.Effect.{Meaning, Program, Local, next, loaded, Effect, goes, reads, writes, starts, leaves, enters, sets, finishes, asked}

-- A task is idle, about to begin a fragment, in one, or outside as a driver.
pub data Phase (V : Type 0) : Type 0 where
  idle : Phase V
  ready : Local V → Phase V
  active : Local V → Phase V
  outside : Local V → Phase V

-- A cell's value and mode, a task's owed calls and phase.
pub record State (V : Type 0) : Type 0 where
  pub cell : ℕ → V
  pub mode : ℕ → Mode
  pub owed : ℕ → ℕ
  pub phase : ℕ → Phase V

-- The two sides that run operations.
pub data Side : Type 0 where
  fragment : Side
  driver : Side

pub data Event : Type 0 where
  admits : ℕ → Event
  opens : ℕ → Event
  runs : ℕ → Event

module _ {V : Type 0} where
  abbrev pub phase_on : Side → Local V → Phase V
  phase_on fragment l = active l
  phase_on driver l = outside l

  abbrev pub is_active : Phase V → Bool
  is_active (active l) = true
  is_active _ = false

  -- none of the first n tasks is active
  abbrev pub none_active : ℕ → (ℕ → Phase V) → Bool
  none_active zero phase = true
  none_active (suc n) phase = not (is_active (phase n)) && none_active n phase

  abbrev pub mode_of : State V → ℕ → Mode
  mode_of s c = s.mode c

  abbrev pub placed : State V → ℕ → Phase V → State V
  placed s t phase = record s { phase = upd s.phase t phase }

  abbrev pub stored : State V → ℕ → V → State V
  stored s c v = record s { cell = upd s.cell c v }

  abbrev pub guarded : State V → ℕ → Mode → State V
  guarded s c m = record s { mode = upd s.mode c m }

  abbrev pub owing : State V → (ℕ → ℕ) → State V
  owing s owed = record s { owed = owed }

  -- task t, on its side at l, does what its operation asks
  abbrev pub acted : Side → State V → ℕ → Local V → Effect V → Option (State V)
  acted side s t l (goes to) = Some (placed s t (phase_on side to))
  acted side s t l (reads to c) = Some (placed s t (phase_on side (loaded l to (s.cell c))))
  acted side s t l (writes c v) = Some (placed (stored s c v) t (phase_on side (next l)))
  acted side s t l (starts u) = Some (placed (owing s (one_more s.owed u)) t (phase_on side (next l)))
  acted fragment s t l leaves = Some (placed s t (outside (next l)))
  acted driver s t l enters = Some (placed s t (ready (next l)))
  acted driver s t l (sets c m) = Some (placed (guarded s c m) t (outside (next l)))
  acted side s t l finishes = Some (placed s t idle)
  acted _ s t l _ = None

  -- a task begins at place 0 with zeros
  abbrev pub first : Meaning V → Local V
  first k = record { place = 0; register = λ _. k.nought }

  abbrev pub admitted : Meaning V → State V → ℕ → ℕ → Phase V → Option (State V)
  admitted k s t (suc n) idle = Some (placed (owing s (upd s.owed t n)) t (ready (first k)))
  admitted k s t _ _ = None

  abbrev pub opened : State V → ℕ → Phase V → Option (State V)
  opened s t (ready l) = Some (placed s t (active l))
  opened s t _ = None

  -- only if the test is true
  abbrev pub when : Bool → Option (State V) → Option (State V)
  when test o = cond test o None

  -- the task is one of the program's
  abbrev pub given : Program V → ℕ → Bool
  given p t = nat_lt t p.tasks

  -- no task is active
  abbrev pub quiet : Program V → State V → Bool
  quiet p s = none_active p.tasks s.phase

module _ {V : Type 0} (k : Meaning V) (p : Program V) where
  abbrev pub ran : State V → ℕ → Phase V → Option (State V)
  ran s t (active l) = acted fragment s t l (asked k p t l)
  ran s t (outside l) = when (quiet p s) (acted driver s t l (asked k p t l))
  ran s t _ = None

  -- the state after an event, where it can occur
  abbrev pub event : Event → State V → Option (State V)
  event (admits t) s = when (given p t && quiet p s) (admitted k s t (s.owed t) (s.phase t))
  event (opens t) s = when (given p t && quiet p s) (opened s t (s.phase t))
  event (runs t) s = when (given p t) (ran s t (s.phase t))

  -- events, or none of them, lead from s to another state
  pub data Reaches (s : State V) : State V → Type 0 where
    here : Reaches s s
    more : {m n : State V} (e : Event) → Reaches s m → event e m ≡ Some n → Reaches s n
