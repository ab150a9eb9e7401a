-- What each operation does on each side, and each event, computed on one small state.
use Rattle.std.specs.Prelude.{◌≡◌, ℕ, zero, suc, ◌+◌, List, [], ◌∷◌, ℤ, pos, Some, None, Option, slice_index_or}
use Rattle.value.specs.declared.codes.Operation.TheVariants.{Difference, Quotient}
use Rattle.value.specs.declared.codes.Cause.{Cause}
use Rattle.value.specs.declared.codes.Cause.TheVariants.{ZeroDivisor}
use Rattle.program.specs.declared.Mode.{Mode}
use Rattle.program.specs.declared.Mode.TheVariants.{Protected, Unprotected}
use Rattle.program.specs.declared.Op.{Op}
use Rattle.program.specs.declared.Op.TheVariants.{Finish, Read, Write, Constant, Apply, Jump, JumpIfFalse, Await, Start, Leave, Enter, Protect, Unprotect}
use Rattle.machine.specs.Effect.{Program, Local}
use Rattle.machine.specs.Strong.{Phase, idle, ready, active, outside, State, Side, fragment, driver, phase_on, Event, admits, opens, runs, event}
use Rattle.machine.specs.Fault.{Faces}
use Rattle.machine.specs.Sample.{numbers}

abbrev pub numerals : ℕ → ℕ → ℕ → ℕ → List ℤ
numerals a b c d = pos a ∷ pos b ∷ pos c ∷ pos d ∷ []

-- a task's phase, written out
pub data Seen : Type 0 where
  at_rest : Seen
  waiting : ℕ → List ℤ → Seen
  inside : ℕ → List ℤ → Seen
  beyond : ℕ → List ℤ → Seen

abbrev pub registers : Local ℤ → List ℤ
registers l = l.register 0 ∷ l.register 1 ∷ l.register 2 ∷ l.register 3 ∷ []

abbrev pub seen : Phase ℤ → Seen
seen idle = at_rest
seen (ready l) = waiting l.place (registers l)
seen (active l) = inside l.place (registers l)
seen (outside l) = beyond l.place (registers l)

abbrev pub seen_on : Side → ℕ → List ℤ → Seen
seen_on fragment = inside
seen_on driver = beyond

-- a state of two cells and two tasks, written out
pub record View : Type 0 where
  pub cells : ℤ × ℤ
  pub modes : Mode × Mode
  pub owed : ℕ × ℕ
  pub tasks : Seen × Seen

abbrev pub view : ℤ × ℤ → Mode × Mode → ℕ × ℕ → Seen × Seen → Option View
view c m o t = Some (record { cells = c; modes = m; owed = o; tasks = t })

abbrev pub viewed : Option (State ℤ) → Option View
viewed None = None
viewed (Some s) = view (s.cell 0, s.cell 1) (s.mode 0, s.mode 1) (s.owed 0, s.owed 1) (seen (s.phase 0), seen (s.phase 1))

-- two tasks whose every operation is the same one; constant n is 40 + n
abbrev pub all : Op → Program ℤ
all op = record { tasks = 2; code = λ _ _. op; constant = λ n. pos (40 + n) }

-- by number: what the first and the second have
abbrev pub by_number : {A : Type 0} → A → A → ℕ → A
by_number a b zero = a
by_number a b (suc n) = b

-- cell 0 is 7 and protected, cell 1 is 8 and unprotected; task 1 is owed two calls
abbrev pub before : Phase ℤ → Phase ℤ → State ℤ
before a b = record { cell = by_number (pos 7) (pos 8); mode = by_number Protected Unprotected; owed = by_number 0 2; phase = by_number a b }

-- at place 4 with registers 10, 3, 0, 5
abbrev pub spot : Local ℤ
spot = record { place = 4; register = λ i. slice_index_or (numerals 10 3 0 5) i (pos 0) }

abbrev pub does : Op → Side → Option View
does op side = viewed (event numbers (all op) (runs 0) (before (phase_on side spot) idle))

abbrev pub tried : Event → Phase ℤ → Phase ℤ → Option View
tried e a b = viewed (event numbers (all Finish) e (before a b))

-- the state as before but for task 0
abbrev pub moves : Seen → Option View
moves a = view (pos 7, pos 8) (Protected, Unprotected) (0, 2) (a, at_rest)

pub record BothSides (side : Side) : Type 0 where
  pub reads : does (Read 1 0) side ≡ moves (seen_on side 5 (numerals 10 7 0 5))
  pub writes : does (Write 1 3) side ≡ view (pos 7, pos 5) (Protected, Unprotected) (0, 2) (seen_on side 5 (numerals 10 3 0 5), at_rest)
  pub constant : does (Constant 1 2) side ≡ moves (seen_on side 5 (numerals 10 42 0 5))
  pub applies : does (Apply Difference 2 0 1) side ≡ moves (seen_on side 5 (numerals 10 3 7 5))
  pub faults : does (Apply Quotient 3 0 2) side ≡ None
  pub faced : Faces numbers (all (Apply Quotient 3 0 2)) (before (phase_on side spot) idle) 0 4 ZeroDivisor
  pub jumps : does (Jump 9) side ≡ moves (seen_on side 9 (numerals 10 3 0 5))
  pub jumps_if_false : does (JumpIfFalse 2 9) side ≡ moves (seen_on side 9 (numerals 10 3 0 5))
  pub goes_on_if_true : does (JumpIfFalse 0 9) side ≡ moves (seen_on side 5 (numerals 10 3 0 5))
  pub awaits_true : does (Await 0) side ≡ moves (seen_on side 5 (numerals 10 3 0 5))
  pub awaits_false : does (Await 2) side ≡ None
  pub starts : does (Start 1) side ≡ view (pos 7, pos 8) (Protected, Unprotected) (0, 3) (seen_on side 5 (numerals 10 3 0 5), at_rest)
  pub finishes : does Finish side ≡ moves at_rest

pub record OneSide : Type 0 where
  pub leaves : does Leave fragment ≡ moves (beyond 5 (numerals 10 3 0 5))
  pub leaves_not : does Leave driver ≡ None
  pub enters : does Enter driver ≡ moves (waiting 5 (numerals 10 3 0 5))
  pub enters_not : does Enter fragment ≡ None
  pub protects : does (Protect 1) driver ≡ view (pos 7, pos 8) (Protected, Protected) (0, 2) (beyond 5 (numerals 10 3 0 5), at_rest)
  pub protects_not : does (Protect 1) fragment ≡ None
  pub unprotects : does (Unprotect 0) driver ≡ view (pos 7, pos 8) (Unprotected, Unprotected) (0, 2) (beyond 5 (numerals 10 3 0 5), at_rest)
  pub unprotects_not : does (Unprotect 0) fragment ≡ None

pub record Turns : Type 0 where
  -- admission: of an idle task that is owed a call, while none is active
  pub admits_one : tried (admits 1) (outside spot) idle ≡ view (pos 7, pos 8) (Protected, Unprotected) (0, 1) (beyond 4 (numerals 10 3 0 5), waiting 0 (numerals 0 0 0 0))
  pub admits_unowed : tried (admits 0) idle idle ≡ None
  pub admits_busy : tried (admits 1) idle (outside spot) ≡ None
  pub admits_meanwhile : tried (admits 1) (active spot) idle ≡ None
  pub admits_unknown : tried (admits 2) idle idle ≡ None
  -- opening: of a ready task, while none is active
  pub opens_one : tried (opens 0) (ready spot) idle ≡ moves (inside 4 (numerals 10 3 0 5))
  pub opens_idle : tried (opens 0) idle idle ≡ None
  pub opens_outside : tried (opens 0) (outside spot) idle ≡ None
  pub opens_unknown : tried (opens 2) idle (ready spot) ≡ None
  pub opens_meanwhile : tried (opens 0) (ready spot) (active spot) ≡ None
  -- an operation: of the active task, or of an outside one while none is active
  pub runs_idle : tried (runs 0) idle idle ≡ None
  pub runs_ready : tried (runs 0) (ready spot) idle ≡ None
  pub runs_unknown : tried (runs 2) idle (active spot) ≡ None
  pub runs_meanwhile : tried (runs 0) (outside spot) (active spot) ≡ None
  -- a task that is only ready faces no fault yet
  pub ready_faces_none : (place : ℕ) (cause : Cause) → Faces numbers (all (Apply Quotient 3 0 2)) (before (ready spot) idle) 0 place cause → ⊥

-- All of these are so.
pub record Tabulated : Type 0 where
  pub both : (side : Side) → BothSides side
  pub one : OneSide
  pub turns : Turns
