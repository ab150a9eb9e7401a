-- A task clears a flag in a fragment, leaves, and from then on uses a cell directly; another task uses that cell only while the flag is set.
use Rattle.std.specs.Prelude.{◌≡◌, ℕ, zero, suc, cond, List, [], ◌∷◌, ℤ, pos, Some, nat_lt, slice_index_or}
use Rattle.value.specs.declared.codes.Operation.TheVariants.{Sum}
use Rattle.program.specs.declared.Mode.TheVariants.{Protected, Unprotected}
use Rattle.program.specs.declared.Op.{Op}
use Rattle.program.specs.declared.Op.TheVariants.{Finish, Read, Write, Constant, Apply, JumpIfFalse, Leave, Unprotect}
use Rattle.machine.specs.Update.{upd}
use Rattle.machine.specs.Effect.{Program}
use Rattle.machine.specs.Strong.{idle, State, Event, admits, opens, runs, Reaches}
use Rattle.machine.specs.Separation.{Separated}
use Rattle.machine.specs.Sample.{numbers, plays}

-- two tasks; a place past a task's end is a finish
abbrev pub pair : List Op → List Op → ℕ → ℕ → Op
pair a b zero place = slice_index_or a place Finish
pair a b (suc zero) place = slice_index_or b place Finish
pair a b _ place = Finish

-- constant 0 is 0 and constant 1 is 100
abbrev pub program : List Op → List Op → Program ℤ
program a b = record { tasks = 2; code = pair a b; constant = λ n. slice_index_or (pos 0 ∷ pos 100 ∷ []) n (pos 0) }

-- cell 0 is 1, cell 1 is 0, all are protected, and each task is owed one call
abbrev pub start : State ℤ
start = record { cell = upd (λ _. pos 0) 0 (pos 1); mode = λ _. Protected; owed = λ t. cond (nat_lt t 2) 1 0; phase = λ _. idle }

abbrev pub taker : List Op
taker = Constant 0 0 ∷ Write 0 0 ∷ Leave ∷ Unprotect 1 ∷ Constant 1 1 ∷ Write 1 1 ∷ Finish ∷ []

abbrev pub adder : List Op
adder = Read 0 0 ∷ JumpIfFalse 0 5 ∷ Read 1 1 ∷ Apply Sum 1 1 0 ∷ Write 1 1 ∷ Finish ∷ []

abbrev pub handover : Program ℤ
handover = program taker adder

-- the taker's fragment, then the adder, then the taker as a driver
abbrev pub taker_first : List Event
taker_first = admits 0 ∷ admits 1 ∷ opens 0 ∷ runs 0 ∷ runs 0 ∷ runs 0 ∷ opens 1 ∷ runs 1 ∷ runs 1 ∷ runs 1 ∷ runs 0 ∷ runs 0 ∷ runs 0 ∷ runs 0 ∷ []

-- the adder alone first
abbrev pub adder_first : List Event
adder_first = admits 1 ∷ opens 1 ∷ runs 1 ∷ runs 1 ∷ runs 1 ∷ runs 1 ∷ runs 1 ∷ runs 1 ∷ []

-- both tasks are idle and owed nothing
pub record Done (s : State ℤ) : Type 0 where
  pub first : (s.phase 0 ≡ idle) × (s.owed 0 ≡ 0)
  pub second : (s.phase 1 ≡ idle) × (s.owed 1 ≡ 0)

-- The events lead to a state in which both are done, cell 0 is protected and 0, cell 1 unprotected and 100.
abbrev pub Taken : Type 0
Taken = (s : State ℤ) × (plays handover taker_first (Some start) ≡ Some s) × Reaches numbers handover start s × Done s
    × (s.cell 0 ≡ pos 0) × (s.mode 0 ≡ Protected) × (s.cell 1 ≡ pos 100) × (s.mode 1 ≡ Unprotected)

-- The adder first: it finds the flag set, and cell 1 becomes 1 while it is protected.
abbrev pub Added : Type 0
Added = (s : State ℤ) × (plays handover adder_first (Some start) ≡ Some s) × Reaches numbers handover start s
    × (s.phase 1 ≡ idle) × (s.cell 1 ≡ pos 1) × (s.mode 1 ≡ Protected)

-- Whatever the order, the two keep separation.
abbrev pub Kept : Type 0
Kept = Separated numbers handover start

-- Small changes break it: a driver that writes, or reads, a cell that it did not unprotect; an adder that reads, or writes, without a look at the flag.
abbrev pub careless : Op → List Op
careless op = Constant 0 0 ∷ Write 0 0 ∷ Leave ∷ op ∷ Finish ∷ []

abbrev pub blind : Op → List Op
blind op = op ∷ Finish ∷ []

abbrev pub Breaks : Program ℤ → Type 0
Breaks p = Separated numbers p start → ⊥

abbrev pub Broken : Type 0
Broken = Breaks (program (careless (Write 1 2)) adder) × Breaks (program (careless (Read 2 1)) adder)
    × Breaks (program taker (blind (Read 2 1))) × Breaks (program taker (blind (Write 1 2)))
