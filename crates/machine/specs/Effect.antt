-- What an operation asks of the world, from a task's own place and registers alone.
use Rattle.std.specs.Prelude.{ℕ, ◌+◌, Bool, cond, Ok, Err, Result}
use Rattle.value.specs.declared.codes.Operation.{Operation}
use Rattle.value.specs.declared.codes.Cause.{Cause}
use Rattle.value.specs.declared.kinds.Kind.{Ghosts}
use Rattle.program.specs.declared.Mode.{Mode}
use Rattle.program.specs.declared.Mode.TheVariants.{Protected, Unprotected}
use Rattle.program.specs.declared.Op.{Op}
use Rattle.program.specs.declared.Op.TheVariants.{Finish, Read, Write, Constant, Apply, Jump, JumpIfFalse, Await, Start, Leave, Enter, Protect, Unprotect}
use Rattle.machine.specs.Update.{upd}

-- A kind of value: its zero, which values are true, and what each operation gives.
pub record Meaning (V : Type 0) : Type 0 where
  pub nought : V
  pub truth : V → Bool
  pub outcome : Operation → V → V → Result V Cause

-- as the trait has it
abbrev pub meaning_of : {V : Type 0} → Ghosts V → Meaning V
meaning_of k = record { nought = k.ZERO; truth = k.truth; outcome = k.outcome }

abbrev pub meaning : {V : Type 0} → V → (V → Bool) → (Operation → V → V → Result V Cause) → Meaning V
meaning z t o = record { nought = z; truth = t; outcome = o }

-- A program: how many tasks there are, the operation at each task's place, and the constants.
pub record Program (V : Type 0) : Type 0 where
  pub tasks : ℕ
  pub code : ℕ → ℕ → Op
  pub constant : ℕ → V

-- Where a task is in its code, and what its registers hold.
pub record Local (V : Type 0) : Type 0 where
  pub place : ℕ
  pub register : ℕ → V

pub data Effect (V : Type 0) : Type 0 where
  -- goes on by itself
  goes : Local V → Effect V
  -- cannot go on: the awaited register is false, or the values give a cause
  waits : Effect V
  faults : Cause → Effect V
  -- a register takes a cell, a cell takes a value, a task is owed one more call
  reads : ℕ → ℕ → Effect V
  writes : ℕ → V → Effect V
  starts : ℕ → Effect V
  -- changes side, sets a cell's mode, ends
  leaves : Effect V
  enters : Effect V
  sets : ℕ → Mode → Effect V
  finishes : Effect V

module _ {V : Type 0} where
  abbrev pub jumped : Local V → ℕ → Local V
  jumped l n = record l { place = n }

  abbrev pub next : Local V → Local V
  next l = jumped l (l.place + 1)

  -- the register takes the value, and the task goes on
  abbrev pub loaded : Local V → ℕ → V → Local V
  loaded l to v = record { place = l.place + 1; register = upd l.register to v }

  abbrev pub applied : Local V → ℕ → Result V Cause → Effect V
  applied l to (Ok v) = goes (loaded l to v)
  applied l to (Err cause) = faults cause

  module _ (k : Meaning V) (constant : ℕ → V) where
    abbrev pub effect : Op → Local V → Effect V
    effect (Read to cell) l = reads to cell
    effect (Write cell from) l = writes cell (l.register from)
    effect (Constant to n) l = goes (loaded l to (constant n))
    effect (Apply operation to left right) l = applied l to (k.outcome operation (l.register left) (l.register right))
    effect (Jump target) l = goes (jumped l target)
    effect (JumpIfFalse test target) l = goes (cond (k.truth (l.register test)) (next l) (jumped l target))
    effect (Await test) l = cond (k.truth (l.register test)) (goes (next l)) waits
    effect (Start task) l = starts task
    effect Leave l = leaves
    effect Enter l = enters
    effect (Protect cell) l = sets cell Protected
    effect (Unprotect cell) l = sets cell Unprotected
    effect Finish l = finishes

  -- what a task's next operation asks
  abbrev pub asked : Meaning V → Program V → ℕ → Local V → Effect V
  asked k p t l = effect k p.constant (p.code t l.place) l
