-- The engine's state as functions of the numbers of cells and tasks, and the state that stands once every open transaction is undone.
use Rattle.std.specs.Prelude.{ℕ, Bool, true, false, Some, None, Option}
use Rattle.program.specs.declared.Mode.{Mode}
use Rattle.book.specs.Seen.{Seen}
use Rattle.machine.specs.Effect.{Local}
use Rattle.machine.specs.Strong.{Phase, idle, ready, outside, State}

-- Where a task is; of a transaction also where it opened.
pub data Stage (V : Type 0) : Type 0 where
  off : Stage V
  waiting : Local V → Stage V
  inside : Local V → Local V → Stage V
  out : Local V → Stage V

-- Of each cell its value, mode, owner and saved value; of each task the calls owed, the calls that its transaction started, and its stage.
pub record Model (V : Type 0) : Type 0 where
  pub cell : ℕ → V
  pub mode : ℕ → Mode
  pub owner : ℕ → Option ℕ
  pub saved : ℕ → V
  pub owed : ℕ → ℕ
  pub own : ℕ → ℕ → ℕ
  pub seen : Seen
  pub stage : ℕ → Stage V

module _ {V : Type 0} where
  abbrev pub is_inside : Stage V → Bool
  is_inside (inside l o) = true
  is_inside _ = false

  -- an owned cell has its saved value again
  abbrev pub before : Option ℕ → V → V → V
  before None saved now = now
  before (Some t) saved now = saved

  -- a transaction is ready again where it opened
  abbrev pub settled : Stage V → Phase V
  settled off = idle
  settled (waiting l) = ready l
  settled (inside l o) = ready o
  settled (out l) = outside l

  abbrev pub undone : Model V → State V
  undone m = record { cell = λ c. before (m.owner c) (m.saved c) (m.cell c); mode = m.mode; owed = m.owed; phase = λ t. settled (m.stage t) }
