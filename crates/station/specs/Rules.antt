-- What every station keeps, rule by rule: of its board, of its tasks' operations, and of how many cells and constants there are.
use Rattle.std.specs.Prelude.{◌≡◌, ℕ, ◌<◌, ◌≤◌, Bool, true, ◌&&◌, List, [], length, Some, None, sum_by, Option, nat_lt, slice_index_or}
use Rattle.program.specs.declared.Mode.{Mode}
use Rattle.program.specs.declared.Op.{Op}
use Rattle.program.specs.declared.Op.TheVariants.{Finish}
use Rattle.sheet.specs.Ends.{closed, lands}
use Rattle.sheet.specs.Laws.{given}
use Rattle.board.specs.declared.Board.{Board}
use Rattle.board.specs.declared.TaskState.{TaskState}
use Rattle.board.specs.declared.TaskState.TheVariants.{Idle, Ready, Inside, Outside}
use Rattle.board.specs.Boards.{row_at, state_at, owner, mode_of, is_protected, is_inside}

-- the operations of task t; a task that is not given has none
abbrev pub ops_of : List (List Op) → ℕ → List Op
ops_of code t = slice_index_or code t []

-- the operation of task t at place p; past its end it is a finish
abbrev pub op_of : List (List Op) → ℕ → ℕ → Op
op_of code t p = slice_index_or (ops_of code t) p Finish

-- Sizes of the board's arrays.
abbrev pub BoardSizes : Board → Type 0
BoardSizes b = (length b.modes ≡ 64) × (length b.owners ≡ 64) × (length b.rows ≡ 16)

-- Each task counts the calls that its transaction has started, for 16 tasks.
abbrev pub RowSizes : Board → Type 0
RowSizes b = (t : ℕ) → t < 16 → length (row_at b t).own ≡ 16

-- At most 64 cells, 64 constants, 16 tasks, and 1,024 operations in all.
abbrev pub TableSizes : List (List Op) → ℕ → ℕ → Type 0
TableSizes code cells consts = (cells ≤ 64) × (consts ≤ 64) × (length code ≤ 16) × (sum_by length code ≤ 1024)

-- an owner, if there is one, is a task that is given and inside, and the cell's mode is protected
abbrev pub well_owned : List (List Op) → Board → Mode → Option ℕ → Bool
well_owned code b m None = true
well_owned code b m (Some u) = is_protected m && (nat_lt u (length code) && is_inside (state_at b u))

-- A cell that is owned is protected, and its owner is a task that is given and inside.
abbrev pub OwnedWell : List (List Op) → Board → Type 0
OwnedWell code b = (c : ℕ) → well_owned code b (mode_of b c) (owner b c) ≡ true

-- in a task of so many operations, the place of a task that is not idle is one of them, and so is the place where it opened
abbrev pub stands : ℕ → TaskState → Bool
stands len Idle = true
stands len (Ready p) = nat_lt p len
stands len (Inside p o) = nat_lt p len && nat_lt o len
stands len (Outside p) = nat_lt p len

-- Every task stands at an operation of its own or is idle; so a task that is not given is idle.
abbrev pub StandsWell : List (List Op) → Board → Type 0
StandsWell code b = (t : ℕ) → stands (length (ops_of code t)) (state_at b t) ≡ true

-- Every operation names registers, cells and constants that are given, and leads to a place of its task or to a task that is given.
abbrev pub InBounds : List (List Op) → ℕ → ℕ → Type 0
InBounds code cells consts =
    (t p : ℕ) → (given cells consts (op_of code t p) && lands (length (ops_of code t)) (length code) (op_of code t p)) ≡ true

-- Every task has an operation, and its last one is a jump or a finish.
abbrev pub TasksClosed : List (List Op) → Type 0
TasksClosed code = (t : ℕ) → t < length code → closed (ops_of code t) ≡ true
