-- A station with its working slice as a call finds it, and what a call leaves.
use Rattle.std.specs.Prelude.{◌≡◌, ℕ, cond, List, Ok, Err, Result}
use Rattle.book.specs.declared.Book.{Ghosts}
use Rattle.book.specs.Seen.{Seen, rested, Spending, same, full, Lines}
use Rattle.program.specs.declared.Op.{Op}
use Rattle.program.specs.Program.{code}
use Rattle.board.specs.declared.Board.{Board}
use Rattle.faults.specs.declared.StepFault.{StepFault}
use Rattle.faults.specs.declared.Refusal.{Refusal}
use Rattle.engine.specs.declared.Engine.{Engine}
use Rattle.faults.specs.Faults.{faulted}
use Rattle.board.specs.Loops.{busy}

-- the board, the slice, what the book has seen, the tasks' operations, and how many cells and constants there are
pub record World (V : Type 0) : Type 0 where
  pub board : Board
  pub slice : List V
  pub seen : Seen
  pub code : List (List Op)
  pub cells : ℕ
  pub consts : ℕ

abbrev pub world_of : {B V : Type 0} → Ghosts B → Engine B → List V → World V
world_of book s xs = record { board = s.board; slice = xs; seen = book.seen s.book; code = code s.program; cells = s.cells; consts = s.consts }

-- the answer, the world after, and what may happen to what the book has left
pub record After (X V : Type 0) : Type 0 where
  pub answer : X
  pub world : World V
  pub spends : Spending

-- the program and the numbers of cells and constants stay
pub record SameTable {B : Type 0} (s n : Engine B) : Type 0 where
  pub program : n.program ≡ s.program
  pub cells : n.cells ≡ s.cells
  pub consts : n.consts ≡ s.consts

-- what is left: the answer, the engine and the slice are those of a, and what the book has left keeps to the book's lines
pub record Leaves {B X V : Type 0} (book : Ghosts B) (s n : Engine B) (xs : List V) (r : X) (a : After X V) : Type 0 where
  pub answer : r ≡ a.answer
  pub board : n.board ≡ a.world.board
  pub slice : xs ≡ a.world.slice
  pub notes : book.seen n.book ≡ a.world.seen
  pub spare : Lines a.spends (book.left s.book) (book.left n.book)
  pub table : code n.program ≡ a.world.code
  pub cells : n.cells ≡ a.world.cells
  pub consts : n.consts ≡ a.world.consts

-- what a call promises: that is left, and the program and the numbers of cells and constants stay
pub record Does {B X V : Type 0} (book : Ghosts B) (s n : Engine B) (xs : List V) (r : X) (a : After X V) : Type 0 where
  pub leaves : Leaves book s n xs r a
  pub table : SameTable s n

abbrev pub Stepped : Type 0 → Type 0
Stepped V = After (Result (Unit {0}) StepFault) V

abbrev pub Called : Type 0 → Type 0
Called V = After (Result (Unit {0}) Refusal) V

-- the world with another board, slice and sight
abbrev pub changed : {V : Type 0} → World V → Board → List V → Seen → World V
changed w b xs m = record { board = b; slice = xs; seen = m; code = w.code; cells = w.cells; consts = w.consts }

module _ {X E V : Type 0} where
  -- a refused call changes nothing
  abbrev pub refuses : World V → E → After (Result X E) V
  refuses w e = record { answer = Err e; world = w; spends = same }

module _ {E V : Type 0} where
  abbrev pub goes : World V → Board → List V → Seen → After (Result (Unit {0}) E) V
  goes w b xs m = record { answer = Ok tt; world = changed w b xs m; spends = same }

  -- when the last transaction has ended, the book rests
  abbrev pub settles : World V → Board → List V → Seen → Spending → After (Result (Unit {0}) E) V
  settles w b xs m s = record { answer = Ok tt; world = changed w b xs (cond (busy b) m rested); spends = cond (busy b) s full }

-- the same, with another name for its fault
abbrev pub raised : {X E F V : Type 0} → (E → F) → After (Result X E) V → After (Result X F) V
raised f a = record { answer = faulted f a.answer; world = a.world; spends = a.spends }
