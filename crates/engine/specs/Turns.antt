-- What a task's turn does to the engine and the slice that it holds.
use Rattle.std.specs.Prelude.{◌≡◌, ℕ, List}
use Rattle.value.specs.declared.kinds.Kind.{Ghosts as KindGhosts}
use Rattle.book.specs.declared.Book.{Ghosts}
use Rattle.machine.specs.Effect.{Meaning, meaning_of}
use Rattle.engine.specs.declared.turn.Turn.{Turn}
use Rattle.engine.specs.World.{World, world_of, After, Does}

-- how many commits each cell has left as the turn begins
abbrev pub left_in : {B V : Type 0} → Ghosts B → Turn B V → ℕ → ℕ
left_in book s = book.left s.engine.now.book

-- It answers and leaves what is said of the world as it finds it and of its task; it holds what it held.
pub record Acts {B X V : Type 0} (book : Ghosts B) (kind : KindGhosts V) (s n : Turn B V) (r : X) (said : Meaning V → World V → ℕ → After X V) : Type 0 where
  pub engine : n.engine.ghost_name ≡ s.engine.ghost_name
  pub slice : n.slice.ghost_name ≡ s.slice.ghost_name
  pub task : n.t ≡ s.t
  pub does : Does book s.engine.now n.engine.now n.slice.now r (said (meaning_of kind) (world_of book s.engine.now s.slice.now) s.t)

-- It leaves the slice so, and all else as it was.
pub record Lays {B V : Type 0} (s n : Turn B V) (xs : List V) : Type 0 where
  pub engine : n.engine ≡ s.engine
  pub slice : n.slice.ghost_name ≡ s.slice.ghost_name
  pub task : n.t ≡ s.t
  pub laid : n.slice.now ≡ xs
