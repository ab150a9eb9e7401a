-- An undo gives a transaction's cells back their saved values.
use Rattle.std.specs.Prelude.{ℕ, zero, suc, cond, List, None, Option, slice_index_or}
use Rattle.board.specs.Boards.{mine}
use Rattle.engine.specs.Layout.{saved_place, copied}

module _ (t : ℕ) {V : Type 0} (nought : V) (os : List (Option ℕ)) where
  -- of the first n cells, those that t owns take their saved values
  abbrev pub restore_one : List V → ℕ → List V
  restore_one xs c = cond (mine t (slice_index_or os c None)) (copied nought xs (saved_place c) c) xs

  unfoldable pub restored : List V → ℕ → List V
  restored xs zero = xs
  restored xs (suc n) = restore_one (restored xs n) n
