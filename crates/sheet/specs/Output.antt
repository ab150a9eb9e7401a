-- Writing into an output slice: bytes past its end fall away, and all other places stay.
use Rattle.std.specs.Prelude.{◌≡◌, ℕ, ◌+◌, List, [], ◌∷◌, length, slice_set}
use Rattle.std.specs.Fn.{Shared, FnReturnsAt}
use denote.Ref.{Bor}
use Rattle.text.specs.Line.{spelt}
use Rattle.text.specs.declared.output.Line.{Line}
use Rattle.sheet.specs.declared.output.Out.{Out}

-- the output with the bytes laid over it from a place on
abbrev pub over : ℕ → List ℕ → List ℕ → List ℕ
over at [] out = out
over at (b ∷ bs) out = over (at + 1) bs (slice_set out at b)

-- It has the text laid over it from its end on, and ends behind it.
pub record Lays (s n : Out) (text : List ℕ) : Type 0 where
  pub bytes : n.bytes.ghost_name ≡ s.bytes.ghost_name
  pub laid : n.bytes.now ≡ over s.end text s.bytes.now
  pub ends : n.end ≡ s.end + length text

-- each line that a closure gives for an item is the item's text
abbrev pub Spells : {F T : Type 0} → Shared F (Bor T × Unit {0}) Line → F → (T → List ℕ) → Type 0
Spells g f text = (x : _) (l : Line) → FnReturnsAt g f x l → spelt l ≡ text x
