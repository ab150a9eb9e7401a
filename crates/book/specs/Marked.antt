-- What marks mean.
use Rattle.std.specs.Prelude.{ℕ, Bool, false, List, [], slice_index_or}
use Rattle.book.specs.Seen.{Seen}
use Rattle.book.specs.declared.marks.Marks.{Marks}

-- whether t stands among the readers of c
abbrev pub reads : List (List Bool) → ℕ → ℕ → Bool
reads readers t c = slice_index_or (slice_index_or readers c []) t false

abbrev pub marked : Marks → Seen
marked m = record { noted = reads m.readers; stale = λ t. slice_index_or m.stale t false }

-- every cell always has 255 commits left
abbrev pub always : Marks → ℕ → ℕ
always _ _ = 255
