-- What counts mean.
use Rattle.std.specs.Prelude.{ℕ, ◌+◌, ◌-◌, Bool, false, cond, not, ◌&&◌, ◌||◌, List, is_some, Some, None, Option, ◌==◌, nat_le, nat_lt, slice_index, slice_index_or}
use Rattle.book.specs.Seen.{Seen, any}
use Rattle.book.specs.Tasks.{task_at, first_note}
use Rattle.book.specs.declared.counts.Counts.{Counts}

-- a cell that was first noted at one count has another now
abbrev pub moved : Option ℕ → ℕ → Bool
moved None count = false
moved (Some then) count = not (then == count)

-- some cell that a task noted has moved since
abbrev pub outdated : List (Option ℕ) → List ℕ → Bool
outdated firsts commits = any (λ c. moved (slice_index_or firsts c None) (slice_index commits c)) 64

-- some cell of the set that a task noted has no commit left to count
abbrev pub worn : List (Option ℕ) → List Bool → List ℕ → Bool
worn firsts cells commits = any (λ c. (slice_index_or cells c false && nat_le 255 (slice_index commits c)) && is_some (slice_index_or firsts c None)) 64

-- one commit more of each cell of the set, up to 255
abbrev pub risen : List Bool → List ℕ → ℕ → ℕ
risen cells commits c = cond (slice_index_or cells c false && nat_lt (slice_index commits c) 255) (slice_index commits c + 1) (slice_index commits c)

abbrev pub counted : Counts → Seen
counted m = record {
  noted = λ t c. is_some (first_note m.tasks t c);
  stale = λ t. (task_at m.tasks t).flag || outdated (task_at m.tasks t).first m.commits;
}

-- each cell has 255 commits less those that it counted
abbrev pub remaining : Counts → ℕ → ℕ
remaining m c = 255 - slice_index m.commits c
