-- What a book's calls do to the notes of a task.
use Rattle.std.proofs.Common.{◌≡◌, ℕ, Bool, true, false, ◌&&◌, sym, ◌∙◌, inl, inr, arith}
use Rattle.std.proofs.lemmas.Bool.{true≢false, cases_Bool, ltb-true, and_from}
use Rattle.std.proofs.lemmas.Bool.Decides.{nat_tests}
use Rattle.book.specs.Seen.{Seen, noting, meets, a_task, a_cell}
use Rattle.book.proofs.Any.{any_at}

-- two sets that do not meet share no cell
pub apart : (noted set : ℕ → Bool) → meets noted set ≡ false → (c : ℕ) → a_cell c ≡ true → noted c ≡ true → set c ≡ false
apart noted set none c a n =
    elim (cases_Bool (set c)) [
      | inl s ↦ absurd (true≢false (sym (any_at (λ i. set i && noted i) 64 c (ltb-true c 64 a) (and_from _ _ s n)) ∙ none))
      | inr s ↦ s
    ]

-- a task that is not stale after a note was not before, and nobody held the cell
pub fresh_before : (s : Seen) (t c : ℕ) (held : Bool) → a_task t ≡ true → a_cell c ≡ true → (noting t c held s).stale t ≡ false → (s.stale t ≡ false) × (held ≡ false)
fresh_before s t c held a b fresh = grind (arith, nat_tests)
