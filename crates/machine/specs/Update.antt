-- A function of the number, changed at one place.
use Rattle.std.specs.Prelude.{ℕ, ◌+◌, cond, ◌==◌}

-- f, but v at k. kept: the book has this word too, and the strong machine does not stand on the read tracker
abbrev pub upd : {A : Type 0} → (ℕ → A) → ℕ → A → ℕ → A
upd f k v i = cond (i == k) v (f i)

-- f, but one more at k
abbrev pub one_more : (ℕ → ℕ) → ℕ → ℕ → ℕ
one_more f k = upd f k (f k + 1)
