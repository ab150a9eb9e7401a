-- The worked case. Assumes nothing.
use Rattle.std.proofs.Common.{◌≡◌, ℕ, ◌+◌, ◌≤◌, Bool, true, false, cond, ◌&&◌, eqb, ltb, get_or, set, replicate, refl, ap, ◌∙◌, ⊎_elim, arith}
use Rattle.std.proofs.lemmas.Bool.{cases_eq, ne_eqb, le-ltb, and_right}
use Rattle.book.specs.Seen.{Seen, stale_of, begun, noting, finished, rested, any}
use Rattle.book.proofs.Any.{any_not}
use Rattle.book.proofs.Tables.{get_or-set, all_in}

-- no station has task 16 or above
pub none_past : (m : Seen) (t : ℕ) → 16 ≤ t → stale_of t m ≡ false
none_past m t h = ap (λ (b : Bool). b && m.stale t) (le-ltb t 16 h)

-- the set of one cell
pub one_cell : (c : ℕ) → get_or (set (replicate 64 false) 5 true) c false ≡ eqb c 5
one_cell c = get_or-set (replicate 64 false) 5 true c false (omega arith) ∙ ap (λ (b : Bool). cond (eqb c 5) true b) (all_in false 64 c) ∙ go (eqb c 5)
  where
    go : (b : Bool) → cond b true false ≡ b
    go true = refl
    go false = refl

-- after task 2 noted cell 5 and task 3 finished with it
pub only_two : (t : ℕ) → stale_of t (finished 3 (λ c. eqb c 5) (noting 2 5 false (begun 2 rested))) ≡ eqb t 2
unfolding any
only_two t =
    ⊎_elim
    (λ (q : t ≡ 2). rw q)
    (λ (q : t ≡ 2 → ⊥). rw (ne_eqb t 2 q) (quiet (ltb t 16) (eqb t 3) _ (any_not (λ c. eqb c 5 && false) 64 (λ c. and_right (eqb c 5) false refl))))
    (cases_eq t 2)
  where
    quiet : (a b s : Bool) → s ≡ false → (a && cond b false s) ≡ false
    quiet true true s e = refl
    quiet true false s e = e
    quiet false b s e = refl

-- a finish takes one commit at most
pub least : (b : Bool) (l k : ℕ) → l ≤ k + cond b 1 0 → 200 ≤ l → 199 ≤ k
least true l k h e = omega arith
least false l k h e = omega arith
