-- Laws of `any`. Assumes nothing.
use Rattle.std.proofs.Common.{◌≡◌, ℕ, zero, suc, ◌+◌, ◌<◌, ◌≤◌, Bool, true, false, ◌||◌, List, length, get_or, take, sym, refl, ap, ◌∙◌, ⊎_elim, add-one, arith}
use Rattle.std.specs.List.{list_any, zip}
use Rattle.std.proofs.lemmas.List.{take_all}
use Rattle.std.proofs.lemmas.List.Folds.{list_any_more}
use Rattle.std.proofs.lemmas.Slice.Zip.{length-zip, get_or-zip}
use Rattle.std.proofs.Math.Bool.{or_assoc, or_comm, or-false}
use Rattle.std.proofs.lemmas.Bool.{cases_eq, or_left, or_right, or_from}
use Rattle.book.specs.Seen.{any}

pub any_none : (f : ℕ → Bool) → any f 0 ≡ false
unfolding any
any_none f = refl

pub any_more : (f : ℕ → Bool) (n : ℕ) → any f (n + 1) ≡ (f n || any f n)
unfolding any
any_more f n = rw add-one

pub any_at : (f : ℕ → Bool) (n k : ℕ) → k < n → f k ≡ true → any f n ≡ true
unfolding any
any_at f zero k h e = absurd (omega arith)
any_at f (suc n) k h e =
    ⊎_elim
    (λ (q : k ≡ n). or_left (f n) (any f n) (ap f (sym q) ∙ e))
    (λ (q : k ≡ n → ⊥). or_right (f n) (any f n) (let lt : k < n = omega arith in any_at f n k lt e))
    (cases_eq k n)

pub any_not : (f : ℕ → Bool) (n : ℕ) → ((k : ℕ) → f k ≡ false) → any f n ≡ false
unfolding any
any_not f zero h = refl
any_not f (suc n) h = or_from (f n) (any f n) (h n) (any_not f n h)

pub any_or : (f g : ℕ → Bool) (n : ℕ) → (any f n || any g n) ≡ any (λ k. f k || g k) n
unfolding any
any_or f g zero = refl
any_or f g (suc n) = swap (f n) (any f n) (g n) (any g n) ∙ ap (λ (b : Bool). (f n || g n) || b) (any_or f g n)
  where
    swap : (a b c d : Bool) → ((a || b) || (c || d)) ≡ ((a || c) || (b || d))
    swap true b c d = refl
    swap false true true d = refl
    swap false true false d = refl
    swap false false c d = refl

-- a fact that joins a test while places are gone through: at this turn x joined
pub any_turn : (f : ℕ → Bool) (s a b x : Bool) (n m : ℕ) → m ≡ n + 1 → f n ≡ x → a ≡ (s || any f n) → b ≡ (a || x) → b ≡ (s || any f m)
any_turn f s a b x n m next here before after = after ∙ ap (λ (y : Bool). y || x) before ∙ or_assoc s (any f n) x ∙ ap (λ (y : Bool). s || y) (or_comm (any f n) x ∙ ap (λ (y : Bool). y || any f n) (sym here) ∙ sym (any_more f n) ∙ ap (any f) (sym next))

-- and at this turn nothing did
pub any_pass : (f : ℕ → Bool) (s a : Bool) (n m : ℕ) → m ≡ n + 1 → f n ≡ false → a ≡ (s || any f n) → a ≡ (s || any f m)
any_pass f s a n m next here before = any_turn f s a a false n m next here before (sym (or-false a))

-- ---- the test of a list's elements

any_same : (f g : ℕ → Bool) (n : ℕ) → ((k : ℕ) → k < n → f k ≡ g k) → any f n ≡ any g n
unfolding any
any_same f g zero h = refl
any_same f g (suc n) h = let here : f n ≡ g n = h n (omega arith) in let rest : any f n ≡ any g n = any_same f g n (λ k lt. h k (omega arith)) in rw (here, rest)

any_taken : {X : Type 0} (p : X → Bool) (xs : List X) (d : X) (n : ℕ) → n ≤ length xs → list_any p (take n xs) ≡ any (λ k. p (get_or xs k d)) n
unfolding any
any_taken p xs d zero h = refl
any_taken p xs d (suc n) h =
    let lt : n < length xs = omega arith in
    let le : n ≤ length xs = omega arith in
    ap (λ (m : ℕ). list_any p (take m xs)) (sym (add-one n)) ∙ list_any_more p xs n d lt ∙ ap (λ (b : Bool). b || p (get_or xs n d)) (any_taken p xs d n le) ∙ or_comm (any (λ k. p (get_or xs k d)) n) (p (get_or xs n d))

pub any_listed : {X : Type 0} (p : X → Bool) (xs : List X) (d : X) (n : ℕ) → length xs ≡ n → list_any p xs ≡ any (λ k. p (get_or xs k d)) n
any_listed p xs d n e = sym (ap (list_any p) (take_all n xs (omega arith))) ∙ any_taken p xs d n (omega arith)

pub any_zipped : {X Y : Type 0} (p : X → Y → Bool) (xs : List X) (ys : List Y) (d : X) (e : Y) (n : ℕ) → length xs ≡ n → length ys ≡ n → list_any (λ (q : X × Y). p q.0 q.1) (zip xs ys) ≡ any (λ k. p (get_or xs k d) (get_or ys k e)) n
any_zipped {X} {Y} p xs ys d e n h k =
    any_listed (λ (q : X × Y). p q.0 q.1) (zip xs ys) (d, e) n (omega (arith, length-zip xs ys))
    ∙ any_same _ _ n (λ i lt. ap (λ (q : X × Y). p q.0 q.1) (get_or-zip xs ys i (d, e) (omega arith) (omega arith)))
