-- The element at each index of a list that is made, owned or laid. Assumes nothing.
use Rattle.std.proofs.Common.{◌≡◌, ℕ, zero, suc, ◌+◌, ◌<◌, ◌≤◌, false, List, [], ◌∷◌, length, get_or, set, replicate, None, Option, sym, refl, ap, ◌∙◌, ⊎_elim, arith, length-set}
use denote.Param.Members.{Mut, Called}
use Rattle.std.specs.Array.{IsFromFnResult}
use Rattle.std.proofs.lemmas.List.{get_or-set_same, get_or-set_other, get_or-replicate, get_or_append_left, get_or_push, length_push, length-replicate}
use Rattle.std.proofs.lemmas.Bool.{cases_eq}
use Rattle.book.proofs.Made.{made_list}
use Rattle.board.specs.Boards.{mine}
use Rattle.board.specs.Laying.{laid, tabulated}
use Rattle.board.specs.Loops.{owned}

module _ {X : Type 0} (f : ℕ → X) (d : X) where
  pub length-tabulated : (n : ℕ) → length (tabulated f n) ≡ n
  unfolding tabulated
  length-tabulated zero = refl
  length-tabulated (suc n) = length_push (tabulated f n) (f n) ∙ (let e = length-tabulated n in omega arith)

  pub get_or-tabulated : (n k : ℕ) → k < n → get_or (tabulated f n) k d ≡ f k
  unfolding tabulated
  get_or-tabulated zero k h = absurd (omega arith)
  get_or-tabulated (suc n) k h =
      let long = length-tabulated n in
      ⊎_elim
      (λ (e : k ≡ n). rw e (get_or_push (tabulated f n) (f n) d n long))
      (λ (e : k ≡ n → ⊥). let lt : k < n = omega arith in get_or_append_left (tabulated f n) (f n ∷ []) d k (omega arith) ∙ get_or-tabulated n k lt)
      (cases_eq k n)

module _ {F B : Type 0} (g : Mut F (ℕ × Unit {0}) B) (f : F) (h : ℕ → B) (n : ℕ) (same : (i : ℕ) (y : B) (q : F) → i < n → Called g f (i, tt) y q → (q ≡ f) × (y ≡ h i)) (ys : List B) (d : B) where
  -- an array that is made by a call at each index
  pub made_tabulated : IsFromFnResult g f ys n → ys ≡ tabulated h n
  made_tabulated made = made_list g f h n same ys d (tabulated h n) made (length-tabulated h d n) (get_or-tabulated h d n)

module _ (t : ℕ) (os : List (Option ℕ)) where
  pub length-owned : (n : ℕ) → length (owned t os n) ≡ 64
  unfolding owned
  length-owned zero = length-replicate 64 false
  length-owned (suc n) = length-set (owned t os n) n _ ∙ length-owned n

  pub get_or-owned : (n k : ℕ) → k < n → n ≤ 64 → get_or (owned t os n) k false ≡ mine t (get_or os k None)
  unfolding owned
  get_or-owned zero k h le = absurd (omega arith)
  get_or-owned (suc n) k h le =
      let long = length-owned n in
      ⊎_elim
      (λ (e : k ≡ n). rw e (get_or-set_same (owned t os n) n _ false (omega arith)))
      (λ (e : k ≡ n → ⊥). let lt : k < n = omega arith in let below : n ≤ 64 = omega arith in get_or-set_other (owned t os n) n k _ false e ∙ get_or-owned n k lt below)
      (cases_eq k n)

module _ {X Y : Type 0} (f : X → Y) (e : X) (d : Y) where
  pub length-laid : (at : ℕ) (xs : List X) (ys : List Y) → length (laid f at xs ys) ≡ length ys
  length-laid at [] ys = refl
  length-laid at (x ∷ xs) ys = length-laid (at + 1) xs (set ys at (f x)) ∙ length-set ys at (f x)

  laid_below : (at : ℕ) (xs : List X) (ys : List Y) (k : ℕ) → k < at → get_or (laid f at xs ys) k d ≡ get_or ys k d
  laid_below at [] ys k h = refl
  laid_below at (x ∷ xs) ys k h = let next : k < at + 1 = omega arith in laid_below (at + 1) xs (set ys at (f x)) k next ∙ get_or-set_other ys at k (f x) d (λ (q : k ≡ at). absurd (omega arith))

  -- laid over a list that has f of e everywhere
  laid_at : (at i : ℕ) (xs : List X) (ys : List Y) → at + i < length ys → ((j : ℕ) → at ≤ j → j < length ys → get_or ys j d ≡ f e) → get_or (laid f at xs ys) (at + i) d ≡ f (get_or xs i e)
  laid_at at i [] ys h same = same (at + i) (omega arith) h
  laid_at at zero (x ∷ xs) ys h same =
      let none : at + 0 ≡ at = omega arith in
      let next : at < at + 1 = omega arith in
      ap (λ k. get_or (laid f (at + 1) xs (set ys at (f x))) k d) none ∙ laid_below (at + 1) xs (set ys at (f x)) at next ∙ get_or-set_same ys at (f x) d (omega arith)
  laid_at at (suc i) (x ∷ xs) ys h same =
      let m : at + suc i ≡ at + 1 + i = omega arith in
      let long = length-set ys at (f x) in
      ap (λ k. get_or (laid f (at + 1) xs (set ys at (f x))) k d) m
      ∙ laid_at (at + 1) i xs (set ys at (f x)) (omega arith) (λ j low high. get_or-set_other ys at j (f x) d (λ (q : j ≡ at). absurd (omega arith)) ∙ same j (omega arith) (omega arith))

  pub get_or-laid : (n : ℕ) (xs : List X) (k : ℕ) → k < n → get_or (laid f 0 xs (replicate n (f e))) k d ≡ f (get_or xs k e)
  get_or-laid n xs k h =
      let same : 0 + k ≡ k = omega arith in
      let long = length-replicate n (f e) in
      sym (ap (λ j. get_or (laid f 0 xs (replicate n (f e))) j d) same) ∙ laid_at 0 k xs (replicate n (f e)) (omega arith) (λ j low high. get_or-replicate n j (f e) d (omega arith))
