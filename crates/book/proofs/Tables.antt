-- Lists, and lists of lists, with one element changed, read at every place. Assumes nothing.
use Rattle.std.proofs.Common.{◌≡◌, ℕ, zero, suc, ◌<◌, Bool, true, false, cond, ◌&&◌, eqb, List, [], length, get_or, set, replicate, sym, refl, ap, ◌∙◌, ⊎_elim}
use Rattle.std.proofs.lemmas.List.{get_or-set_same, get_or-set_other}
use Rattle.std.proofs.lemmas.Bool.{cases_eq, eq-eqb, ne_eqb, eqb-true}

pub get_or-set : {X : Type 0} (l : List X) (i : ℕ) (a : X) (j : ℕ) (d : X) → i < length l → get_or (set l i a) j d ≡ cond (eqb j i) a (get_or l j d)
get_or-set l i a j d h =
    ⊎_elim (λ (q : j ≡ i). rw (q, eq-eqb i i refl) (get_or-set_same l i a d h)) (λ (q : j ≡ i → ⊥). rw (ne_eqb j i q) (get_or-set_other l i j a d q)) (cases_eq j i)

pub all_in : {X : Type 0} (x : X) (n k : ℕ) → get_or (replicate n x) k x ≡ x
all_in x zero k = refl
all_in x (suc n) zero = refl
all_in x (suc n) (suc k) = all_in x n k

module _ {X : Type 0} (x : X) where
  pub all_at : (n m j k : ℕ) → get_or (get_or (replicate n (replicate m x)) j []) k x ≡ x
  all_at zero m j k = refl
  all_at (suc n) m zero k = all_in x m k
  all_at (suc n) m (suc j) k = all_at n m j k

  through : (b : Bool) (v w : List X) (k : ℕ) → get_or (cond b v w) k x ≡ cond b (get_or v k x) (get_or w k x)
  through true v w k = refl
  through false v w k = refl

  -- a row is changed
  at_row : (rows : List (List X)) (i : ℕ) (row : List X) (j k : ℕ) → i < length rows → get_or (get_or (set rows i row) j []) k x ≡ cond (eqb j i) (get_or row k x) (get_or (get_or rows j []) k x)
  at_row rows i row j k h = ap (λ (l : List X). get_or l k x) (get_or-set rows i row j [] h) ∙ through (eqb j i) row (get_or rows j []) k

  nest : (b e : Bool) (v y z : X) → (b ≡ true → y ≡ z) → cond b (cond e v y) z ≡ cond (b && e) v z
  nest true true v y z h = refl
  nest true false v y z h = h refl
  nest false e v y z h = refl

  -- a row is changed to v where a test holds
  pub at_place : (rows : List (List X)) (row : List X) (i : ℕ) (test : ℕ → Bool) (v : X) (j k : ℕ) → i < length rows → ((q : ℕ) → get_or row q x ≡ cond (test q) v (get_or (get_or rows i []) q x)) → get_or (get_or (set rows i row) j []) k x ≡ cond (eqb j i && test k) v (get_or (get_or rows j []) k x)
  at_place rows row i test v j k h changed =
      at_row rows i row j k h
      ∙ ap (λ (y : X). cond (eqb j i) y (get_or (get_or rows j []) k x)) (changed k)
      ∙ nest (eqb j i) (test k) v (get_or (get_or rows i []) k x) (get_or (get_or rows j []) k x) (λ e. ap (λ (r : ℕ). get_or (get_or rows r []) k x) (sym (eqb-true j i e)))
