-- An array that is made by a call at each index. Assumes nothing.
use Rattle.std.proofs.Common.{◌≡◌, ℕ, zero, suc, ◌+◌, ◌<◌, ◌≤◌, List, length, get_or, ext_get_or, sym, refl, ap, ◌∙◌, subst, ⊎_elim, arith}
use denote.Param.Members.{Mut, Called}
use Rattle.std.specs.Array.{IsFromFnResult, IsFromFnResultFrom}
use Rattle.std.proofs.lemmas.List.{get_or_past}
use Rattle.std.proofs.lemmas.Bool.{cases_lt}

module _ {F B : Type 0} (g : Mut F (ℕ × Unit {0}) B) (f : F) (h : ℕ → B) (n : ℕ) (same : (i : ℕ) (y : B) (q : F) → i < n → Called g f (i, tt) y q → (q ≡ f) × (y ≡ h i)) (ys : List B) (d : B) where
  -- of the m calls from i on, the one at j after i
  made_from : (i m j k : ℕ) (p : F) → i + m ≡ n → i + j ≡ k → j < m → p ≡ f → IsFromFnResultFrom g p ys i m → get_or ys k d ≡ h k
  made_from i zero j k p whole here less e made = absurd (omega arith)
  made_from i (suc m) zero k p whole here less e (q, y, at, called, rest) =
      let one : k ≡ i = omega arith in
      ap (λ x. get_or ys x d) one ∙ (at.1 d ∙ ((same i y q (omega arith) (subst (λ (x : F). Called g x (i, tt) y q) e called)).1 ∙ ap h (sym one)))
  made_from i (suc m) (suc j) k p whole here less e (q, y, at, called, rest) =
      made_from (i + 1) m j k q (omega arith) (omega arith) (omega arith) (same i y q (omega arith) (subst (λ (x : F). Called g x (i, tt) y q) e called)).0 rest

  -- the element at each index is what the call there gave
  pub made_at : IsFromFnResult g f ys n → (k : ℕ) → k < n → get_or ys k d ≡ h k
  made_at made k lt = made_from 0 n k k f (omega arith) (omega arith) lt refl made.each

  -- also past the end, where h gives the default
  pub made_all : IsFromFnResult g f ys n → ((k : ℕ) → n ≤ k → h k ≡ d) → (k : ℕ) → get_or ys k d ≡ h k
  made_all made past k =
      ⊎_elim
      (λ (lt : k < n). made_at made k lt)
      (λ (le : n ≤ k). get_or_past ys k d (let long = made.long in omega arith) ∙ sym (past k le))
      (cases_lt k n)

  -- the list that has h at each index
  pub made_list : (zs : List B) → IsFromFnResult g f ys n → length zs ≡ n → ((k : ℕ) → k < n → get_or zs k d ≡ h k) → ys ≡ zs
  made_list zs made long at =
      let same_length : length ys ≡ length zs = made.long ∙ sym long in
      ext_get_or d ys zs same_length (λ k lt. let below : k < n = (let e = made.long in omega arith) in made_at made k below ∙ sym (at k below))
