-- What a changed function gives.
use Rattle.std.proofs.Common.{◌≡◌, ℕ, false, eqb, subst, sym, refl, inl, inr}
use Rattle.std.proofs.lemmas.Bool.{cases_Bool, eqb-true, eq-eqb}
use Rattle.machine.specs.Update.{upd}

-- a statement of every number, by that of k and that of each other
pub split : (P : ℕ → Type 0) (k : ℕ) → P k → ((i : ℕ) → eqb i k ≡ false → P i) → (i : ℕ) → P i
split P k same other i =
    elim (cases_Bool (eqb i k)) [ inl e ↦ subst P (sym (eqb-true i k e)) same | inr e ↦ other i e ]

module _ {A : Type 0} where
  pub upd_same : (f : ℕ → A) (k : ℕ) (v : A) → upd f k v k ≡ v
  upd_same f k v = rw (eq-eqb k k refl)

  pub upd_other : (f : ℕ → A) (k : ℕ) (v : A) (i : ℕ) → eqb i k ≡ false → upd f k v i ≡ f i
  upd_other f k v i e = rw e
