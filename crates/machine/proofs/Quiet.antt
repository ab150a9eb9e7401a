-- When no task is active, one by one and all together.
use Rattle.std.proofs.Common.{◌≡◌, ℕ, ◌<◌, true, false, not, sym, refl, ◌∙◌, arith}
use Rattle.std.specs.Bool.{Decides}
use Rattle.std.proofs.lemmas.Bool.{true≢false, not-true, not_from_false, false_from_ne_true, ltb-true, lt-ltb}
use Rattle.std.proofs.lemmas.Bool.Decides.{Decides-below_and}
use Rattle.machine.specs.Update.{upd}
use Rattle.machine.specs.Effect.{Program}
use Rattle.machine.specs.Strong.{Phase, State, is_active, none_active, given, quiet}

module _ {V : Type 0} where
  none_decides : (n : ℕ) (phase : ℕ → Phase V) → Decides (none_active n phase) ((t : ℕ) → t < n → is_active (phase t) ≡ false)
  none_decides n phase = Decides-below_and (λ t. not (is_active (phase t))) (λ t. is_active (phase t) ≡ false) (λ m. none_active m phase)
      (λ t. (not-true _, not_from_false _)) refl (λ m. refl) n

  module _ (p : Program V) (s : State V) where
    pub quiet_each : quiet p s ≡ true → (t : ℕ) → given p t ≡ true → is_active (s.phase t) ≡ false
    quiet_each q t g = (none_decides p.tasks s.phase).0 q t (ltb-true t p.tasks g)

    pub quiet_all : ((t : ℕ) → given p t ≡ true → is_active (s.phase t) ≡ false) → quiet p s ≡ true
    quiet_all a = (none_decides p.tasks s.phase).1 (λ t h. a t (lt-ltb t p.tasks h))

    -- a given task that is active breaks the quiet
    pub not_quiet : (t : ℕ) → given p t ≡ true → is_active (s.phase t) ≡ true → quiet p s ≡ false
    not_quiet t g a = false_from_ne_true (quiet p s) (λ q. true≢false (sym a ∙ quiet_each q t g))

  -- one task moves to a phase that is not active
  pub quiet-moved : (p : Program V) (s n : State V) (t : ℕ) (ph : Phase V) → quiet p s ≡ true → n.phase ≡ upd s.phase t ph → is_active ph ≡ false → quiet p n ≡ true
  quiet-moved p s n t ph q is off = quiet_all p n λ u g. let before : is_active (s.phase u) ≡ false = quiet_each p s q u g in rw is (grind arith)
