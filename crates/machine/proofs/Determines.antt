-- A private run is a repeated function, so two that stop are the same.
use Rattle.std.proofs.Common.{◌≡◌, ℕ, zero, suc, true, Some, None, Option, sym, refl, ap, ◌∙◌, arith}
use Rattle.machine.specs.Effect.{Meaning, Program, Local, Effect, asked}
use Rattle.machine.specs.Strong.{Phase, active}
use Rattle.machine.specs.Fragment.{Footprint, untouched, Run}
use Rattle.machine.specs.FragmentLaws.{stops, Determined}
use Rattle.machine.proofs.Embeds.{stepped, along}

-- what has come to be, where the task is still inside
abbrev within : {V : Type 0} → Option (Footprint V × Phase V) → Option (Local V × Footprint V)
within (Some (f, active l)) = Some (l, f)
within _ = None

module _ {V : Type 0} (k : Meaning V) (p : Program V) (t : ℕ) (cells : ℕ → V) where
  abbrev Spot : Type 0
  Spot = Local V × Footprint V

  abbrev onward : Option Spot → Option Spot
  onward None = None
  onward (Some a) = within (stepped cells a.1 a.0 (asked k p t a.0))

  abbrev ahead : ℕ → Option Spot → Option Spot
  ahead zero x = x
  ahead (suc n) x = ahead n (onward x)

  ahead_onward : (n : ℕ) (x : Option Spot) → ahead n (onward x) ≡ onward (ahead n x)
  ahead_onward zero x = refl
  ahead_onward (suc n) x = ahead_onward n (onward x)

  ahead_none : (n : ℕ) → ahead n None ≡ None
  ahead_none zero = refl
  ahead_none (suc n) = ahead_none n

  -- one more operation of a run is one more turn
  counted : {start l : Local V} {f : Footprint V} → Run k p t cells start l f → (n : ℕ) × (ahead n (Some (start, untouched)) ≡ Some (l, f))
  counted {start} = along k p t cells start (λ l f. (n : ℕ) × (ahead n (Some (start, untouched)) ≡ Some (l, f))) (0, refl)
      (λ l f to g run before is. (suc before.0, ahead_onward before.0 (Some (start, untouched)) ∙ ap onward before.1 ∙ ap within is))

  stopped : (a : Spot) (e : Effect V) → stops e ≡ true → within (stepped cells a.1 a.0 e) ≡ None
  stopped a e h = grind arith

  over : (n : ℕ) (x : Option Spot) (a b : Spot) → x ≡ Some a → stops (asked k p t a.0) ≡ true → ahead n (onward x) ≡ Some b → ⊥
  over n x a b is h ends =
      let none : None ≡ Some b = sym (ahead_none n) ∙ ap (ahead n) (sym (ap onward is ∙ stopped a (asked k p t a.0) h)) ∙ ends in cc

  meet : (n m : ℕ) (x : Option Spot) (a b : Spot) → ahead n x ≡ Some a → stops (asked k p t a.0) ≡ true
      → ahead m x ≡ Some b → stops (asked k p t b.0) ≡ true → a ≡ b
  meet zero zero x a b ia ha ib hb = cc
  meet zero (suc m) x a b ia ha ib hb = absurd (over m x a b ia ha ib)
  meet (suc n) zero x a b ia ha ib hb = absurd (over n x b a ib hb ia)
  meet (suc n) (suc m) x a b ia ha ib hb = meet n m (onward x) a b ia ha ib hb

pub determined_stands : {V : Type 0} (k : Meaning V) → Determined k
determined_stands {V} k p t cells start l l' f f' run h run' h' = (ap (λ a. a.0) same, ap (λ a. a.1) same)
  where
    same : ◌≡◌ {A = Local V × Footprint V} (l, f) (l', f')
    same = meet k p t cells (counted k p t cells run).0 (counted k p t cells run').0 (Some (start, untouched)) (l, f) (l', f')
        (counted k p t cells run).1 h (counted k p t cells run').1 h'
