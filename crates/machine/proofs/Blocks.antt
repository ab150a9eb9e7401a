-- A fragment that waits for ever lets no event occur, so that nobody is asked to keep separation.
use Rattle.std.proofs.Common.{◌≡◌, ℕ, true, ℤ, Some, refl, subst, arith}
use Rattle.machine.specs.Effect.{Local, asked}
use Rattle.machine.specs.Strong.{active, State, fragment, driver, Event, mode_of, quiet, event, Reaches, here, more}
use Rattle.machine.specs.Separation.{Access, may, Touches}
use Rattle.machine.specs.Sample.{numbers}
use Rattle.machine.specs.Waiting.{blocking, blocked, Unasked}

stuck : (e : Event) (n : State ℤ) → event numbers blocking e blocked ≡ Some n → ⊥
stuck e n is = grind arith

stays : {s : State ℤ} → Reaches numbers blocking blocked s → s ≡ blocked
stays here = refl
stays (more {m = m} {n = n} e way is) = absurd (stuck e n (subst (λ x. event numbers blocking e x ≡ Some n) (stays way) is))

module _ (s : State ℤ) (same : s ≡ blocked) (t : ℕ) (l : Local ℤ) (a : Access) (c : ℕ) (touch : Touches (asked numbers blocking t l) a c) where
  inside : s.phase t ≡ active l → may fragment a (mode_of s c) ≡ true
  inside at = grind arith

  beyond : quiet blocking s ≡ true → may driver a (mode_of s c) ≡ true
  beyond q = grind arith

pub unasked : Unasked
unasked = record {
  fragments = λ s way t g l at a c touch. inside s (stays way) t l a c touch at;
  drivers = λ s way q t g l at a c touch. beyond s (stays way) t l a c touch q;
}
