-- States, and footprints, that are the same at each number are the same.
use Rattle.std.proofs.Common.{◌≡◌, ℕ}
use mathlib.Core.Path.{fun_ext}
use Rattle.machine.specs.Strong.{State}
use Rattle.machine.specs.Fragment.{Footprint}

module _ {V : Type 0} where
  pub record Same (s n : State V) : Type 0 where
    pub cells : (c : ℕ) → s.cell c ≡ n.cell c
    pub modes : (c : ℕ) → s.mode c ≡ n.mode c
    pub owed : (u : ℕ) → s.owed u ≡ n.owed u
    pub phases : (u : ℕ) → s.phase u ≡ n.phase u

  pub same_state : {s n : State V} → Same s n → s ≡ n
  same_state e = λ i. record { cell = fun_ext e.cells i; mode = fun_ext e.modes i; owed = fun_ext e.owed i; phase = fun_ext e.phases i }

  pub record Alike (f g : Footprint V) : Type 0 where
    pub logs : (c : ℕ) → f.log c ≡ g.log c
    pub notes : (c : ℕ) → f.noted c ≡ g.noted c
    pub calls : (u : ℕ) → f.calls u ≡ g.calls u

  pub same_footprint : {f g : Footprint V} → Alike f g → f ≡ g
  same_footprint e = λ i. record { log = fun_ext e.logs i; noted = fun_ext e.notes i; calls = fun_ext e.calls i }
