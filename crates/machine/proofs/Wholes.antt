-- A private run to its end is a whole fragment; one that comes to a fault meets it.
use Rattle.std.proofs.Common.{◌≡◌, ℕ, true, false, Some, refl, ap, ◌∙◌}
use Rattle.machine.specs.Effect.{Meaning, Program, Local, next, asked}
use Rattle.machine.specs.Strong.{Phase, idle, active, outside, State, runs, is_active, quiet, Reaches, more}
use Rattle.machine.specs.Fault.{fault_of, fault_in}
use Rattle.machine.specs.Fragment.{Footprint, after, Alone}
use Rattle.machine.specs.FragmentLaws.{Whole, FaultMet}
use Rattle.machine.proofs.Updates.{upd_same}
use Rattle.machine.proofs.Embeds.{followed, stepped, ran-to}
use Rattle.machine.proofs.Quiet.{quiet-moved}

module _ {V : Type 0} (k : Meaning V) where
  -- the operation that ends the fragment
  ends : (p : Program V) (s : State V) (t : ℕ) (l : Local V) (f : Footprint V) (ph : Phase V) → Alone k p t s l f → stepped s.cell f l (asked k p t l) ≡ Some (f, ph)
      → is_active ph ≡ false → Reaches k p s (after s t f ph) × (quiet p (after s t f ph) ≡ true)
  ends p s t l f ph al is off =
      (more (runs t) (followed k p s t al.known al.still al.begins al.run) (ran-to k p s t al.known f l is), quiet-moved p s (after s t f ph) t ph al.still refl off)

  pub whole_stands : Whole k
  whole_stands p s t l f al = (
    (λ asks. ends p s t l f (outside (next l)) al (ap (stepped s.cell f l) asks) refl),
    (λ asks. ends p s t l f idle al (ap (stepped s.cell f l) asks) refl),
  )

  pub fault_met_stands : FaultMet k
  fault_met_stands p s t l f cause al asks = (
    followed k p s t al.known al.still al.begins al.run,
    ap (fault_in k p t) (upd_same s.phase t (active l)) ∙ ap (fault_of l) asks,
  )
