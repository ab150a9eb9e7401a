-- The faults that the engine finds are faults of the strong machine.
use Rattle.std.proofs.Common.{refl, ap, ◌∙◌}
use Rattle.machine.specs.Effect.{Meaning}
use Rattle.machine.specs.Strong.{active}
use Rattle.machine.specs.Fault.{fault_of, fault_in}
use Rattle.machine.specs.Fragment.{after}
use Rattle.machine.proofs.Updates.{upd_same}
use Rattle.machine.proofs.Events.{joined}
use Rattle.machine.proofs.Wholes.{fault_met_stands}
use Rattle.model.specs.Model.{inside, settled, undone}
use Rattle.model.specs.Inv.{footprint}
use Rattle.model.specs.Laws.{FaultInside, FaultOutside}
use Rattle.model.proofs.Undone.{undone-quiet, alone}
use Rattle.model.proofs.Facts.{known_at, run_at}

module _ {V : Type 0} (k : Meaning V) where
  pub fault_inside_stands : FaultInside k
  fault_inside_stands p s₀ m inv t l o cause at fresh asks =
      let met = fault_met_stands k p (undone m) t l (footprint m t) cause (alone k p m t l o (known_at inv t (inside l o) at refl).0 at (run_at inv t l o at fresh)) asks in
      (after (undone m) t (footprint m t) (active l), joined k p inv.reach met.0, upd_same (undone m).phase t (active l), met.1)

  pub fault_outside_stands : FaultOutside k
  fault_outside_stands p s₀ m inv t l cause at asks =
      (inv.reach, undone-quiet p m, ap settled at, ap (λ st. fault_in k p t (settled st)) at ∙ ap (fault_of l) asks)
