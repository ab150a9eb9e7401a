-- The undone state: no task is active in it, and how it moves when one task comes to another stage.
use Rattle.std.proofs.Common.{◌≡◌, ℕ, true, false, Some, refl, ap, ◌∙◌, subst, arith}
use Rattle.machine.specs.Effect.{Meaning, Program, Local, Effect, asked}
use Rattle.machine.specs.Strong.{State, driver, runs, is_active, given, quiet, acted, Reaches, more}
use Rattle.machine.specs.Fragment.{Run, Alone}
use Rattle.machine.proofs.Alike.{Same, same_state}
use Rattle.machine.proofs.Quiet.{quiet_all}
use Rattle.machine.proofs.Events.{driving, joined}
use Rattle.machine.proofs.Wholes.{whole_stands}
use Rattle.model.specs.Model.{Stage, inside, out, Model, settled, undone}
use Rattle.model.specs.Moves.{Shift, still, once, left, ended}
use Rattle.model.specs.Inv.{footprint}
use Rattle.model.specs.Parts.{Part, one, ShiftsBy}

module _ {V : Type 0} where
  not_active : (st : Stage V) → is_active (settled st) ≡ false
  not_active st = grind arith

  pub undone-quiet : (p : Program V) (m : Model V) → quiet p (undone m) ≡ true
  undone-quiet p m = quiet_all p (undone m) (λ t _. not_active (m.stage t))

  module _ (k : Meaning V) (p : Program V) where
    -- a shift leads on from where the strong machine has come to
    pub onward : {s₀ s n : State V} → Shift k p s n → Reaches k p s₀ s → Reaches k p s₀ n
    onward still way = way
    onward (once e is) way = more e way is
    onward {s = s} (left t l f al asks) way = joined k p way ((whole_stands k p s t l f al).0 asks).0
    onward {s = s} (ended t l f al asks) way = joined k p way ((whole_stands k p s t l f al).1 asks).0

    pub arriving : {s n n' : State V} {part : Part} → ShiftsBy k p part s n → Same n n' → ShiftsBy k p part s n'
    arriving {s} {part = part} h same = subst (λ x. ShiftsBy k p part s x) (same_state same) h

    module _ (m : Model V) (t : ℕ) where
      -- a task outside runs its operation
      pub drives : {n : State V} (l : Local V) (e : Effect V) → given p t ≡ true → m.stage t ≡ out l → asked k p t l ≡ e
          → acted driver (undone m) t l e ≡ Some n → ShiftsBy k p (one (runs t)) (undone m) n
      drives l e g at asks does =
          (once (runs t) (driving k p (undone m) t l g (undone-quiet p m) (ap settled at) ∙ ap (acted driver (undone m) t l) asks ∙ does), refl)

      -- what a transaction has done so far, in the undone state
      pub alone : (l o : Local V) → given p t ≡ true → m.stage t ≡ inside l o → Run k p t (undone m).cell o l (footprint m t)
          → Alone k p t (undone m) l (footprint m t)
      alone l o g at run = record { still = undone-quiet p m; known = g; start = o; begins = ap settled at; run = run }
