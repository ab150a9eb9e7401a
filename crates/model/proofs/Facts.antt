-- What the invariant says of one task: who it is, its run, and under separation which cells it may touch.
use Rattle.std.proofs.Common.{◌≡◌, ℕ, true, false, sym, refl, ap, ◌∙◌, subst, arith}
use Rattle.std.specs.Option.{is_some}
use Rattle.program.specs.declared.Mode.{Mode}
use Rattle.book.specs.Seen.{a_task}
use Rattle.machine.specs.Effect.{Meaning, Program, Local, Effect, asked}
use Rattle.machine.specs.Strong.{State, fragment, driver, given}
use Rattle.machine.specs.Separation.{Access, reading, writing, may, Touches, Separated}
use Rattle.machine.specs.Fragment.{Run}
use Rattle.machine.proofs.Passing.{own_side_stands}
use Rattle.model.specs.Model.{Stage, inside, out, Model, is_inside, settled, undone}
use Rattle.model.specs.Inv.{is_off, footprint, RunAt, Inv}
use Rattle.model.proofs.Undone.{undone-quiet, alone}

-- no cell is written by drivers and read by fragments
pub one_side : (d : Mode) → may driver writing d ≡ true → may fragment reading d ≡ true → ⊥
one_side d w r = grind arith

module _ {V : Type 0} {k : Meaning V} {p : Program V} {s₀ : State V} {m : Model V} (inv : Inv k p s₀ m) (t : ℕ) where
  pub known_at : (st : Stage V) → m.stage t ≡ st → is_off st ≡ false → (given p t ≡ true) × (a_task t ≡ true)
  known_at st at on = inv.known t (ap is_off at ∙ on)

  pub run_at : (l o : Local V) → m.stage t ≡ inside l o → m.seen.stale t ≡ false → Run k p t (undone m).cell o l (footprint m t)
  run_at l o at = subst (RunAt k p m t) at (inv.runs t)

  -- a cell that drivers may touch is not owned
  pub unowned : (a : Access) (c : ℕ) → may driver a (m.mode c) ≡ true → is_some (m.owner c) ≡ false
  unowned a c lawful = grind arith

  module _ (sep : Separated k p s₀) where
    -- what a transaction that is not stale has noted is on the fragments' side
    pub noted-lawful : (st : Stage V) → m.stage t ≡ st → is_inside st ≡ true → m.seen.stale t ≡ false → (c : ℕ) → m.seen.noted t c ≡ true → may fragment reading (m.mode c) ≡ true
    noted-lawful (inside l o) at within fresh c noted =
        (own_side_stands k p s₀ (undone m) t l (footprint m t) sep inv.reach (alone k p m t l o (known_at (inside l o) at refl).0 at (run_at l o at fresh))).0 c noted
    noted-lawful _ at within fresh c noted = cc

    -- what a task outside is about to touch is on the drivers' side
    pub driver-lawful : (l : Local V) → m.stage t ≡ out l → (e : Effect V) → asked k p t l ≡ e → (a : Access) (c : ℕ) → Touches e a c → may driver a (m.mode c) ≡ true
    driver-lawful l at e asks a c touches =
        sep.drivers (undone m) inv.reach (undone-quiet p m) t (known_at (out l) at refl).0 l (ap settled at) a c (subst (λ x. Touches x a c) (sym asks) touches)
