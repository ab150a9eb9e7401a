-- The invariant after a call of one task: what the call must leave to every other task and to each cell, and what is left to show of its own run.
use Rattle.std.proofs.Common.{◌≡◌, ℕ, true, false, eqb, sym, refl, ap, ◌∙◌, subst, subst₂}
use mathlib.Core.Path.{fun_ext}
use Rattle.std.specs.Option.{is_some}
use Rattle.program.specs.declared.Mode.TheVariants.{Protected}
use Rattle.book.specs.Seen.{a_task, a_cell}
use Rattle.machine.specs.Update.{upd}
use Rattle.machine.specs.Effect.{Meaning, Program, Local}
use Rattle.machine.specs.Strong.{State, given, Reaches}
use Rattle.machine.specs.Fragment.{Footprint, Run}
use Rattle.machine.proofs.Updates.{split, upd_same, upd_other}
use Rattle.machine.proofs.Alike.{Alike, same_footprint}
use Rattle.machine.proofs.Frames.{reframed}
use Rattle.board.specs.Boards.{mine}
use Rattle.model.specs.Model.{Stage, inside, Model, is_inside, undone}
use Rattle.model.specs.Inv.{is_off, footprint, RunAt, Inv}

module _ {V : Type 0} where
  pub record Holds (p : Program V) (m n : Model V) (t : ℕ) : Type 0 where
    -- every other task has done what it had done, and where it is not stale the values stand that it noted
    pub same : (u : ℕ) → eqb u t ≡ false → Alike (footprint m u) (footprint n u)
    pub fresh : (u : ℕ) → eqb u t ≡ false → n.seen.stale u ≡ false → m.seen.stale u ≡ false
    pub agrees : (u : ℕ) → eqb u t ≡ false → is_inside (m.stage u) ≡ true → n.seen.stale u ≡ false
        → (c : ℕ) → m.seen.noted u c ≡ true → (undone n).cell c ≡ (undone m).cell c
    -- and the rest of the invariant holds
    pub guarded : (c : ℕ) → is_some (n.owner c) ≡ true → n.mode c ≡ Protected
    pub ranged : (c : ℕ) → is_some (n.owner c) ≡ true → a_cell c ≡ true
    pub owners : (u c : ℕ) → mine u (n.owner c) ≡ true → is_inside (n.stage u) ≡ true
    pub known : (u : ℕ) → is_off (n.stage u) ≡ false → (given p u ≡ true) × (a_task u ≡ true)

  module _ (k : Meaning V) (p : Program V) where
    -- a run goes on over cells that are the same, with a footprint that is
    pub carried : {t : ℕ} {cells others : ℕ → V} {o l : Local V} {f g : Footprint V} → Run k p t cells o l f → ((c : ℕ) → cells c ≡ others c) → Alike f g
        → Run k p t others o l g
    carried {t} {o = o} {l = l} run values alike = subst₂ (λ x y. Run k p t x o l y) (fun_ext values) (same_footprint alike) run

    module _ {s₀ : State V} {m n : Model V} (inv : Inv k p s₀ m) (t : ℕ) where
      -- another task's run goes on over the new cells
      run-kept : Holds p m n t → (u : ℕ) → eqb u t ≡ false → (st : Stage V) → m.stage u ≡ st → RunAt k p m u st → RunAt k p n u st
      run-kept h u ne (inside l o) at run = λ fresh.
          carried (reframed k p u (undone n).cell (run (h.fresh u ne fresh)) (h.agrees u ne (ap is_inside at) fresh)) (λ c. refl) (h.same u ne)
      run-kept h u ne _ at run = tt

      pub kept_by : (st : Stage V) → n.stage ≡ upd m.stage t st → Holds p m n t → RunAt k p n t st → Reaches k p s₀ (undone n) → Inv k p s₀ n
      kept_by st moves h run way = record {
        reach = way;
        guarded = h.guarded;
        ranged = h.ranged;
        owners = h.owners;
        known = h.known;
        runs = split (λ u. RunAt k p n u (n.stage u)) t (subst (RunAt k p n t) (sym (ap (λ f. f t) moves ∙ upd_same m.stage t st)) run)
            (λ u ne. subst (RunAt k p n u) (sym (ap (λ f. f u) moves ∙ upd_other m.stage t st u ne)) (run-kept h u ne (m.stage u) refl (inv.runs u)));
      }
