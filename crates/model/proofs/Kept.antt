-- Every accepted call keeps the invariant, and it holds at first.
use Rattle.std.proofs.Common.{◌≡◌, ℕ, true, false, refl, subst, arith}
use Rattle.std.proofs.lemmas.Bool.Decides.{nat_tests}
use Rattle.machine.specs.Effect.{Meaning, Program, Local, next, loaded, reads, writes, asked}
use Rattle.machine.specs.Strong.{State, Reaches, here}
use Rattle.machine.specs.Separation.{writing, Separated}
use Rattle.machine.specs.Fragment.{noting, Run, begin, go, read, write, call, values}
use Rattle.board.specs.Boards.{another}
use Rattle.model.specs.Model.{Stage, off, waiting, inside, out, Model, is_inside, undone}
use Rattle.model.specs.Moves.{Move, admit, open_up, go_in, read_in, take_in, write_in, start_in, go_out, read_out, write_out, start_out, enter, set_mode, finish_out, leave_in, finish_in, undo, rest}
use Rattle.model.specs.Inv.{RunAt, footprint, Inv}
use Rattle.model.specs.Laws.{Kept, AtFirst}
use Rattle.model.proofs.Notes.{apart, fresh_before}
use Rattle.model.proofs.Undone.{onward}
use Rattle.model.proofs.Facts.{one_side, known_at, run_at, unowned, noted-lawful, driver-lawful}
use Rattle.model.proofs.Shifting.{shifts_stands}
use Rattle.model.proofs.Holding.{carried, kept_by}

module _ {V : Type 0} (k : Meaning V) (p : Program V) where
  -- nothing is to show of a task that is not inside
  no_run : (m : Model V) (t : ℕ) (st : Stage V) → is_inside st ≡ false → RunAt k p m t st
  no_run m t (inside l o) w = cc
  no_run m t _ w = tt

  module _ {s₀ : State V} (sep : Separated k p s₀) {m : Model V} (inv : Inv k p s₀ m) where
    -- no other task owns the cell, so what is read is what the run sees
    owned_value : (t c : ℕ) → another t (m.owner c) ≡ false → values (undone m).cell (footprint m t) c ≡ m.cell c
    owned_value t c free = grind arith

    read_on : (t : ℕ) (l o : Local V) (d c : ℕ) → m.stage t ≡ inside l o → asked k p t l ≡ reads d c → m.seen.stale t ≡ false → another t (m.owner c) ≡ false
        → Run k p t (undone m).cell o (loaded l d (m.cell c)) (noting (footprint m t) c)
    read_on t l o d c at asks fresh free =
        subst (λ v. Run k p t (undone m).cell o (loaded l d v) (noting (footprint m t) c)) (owned_value t c free) (read d c (run_at inv t l o at fresh) asks)

    -- what a driver writes nobody owns, and no transaction that is not stale has noted
    unnoted : (t : ℕ) (l : Local V) (c : ℕ) (v : V) → m.stage t ≡ out l → asked k p t l ≡ writes c v
        → (u : ℕ) → is_inside (m.stage u) ≡ true → m.seen.stale u ≡ false → m.seen.noted u c ≡ true → ⊥
    unnoted t l c v at asks u within fresh noted =
        one_side (m.mode c) (driver-lawful inv t sep l at (writes c v) asks writing c refl) (noted-lawful inv u sep (m.stage u) refl within fresh c noted)

    -- where the strong machine reaches the undone state again
    kept_where : {n : Model V} → Move k p m n → Reaches k p s₀ (undone n) → Inv k p s₀ n
    kept_where (admit t n g a at owes) = kept_by k p inv t (waiting _) refl (grind (arith, nat_tests)) tt
    kept_where (open_up t l at) =
        kept_by k p inv t (inside l l) refl (grind (arith, nat_tests)) (λ fresh. carried k p {cells = (undone m).cell} begin (λ c. refl) (grind (arith, nat_tests)))
    kept_where (go_in t l o to at asks) = kept_by k p inv t (inside to o) refl (grind (arith, nat_tests)) (λ fresh. go to (run_at inv t l o at fresh) asks)
    kept_where (read_in t l o d c at asks a) =
        kept_by k p inv t (inside (loaded l d (m.cell c)) o) refl (grind (arith, nat_tests)) (λ stays.
        let (fresh, free) = fresh_before m.seen t c (another t (m.owner c)) (known_at inv t (inside l o) at refl).1 a stays in
        carried k p (read_on t l o d c at asks fresh free) (λ i. refl) (grind (arith, nat_tests)))
    kept_where (take_in t l o c v at asks a free guard) =
        kept_by k p inv t (inside (next l) o) refl (grind (arith, nat_tests)) (λ fresh.
        carried k p (write c v (run_at inv t l o at fresh) asks) (grind (arith, nat_tests)) (grind (arith, nat_tests)))
    kept_where (write_in t l o c v at asks own) =
        kept_by k p inv t (inside (next l) o) refl (grind (arith, nat_tests)) (λ fresh.
        carried k p (write c v (run_at inv t l o at fresh) asks) (grind (arith, nat_tests)) (grind (arith, nat_tests)))
    kept_where (start_in t l o u at asks) =
        kept_by k p inv t (inside (next l) o) refl (grind (arith, nat_tests)) (λ fresh.
        carried k p (call u (run_at inv t l o at fresh) asks) (λ c. refl) (grind (arith, nat_tests)))
    kept_where (go_out t l to at asks) = kept_by k p inv t (out _) refl (grind (arith, nat_tests)) tt
    kept_where (read_out t l d c at asks) = kept_by k p inv t (out _) refl (grind (arith, nat_tests)) tt
    kept_where (write_out t l c v at asks) =
        let free = unowned inv t writing c (driver-lawful inv t sep l at (writes c v) asks writing c refl) in
        let other = unnoted t l c v at asks in
        kept_by k p inv t (out _) refl (grind (arith, nat_tests)) tt
    kept_where (start_out t l u at asks) = kept_by k p inv t (out _) refl (grind (arith, nat_tests)) tt
    kept_where (enter t l at asks) = kept_by k p inv t (waiting _) refl (grind (arith, nat_tests)) tt
    kept_where (set_mode t l c d at asks lawful) = kept_by k p inv t (out _) refl (grind (arith, nat_tests)) tt
    kept_where (finish_out t l at asks) = kept_by k p inv t off refl (grind (arith, nat_tests)) tt
    kept_where (leave_in t l o at asks fresh) = kept_by k p inv t (out _) refl (grind (arith, nat_tests, apart)) tt
    kept_where (finish_in t l o at asks fresh) = kept_by k p inv t off refl (grind (arith, nat_tests, apart)) tt
    kept_where (undo t l o at) = kept_by k p inv t (waiting o) refl (grind (arith, nat_tests)) tt
    kept_where {n} (rest none) = λ way. record {
      reach = way;
      guarded = inv.guarded;
      ranged = inv.ranged;
      owners = inv.owners;
      known = inv.known;
      runs = λ t. no_run n t (m.stage t) (none t);
    }

pub kept_stands : {V : Type 0} (k : Meaning V) → Kept k
kept_stands k p s₀ m n sep inv v =
    let shift = shifts_stands k p sep inv v in
    (kept_where k p sep inv v (onward k p shift.0 inv.reach), shift)

pub at_first_stands : {V : Type 0} (k : Meaning V) → AtFirst k
at_first_stands k p m none free known = record {
  reach = here;
  guarded = λ c h. cc (free c);
  ranged = λ c h. cc (free c);
  owners = λ t c own. grind arith;
  known = known;
  runs = λ t. no_run k p m t (m.stage t) (none t);
}
