-- How each accepted call moves the undone state. Separation is used where a task outside reads or writes a cell, the run where a transaction is committed.
use Rattle.std.proofs.Common.{◌≡◌, ℕ, true, false, refl, ap, arith}
use Rattle.std.proofs.lemmas.Bool.Decides.{nat_tests}
use Rattle.machine.specs.Effect.{Meaning, Program, Local, reads, writes}
use Rattle.machine.specs.Strong.{State, admits, given}
use Rattle.machine.specs.Separation.{reading, writing, Separated}
use Rattle.machine.specs.Fragment.{Alone}
use Rattle.machine.proofs.Events.{admitting}
use Rattle.model.specs.Model.{inside, out, Model, settled, undone}
use Rattle.model.specs.Moves.{Move, admit, open_up, go_in, read_in, take_in, write_in, start_in, go_out, read_out, write_out, start_out, enter, set_mode, finish_out, leave_in, finish_in, undo, rest, still, once, left, ended}
use Rattle.model.specs.Inv.{footprint, Inv}
use Rattle.model.specs.Parts.{part_of, ShiftsBy}
use Rattle.model.proofs.Undone.{undone-quiet, arriving, drives, alone}
use Rattle.model.proofs.Facts.{known_at, run_at, unowned, driver-lawful}

module _ {V : Type 0} (k : Meaning V) (p : Program V) {s₀ : State V} (sep : Separated k p s₀) {m : Model V} (inv : Inv k p s₀ m) where
  given_out : (t : ℕ) (l : Local V) → m.stage t ≡ out l → given p t ≡ true
  given_out t l at = (known_at inv t (out l) at refl).0

  its_run : (t : ℕ) (l o : Local V) → m.stage t ≡ inside l o → m.seen.stale t ≡ false → Alone k p t (undone m) l (footprint m t)
  its_run t l o at fresh = alone k p m t l o (known_at inv t (inside l o) at refl).0 at (run_at inv t l o at fresh)

  pub shifts_stands : {n : Model V} (v : Move k p m n) → ShiftsBy k p (part_of v) (undone m) (undone n)
  shifts_stands (admit t n g a at owes) =
      arriving k p (once (admits t) (admitting k p (undone m) t n g (undone-quiet p m) owes (ap settled at)), refl) (grind (arith, nat_tests))
  shifts_stands (open_up t l at) = arriving k p (still, refl) (grind (arith, nat_tests))
  shifts_stands (go_in t l o to at asks) = arriving k p (still, refl) (grind (arith, nat_tests))
  shifts_stands (read_in t l o d c at asks a) = arriving k p (still, refl) (grind (arith, nat_tests))
  shifts_stands (take_in t l o c v at asks a free guard) = arriving k p (still, refl) (grind (arith, nat_tests))
  shifts_stands (write_in t l o c v at asks own) = arriving k p (still, refl) (grind (arith, nat_tests))
  shifts_stands (start_in t l o u at asks) = arriving k p (still, refl) (grind (arith, nat_tests))
  shifts_stands (go_out t l to at asks) = arriving k p (drives k p m t l _ (given_out t l at) at asks refl) (grind (arith, nat_tests))
  shifts_stands (read_out t l d c at asks) =
      let free = unowned inv t reading c (driver-lawful inv t sep l at (reads d c) asks reading c refl) in
      arriving k p (drives k p m t l _ (given_out t l at) at asks refl) (grind (arith, nat_tests))
  shifts_stands (write_out t l c v at asks) =
      let free = unowned inv t writing c (driver-lawful inv t sep l at (writes c v) asks writing c refl) in
      arriving k p (drives k p m t l _ (given_out t l at) at asks refl) (grind (arith, nat_tests))
  shifts_stands (start_out t l u at asks) = arriving k p (drives k p m t l _ (given_out t l at) at asks refl) (grind (arith, nat_tests))
  shifts_stands (enter t l at asks) = arriving k p (drives k p m t l _ (given_out t l at) at asks refl) (grind (arith, nat_tests))
  shifts_stands (set_mode t l c d at asks free) = arriving k p (drives k p m t l _ (given_out t l at) at asks refl) (grind (arith, nat_tests))
  shifts_stands (finish_out t l at asks) = arriving k p (drives k p m t l _ (given_out t l at) at asks refl) (grind (arith, nat_tests))
  shifts_stands (leave_in t l o at asks fresh) = arriving k p (left t l _ (its_run t l o at fresh) asks, refl) (grind (arith, nat_tests))
  shifts_stands (finish_in t l o at asks fresh) = arriving k p (ended t l _ (its_run t l o at fresh) asks, refl) (grind (arith, nat_tests))
  shifts_stands (undo t l o at) = arriving k p (still, refl) (grind (arith, nat_tests))
  shifts_stands (rest none) = (still, refl)
