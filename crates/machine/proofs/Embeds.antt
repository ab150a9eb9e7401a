-- The strong machine follows a private run, operation by operation.
use Rattle.std.proofs.Common.{◌≡◌, ℕ, true, Some, None, Option, refl, ap, ◌∙◌, arith}
use Rattle.std.proofs.lemmas.Bool.Decides.{nat_tests}
use Rattle.std.specs.Option.{option_map}
use Rattle.machine.specs.Effect.{Meaning, Program, Local, next, loaded, Effect, goes, reads, writes, starts, leaves, finishes, asked}
use Rattle.machine.specs.Strong.{Phase, idle, ready, active, outside, State, fragment, runs, opens, placed, acted, given, quiet, event, Reaches, here, more}
use Rattle.machine.specs.Fragment.{Footprint, values, untouched, noting, logging, calling, after, Run, begin, go, read, write, call}
use Rattle.machine.proofs.Updates.{upd_same}
use Rattle.machine.proofs.Alike.{same_state}
use Rattle.machine.proofs.Events.{opening, running}

-- what an effect makes of a run: its footprint, and the phase that its task comes to
abbrev pub stepped : {V : Type 0} → (ℕ → V) → Footprint V → Local V → Effect V → Option (Footprint V × Phase V)
stepped cells f l (goes to) = Some (f, active to)
stepped cells f l (reads to c) = Some (noting f c, active (loaded l to (values cells f c)))
stepped cells f l (writes c v) = Some (logging f c v, active (next l))
stepped cells f l (starts u) = Some (calling f u, active (next l))
stepped cells f l leaves = Some (f, outside (next l))
stepped cells f l finishes = Some (f, idle)
stepped cells f l _ = None

module _ {V : Type 0} (s : State V) (t : ℕ) where
  abbrev pub landed : Option (Footprint V × Phase V) → Option (State V)
  landed = option_map (λ a. after s t a.0 a.1)

  -- an opening, and each effect, in the words of a run's footprint
  pub after_opening : (l : Local V) → placed s t (active l) ≡ after s t untouched (active l)
  after_opening l = same_state (grind arith)

  acts : (f : Footprint V) (l : Local V) (e : Effect V) → acted fragment (after s t f (active l)) t l e ≡ landed (stepped s.cell f l e)
  acts f l (goes to) = ap Some (same_state (grind (arith, nat_tests)))
  acts f l (reads to c) = ap Some (same_state (grind (arith, nat_tests)))
  acts f l (writes c v) = ap Some (same_state (grind (arith, nat_tests)))
  acts f l (starts u) = ap Some (same_state (grind (arith, nat_tests)))
  acts f l leaves = ap Some (same_state (grind (arith, nat_tests)))
  acts f l finishes = ap Some (same_state (grind (arith, nat_tests)))
  acts f l _ = refl

-- a statement of every end of a run, by that of its start and by one case for all its operations
module _ {V : Type 0} (k : Meaning V) (p : Program V) (t : ℕ) (cells : ℕ → V) (start : Local V) (P : Local V → Footprint V → Type 0) (first : P start untouched)
    (step : (l : Local V) (f : Footprint V) (to : Local V) (g : Footprint V) → Run k p t cells start l f → P l f → stepped cells f l (asked k p t l) ≡ Some (g, active to) → P to g)
  where
    pub along : {l : Local V} {f : Footprint V} → Run k p t cells start l f → P l f
    along begin = first
    along (go {l = l} {f = f} to run asks) = step l f _ _ run (along run) (ap (stepped cells f l) asks)
    along (read {l = l} {f = f} to c run asks) = step l f _ _ run (along run) (ap (stepped cells f l) asks)
    along (write {l = l} {f = f} c v run asks) = step l f _ _ run (along run) (ap (stepped cells f l) asks)
    along (call {l = l} {f = f} u run asks) = step l f _ _ run (along run) (ap (stepped cells f l) asks)

module _ {V : Type 0} (k : Meaning V) (p : Program V) (s : State V) (t : ℕ) (known : given p t ≡ true) where
  -- the active task runs its operation
  pub ran : (f : Footprint V) (l : Local V) → event k p (runs t) (after s t f (active l)) ≡ landed s t (stepped s.cell f l (asked k p t l))
  ran f l = running k p (after s t f (active l)) t l known (upd_same s.phase t (active l)) ∙ acts s t f l (asked k p t l)

  pub ran-to : (f : Footprint V) (l : Local V) {g : Footprint V} {ph : Phase V} → stepped s.cell f l (asked k p t l) ≡ Some (g, ph)
      → event k p (runs t) (after s t f (active l)) ≡ Some (after s t g ph)
  ran-to f l is = ran f l ∙ ap (landed s t) is

  pub followed : {start l : Local V} {f : Footprint V} → quiet p s ≡ true → s.phase t ≡ ready start → Run k p t s.cell start l f
      → Reaches k p s (after s t f (active l))
  followed {start} still at = along k p t s.cell start (λ l f. Reaches k p s (after s t f (active l)))
      (more (opens t) here (opening k p s t start known still at ∙ ap Some (after_opening s t start)))
      (λ l f to g run way is. more (runs t) way (ran-to f l is))
