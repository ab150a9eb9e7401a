-- From its opening to its end a fragment of the strong machine is a private run, and undisturbed.
use Rattle.std.proofs.Common.{◌≡◌, ℕ, true, false, eqb, Some, sym, refl, ap, ◌∙◌, subst, arith}
use Rattle.std.proofs.lemmas.Bool.{ne_eqb}
use Rattle.std.proofs.lemmas.Bool.Decides.{nat_tests}
use Rattle.std.proofs.lemmas.Option.{same_Some}
use Rattle.machine.specs.Effect.{Meaning, Program, Local, Effect, goes, reads, writes, starts, leaves, finishes, asked}
use Rattle.machine.specs.Strong.{active, State, Event, opens, runs, is_active, quiet, event}
use Rattle.machine.specs.Fragment.{Footprint, untouched, after, Run, begin, go, read, write, call, Alone}
use Rattle.machine.specs.MachineLaws as machine
use Rattle.machine.specs.MachineLaws.{Stretch, Undisturbed}
use Rattle.machine.specs.FragmentLaws.{Come, inside, left, finished, Faithful}
use Rattle.machine.proofs.Updates.{upd_same}
use Rattle.machine.proofs.Quiet.{quiet_each, not_quiet}
use Rattle.machine.proofs.Inverts.{was_ready, opened_is, occurred}
use Rattle.machine.proofs.Embeds.{stepped, after_opening, landed, ran}

module _ {V : Type 0} (k : Meaning V) (p : Program V) (s : State V) (t : ℕ) where
  abbrev OnRun : State V → Type 0
  OnRun n = (l : Local V) × (f : Footprint V) × Alone k p t s l f × Come k p s t l f n

  opened-run : (o : State V) → event k p (opens t) s ≡ Some o → OnRun o
  opened-run o is =
      let (l, at) = was_ready k p s o t (s.phase t) refl is in
      let (known, still, now) = opened_is k p s o t l at is in
      (l, untouched, record { still = still; known = known; start = l; begins = at; run = begin }, subst (Come k p s t l untouched) (sym (now ∙ after_opening s t l)) inside)

  module _ (l : Local V) (f : Footprint V) (al : Alone k p t s l f) where
    abbrev now : State V
    now = after s t f (active l)

    alone : {to : Local V} {g : Footprint V} → Run k p t s.cell al.start to g → Alone k p t s to g
    alone run = record { still = al.still; known = al.known; start = al.start; begins = al.begins; run = run }

    -- the run goes on to what stands after it
    on : {n m : State V} (to : Local V) (g : Footprint V) → Run k p t s.cell al.start to g → Come k p s t to g m → Some m ≡ Some n → OnRun n
    on to g run come is = (to, g, alone run, subst (Come k p s t to g) (same_Some _ _ is) come)

    by_effect : {n : State V} (e : Effect V) → asked k p t l ≡ e → landed s t (stepped s.cell f l e) ≡ Some n → OnRun n
    by_effect (goes to) asks is = on _ _ (go to al.run asks) inside is
    by_effect (reads to c) asks is = on _ _ (read to c al.run asks) inside is
    by_effect (writes c v) asks is = on _ _ (write c v al.run asks) inside is
    by_effect (starts u) asks is = on _ _ (call u al.run asks) inside is
    by_effect leaves asks is = on l f al.run (left asks) is
    by_effect finishes asks is = on l f al.run (finished asks) is
    by_effect _ asks is = cc

    loud : quiet p now ≡ false
    loud = not_quiet p now t al.known (ap is_active (upd_same s.phase t (active l)))

    -- no task but t has a turn
    only : (e : Event) {n : State V} → quiet p now ≡ false → event k p e now ≡ Some n → e ≡ runs t
    only e {n} q is = let o = occurred k p now n e is in grind (arith, nat_tests, quiet_each)

    by_event : {n : State V} (e : Event) → event k p e now ≡ Some n → OnRun n
    by_event {n} e is =
        by_effect (asked k p t l) refl (sym (ran k p s t al.known f l) ∙ subst (λ x. event k p x now ≡ Some n) (only e loud is) is)

  come_mode : {l : Local V} {f : Footprint V} {n : State V} → Come k p s t l f n → n.mode ≡ s.mode
  come_mode come = grind arith

  come_others : {l : Local V} {f : Footprint V} {n : State V} → Come k p s t l f n → (u : ℕ) → eqb u t ≡ false → n.phase u ≡ s.phase u
  come_others come u ne = grind arith

  -- where the task is still active, the fragment is on its run
  still_inside : {l : Local V} {f : Footprint V} {n : State V} → Come k p s t l f n → is_active (n.phase t) ≡ true → n ≡ after s t f (active l)
  still_inside come a = grind (arith, nat_tests)

  stretched : {o n : State V} → event k p (opens t) s ≡ Some o → Stretch k p t o n → OnRun n
  stretched {o} is machine.here = opened-run o is
  stretched is (machine.more {m = m} {n = n} e way a was) =
      let (l, f, al, come) = stretched is way in
      by_event l f al e (subst (λ x. event k p e x ≡ Some n) (still_inside come a) was)

module _ {V : Type 0} (k : Meaning V) where
  pub faithful_stands : Faithful k
  faithful_stands p s o n t is way = stretched k p s t is way

  pub undisturbed_stands : Undisturbed k
  undisturbed_stands p t s o n is way =
      let come = (stretched k p s t is way).3 in
      (come_mode k p s t come, λ u ne. come_others k p s t come u (ne_eqb u t ne))
