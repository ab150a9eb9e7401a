-- Never are two tasks active at once.
use Rattle.std.proofs.Common.{◌≡◌, ℕ, true, arith}
use Rattle.std.proofs.lemmas.Bool.Decides.{nat_tests}
use Rattle.machine.specs.Effect.{Meaning, Program}
use Rattle.machine.specs.Strong.{State, is_active, given, quiet, Reaches, here, more}
use Rattle.machine.specs.MachineLaws.{OneAtATime}
use Rattle.machine.proofs.Quiet.{quiet_each}
use Rattle.machine.proofs.Inverts.{Occurred, occurred, task_of}

module _ {V : Type 0} (k : Meaning V) (p : Program V) where
  abbrev Single : State V → Type 0
  Single s = (t u : ℕ) → given p t ≡ true → given p u ≡ true → is_active (s.phase t) ≡ true → is_active (s.phase u) ≡ true → t ≡ u

  quiet_single : (s : State V) → quiet p s ≡ true → Single s
  quiet_single s q t u gt gu at au = let off = quiet_each p s q t gt in cc

  -- after an event only its own task may be active
  kept : (s n : State V) (t : ℕ) → Single s → Occurred k p s n t → Single n
  kept s n t single o = grind (arith, nat_tests, quiet_each)

  always : {s₀ s : State V} → Single s₀ → Reaches k p s₀ s → Single s
  always single here = single
  always single (more {m = m} {n = n} e way is) = kept m n (task_of e) (always single way) (occurred k p m n e is)

pub one_at_a_time_stands : {V : Type 0} (k : Meaning V) → OneAtATime k
one_at_a_time_stands k p s₀ s q way = always k p (quiet_single k p s₀ q) way
