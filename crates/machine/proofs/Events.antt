-- What an event gives, where its conditions hold; and one way after another.
use Rattle.std.proofs.Common.{◌≡◌, ℕ, suc, true, Some}
use Rattle.machine.specs.Update.{upd}
use Rattle.machine.specs.Effect.{Meaning, Program, Local, asked}
use Rattle.machine.specs.Strong.{idle, ready, active, outside, State, fragment, driver, admits, opens, runs, placed, owing, acted, first, given, quiet, event, Reaches, here, more}

module _ {V : Type 0} (k : Meaning V) (p : Program V) (s : State V) (t : ℕ) where
  pub admitting : (n : ℕ) → given p t ≡ true → quiet p s ≡ true → s.owed t ≡ suc n → s.phase t ≡ idle
      → event k p (admits t) s ≡ Some (placed (owing s (upd s.owed t n)) t (ready (first k)))
  admitting n g q owes at = simp (g, q, owes, at)

  pub opening : (l : Local V) → given p t ≡ true → quiet p s ≡ true → s.phase t ≡ ready l → event k p (opens t) s ≡ Some (placed s t (active l))
  opening l g q at = simp (g, q, at)

  pub running : (l : Local V) → given p t ≡ true → s.phase t ≡ active l → event k p (runs t) s ≡ acted fragment s t l (asked k p t l)
  running l g at = simp (g, at)

  pub driving : (l : Local V) → given p t ≡ true → quiet p s ≡ true → s.phase t ≡ outside l → event k p (runs t) s ≡ acted driver s t l (asked k p t l)
  driving l g q at = simp (g, q, at)

module _ {V : Type 0} (k : Meaning V) (p : Program V) where
  pub joined : {s m n : State V} → Reaches k p s m → Reaches k p m n → Reaches k p s n
  joined a here = a
  joined a (more e b is) = more e (joined a b) is
