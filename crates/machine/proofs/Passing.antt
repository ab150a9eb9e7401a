-- The way of a private run passes each cell that the run read or wrote; so under separation those cells are on its side.
use Rattle.std.proofs.Common.{◌≡◌, ℕ, Bool, true, Some, ◌⊎◌, refl, ap, ◌∙◌, sym, inl, inr, arith}
use Rattle.std.proofs.lemmas.Bool.Decides.{nat_tests}
use Rattle.machine.specs.Effect.{Meaning, Program, Local, Effect, asked}
use Rattle.machine.specs.Strong.{Phase, ready, active, State, fragment, Event, runs, mode_of, given, quiet, event, Reaches, here, more}
use Rattle.machine.specs.Separation.{Access, reading, writing, may, Touches, Separated}
use Rattle.machine.specs.Fragment.{Footprint, wrote, untouched, after, Run}
use Rattle.machine.specs.MachineLaws.{Lasts}
use Rattle.machine.specs.FragmentLaws.{Passes, Embedding, OwnSide}
use Rattle.machine.proofs.Updates.{upd_same}
use Rattle.machine.proofs.Events.{joined}
use Rattle.machine.proofs.Embeds.{stepped, along, followed, ran-to}

-- the run has read the cell, or written it
abbrev pub touched : {V : Type 0} → Footprint V → Access → ℕ → Bool
touched f reading c = f.noted c
touched f writing c = wrote f c

-- what a run has touched after an operation, it had touched before or touches by it
older-or-now : {V : Type 0} (cells : ℕ → V) (f : Footprint V) (l : Local V) (e : Effect V) (g : Footprint V) (ph : Phase V) → stepped cells f l e ≡ Some (g, ph)
    → (a : Access) (c : ℕ) → touched g a c ≡ true → (touched f a c ≡ true) ⊎ Touches e a c
older-or-now cells f l e g ph is a c h = grind (arith, nat_tests)

untouching : (V : Type 0) (a : Access) (c : ℕ) → touched {V = V} untouched a c ≡ true → ⊥
untouching V a c h = grind arith

module _ {V : Type 0} (k : Meaning V) (p : Program V) where
  pass_on : {s m n : State V} {t : ℕ} {a : Access} {c : ℕ} (e : Event) → Passes k p s m t a c → event k p e m ≡ Some n → Passes k p s n t a c
  pass_on e q is = record {
    between = q.between;
    before = q.before;
    onward = more e q.onward is;
    modes = q.modes;
    local = q.local;
    there = q.there;
    touches = q.touches;
  }

  -- the last state before an operation that touches, or an earlier one
  pub passed : (s : State V) (t : ℕ) → quiet p s ≡ true → given p t ≡ true → {start l : Local V} {f : Footprint V} → s.phase t ≡ ready start
      → Run k p t s.cell start l f → (a : Access) (c : ℕ) → touched f a c ≡ true → Passes k p s (after s t f (active l)) t a c
  passed s t still known {start} at = along k p t s.cell start (λ l f. (a : Access) (c : ℕ) → touched f a c ≡ true → Passes k p s (after s t f (active l)) t a c)
      (λ a c h. absurd (untouching V a c h))
      (λ l f to g run earlier is a c h.
      elim (older-or-now s.cell f l (asked k p t l) g (active to) is a c h) [
        | inl before ↦ pass_on (runs t) (earlier a c before) (ran-to k p s t known f l is)
        | inr touch ↦ record {
          between = after s t f (active l);
          before = followed k p s t known still at run;
          onward = more (runs t) here (ran-to k p s t known f l is);
          modes = refl;
          local = l;
          there = upd_same s.phase t (active l);
          touches = touch;
        }
      ])

module _ {V : Type 0} (k : Meaning V) where
  pub lasts_stands : Lasts k
  lasts_stands p s₀ s sep way = record {
    fragments = λ m on. sep.fragments m (joined k p way on);
    drivers = λ m on. sep.drivers m (joined k p way on);
  }

  pub embedding_stands : Embedding k
  embedding_stands p s t l f al = (
    followed k p s t al.known al.still al.begins al.run,
    passed k p s t al.still al.known al.begins al.run reading,
    passed k p s t al.still al.known al.begins al.run writing,
  )

  -- what is touched on the way, separation allows; the one place where it is used
  allowed : (p : Program V) (s₀ s n : State V) (t : ℕ) (a : Access) (c : ℕ) → Separated k p s₀ → Reaches k p s₀ s → given p t ≡ true
      → Passes k p s n t a c → may fragment a (mode_of s c) ≡ true
  allowed p s₀ s n t a c sep way known q =
      ap (λ m. may fragment a (m c)) (sym q.modes) ∙ sep.fragments q.between (joined k p way q.before) t known q.local q.there a c q.touches

  pub own_side_stands : OwnSide k
  own_side_stands p s₀ s t l f sep way al = (
    (λ c h. allowed p s₀ s _ t reading c sep way al.known ((embedding_stands p s t l f al).1 c h)),
    (λ c h. allowed p s₀ s _ t writing c sep way al.known ((embedding_stands p s t l f al).2 c h)),
  )
