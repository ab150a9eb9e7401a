-- Dynamic separation: each side reads and writes only cells whose mode allows it.
use Rattle.std.specs.Prelude.{◌≡◌, ℕ, Bool, true, false}
use Rattle.program.specs.declared.Mode.{Mode}
use Rattle.program.specs.declared.Mode.TheVariants.{Protected, Unprotected}
use Rattle.machine.specs.Effect.{Meaning, Program, Local, Effect, reads, writes, asked}
use Rattle.machine.specs.Strong.{active, outside, State, Side, fragment, driver, mode_of, given, quiet, Reaches}

pub data Access : Type 0 where
  reading : Access
  writing : Access

-- what a side may do with a cell of a mode
abbrev pub may : Side → Access → Mode → Bool
may fragment a Protected = true
may fragment a Unprotected = false
may driver a Protected = false
may driver a Unprotected = true

module _ {V : Type 0} where
  -- the cell is what the operation reads, or what it writes
  abbrev pub Touches : Effect V → Access → ℕ → Type 0
  Touches (reads to c) reading i = c ≡ i
  Touches (writes c v) writing i = c ≡ i
  Touches _ _ _ = ⊥

  module _ (k : Meaning V) (p : Program V) where
    -- in every state reached from s₀, an active task, and while none is active an outside one, may touch the cell that it is about to touch
    pub record Separated (s₀ : State V) : Type 0 where
      pub fragments : (s : State V) → Reaches k p s₀ s → (t : ℕ) → given p t ≡ true → (l : Local V) → s.phase t ≡ active l
          → (a : Access) (c : ℕ) → Touches (asked k p t l) a c → may fragment a (mode_of s c) ≡ true
      pub drivers : (s : State V) → Reaches k p s₀ s → quiet p s ≡ true → (t : ℕ) → given p t ≡ true → (l : Local V) → s.phase t ≡ outside l
          → (a : Access) (c : ℕ) → Touches (asked k p t l) a c → may driver a (mode_of s c) ≡ true
