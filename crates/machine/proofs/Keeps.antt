-- The handover keeps separation: a small set of facts holds after every event, and by it each task may touch what it is about to touch.
use Rattle.std.proofs.Common.{◌≡◌, ℕ, zero, suc, ◌⊎◌, true, ℤ, pos, Some, arith}
use Rattle.program.specs.declared.Mode.{Mode}
use Rattle.program.specs.declared.Mode.TheVariants.{Protected, Unprotected}
use Rattle.machine.specs.Effect.{Local, asked}
use Rattle.machine.specs.Strong.{Phase, idle, ready, active, outside, State, fragment, driver, Event, admits, opens, runs, mode_of, given, event, Reaches, here, more}
use Rattle.machine.specs.Separation.{Access, may, Touches}
use Rattle.machine.specs.Sample.{numbers}
use Rattle.machine.specs.Handover.{handover, start, Kept}

-- where the taker is: once past its write the flag is 0, and once past the unprotect the cell is its own
abbrev Taker : Phase ℤ → ℤ → Mode → Type 0
Taker idle flag m = Unit {0}
Taker (ready l) flag m = l.place ≡ 0
Taker (active l) flag m = (l.place ≡ 0) ⊎ (l.place ≡ 1) × (l.register 0 ≡ pos 0) ⊎ (l.place ≡ 2) × (flag ≡ pos 0)
Taker (outside l) flag m = (l.place ≡ 3) × (flag ≡ pos 0) ⊎ (l.place ≡ 4) × (m ≡ Unprotected) ⊎ (l.place ≡ 5) × (m ≡ Unprotected) ⊎ (l.place ≡ 6)

-- where the adder is: past its test the cell is still shared
abbrev Adder : Phase ℤ → Mode → Type 0
Adder idle m = Unit {0}
Adder (ready l) m = l.place ≡ 0
Adder (active l) m =
    (l.place ≡ 0) ⊎ (l.place ≡ 1) × (m ≡ Unprotected → l.register 0 ≡ pos 0)
    ⊎ (l.place ≡ 2) × (m ≡ Protected) ⊎ (l.place ≡ 3) × (m ≡ Protected) ⊎ (l.place ≡ 4) × (m ≡ Protected) ⊎ (l.place ≡ 5)
Adder (outside l) m = ⊥

record Good (s : State ℤ) : Type 0 where
  flag_shared : s.mode 0 ≡ Protected
  flag_clear : s.mode 1 ≡ Unprotected → s.cell 0 ≡ pos 0
  taker : Taker (s.phase 0) (s.cell 0) (s.mode 1)
  adder : Adder (s.phase 1) (s.mode 1)

-- each event of either task; no other task is given
module _ (s n : State ℤ) (good : Good s) where
  admits_taker : event numbers handover (admits 0) s ≡ Some n → Good n
  admits_taker is = grind arith

  admits_adder : event numbers handover (admits 1) s ≡ Some n → Good n
  admits_adder is = grind arith

  opens_taker : event numbers handover (opens 0) s ≡ Some n → Good n
  opens_taker is = grind arith

  opens_adder : event numbers handover (opens 1) s ≡ Some n → Good n
  opens_adder is = grind arith

  runs_taker : event numbers handover (runs 0) s ≡ Some n → Good n
  runs_taker is = grind arith

  runs_adder : event numbers handover (runs 1) s ≡ Some n → Good n
  runs_adder is = grind arith

  kept : (e : Event) → event numbers handover e s ≡ Some n → Good n
  kept (admits zero) = admits_taker
  kept (admits (suc zero)) = admits_adder
  kept (opens zero) = opens_taker
  kept (opens (suc zero)) = opens_adder
  kept (runs zero) = runs_taker
  kept (runs (suc zero)) = runs_adder
  kept _ = λ is. grind arith

always : {s : State ℤ} → Reaches numbers handover start s → Good s
always here = grind arith
always (more {m = m} {n = n} e way is) = kept m n (always way) e is

module _ (s : State ℤ) (good : Good s) (t : ℕ) (g : given handover t ≡ true) (l : Local ℤ) (a : Access) (c : ℕ) (touch : Touches (asked numbers handover t l) a c) where
  inside : s.phase t ≡ active l → may fragment a (mode_of s c) ≡ true
  inside at = grind arith

  beyond : s.phase t ≡ outside l → may driver a (mode_of s c) ≡ true
  beyond at = grind arith

pub keeps : Kept
keeps = record {
  fragments = λ s way t g l at a c touch. inside s (always way) t g l a c touch at;
  drivers = λ s way q t g l at a c touch. beyond s (always way) t g l a c touch at;
}
