-- Laws of private runs, for every program over a kind of value.
use Rattle.std.specs.Prelude.{◌≡◌, ℕ, Bool, true, false, Some}
use Rattle.value.specs.declared.codes.Cause.{Cause}
use Rattle.machine.specs.Effect.{Meaning, Program, Local, next, Effect, goes, faults, reads, writes, starts, leaves, finishes, asked}
use Rattle.machine.specs.Strong.{idle, active, outside, State, opens, fragment, mode_of, quiet, event, Reaches}
use Rattle.machine.specs.Fault.{Faces}
use Rattle.machine.specs.Separation.{Access, reading, writing, may, Touches, Separated}
use Rattle.machine.specs.Fragment.{Footprint, wrote, values, after, Run, Alone}
use Rattle.machine.specs.MachineLaws.{Stretch}

module _ {V : Type 0} where
  -- a private run does not go past such an operation
  abbrev pub stops : Effect V → Bool
  stops (goes l) = false
  stops (reads to c) = false
  stops (writes c v) = false
  stops (starts u) = false
  stops _ = true

  module _ (k : Meaning V) where
    -- on a way from s to n is a state, with the modes of s, in which task t is active and about to touch the cell
    pub record Passes (p : Program V) (s n : State V) (t : ℕ) (a : Access) (c : ℕ) : Type 0 where
      pub between : State V
      pub before : Reaches k p s between
      pub onward : Reaches k p between n
      pub modes : between.mode ≡ s.mode
      pub local : Local V
      pub there : between.phase t ≡ active local
      pub touches : Touches (asked k p t local) a c

    -- how far the stretch from an opening has come: the fragment is still on its run, has left or has finished
    pub data Come (p : Program V) (s : State V) (t : ℕ) (l : Local V) (f : Footprint V) : State V → Type 0 where
      inside : Come p s t l f (after s t f (active l))
      left : asked k p t l ≡ leaves → Come p s t l f (after s t f (outside (next l)))
      finished : asked k p t l ≡ finishes → Come p s t l f (after s t f idle)

    -- Over other cells that agree where it read, the same run: what it wrote has the same values, all else is as in the other cells.
    abbrev pub Frame : Type 0
    Frame = (p : Program V) (t : ℕ) (cells others : ℕ → V) (start l : Local V) (f : Footprint V) → Run k p t cells start l f
        → ((c : ℕ) → f.noted c ≡ true → others c ≡ cells c)
        → Run k p t others start l f
        × ((c : ℕ) → wrote f c ≡ true → values others f c ≡ values cells f c)
        × ((c : ℕ) → wrote f c ≡ false → values others f c ≡ others c)

    -- The strong machine follows a private run, and on its way touches each cell that the run read or wrote.
    abbrev pub Embedding : Type 0
    Embedding = (p : Program V) (s : State V) (t : ℕ) (l : Local V) (f : Footprint V) → Alone k p t s l f
        → Reaches k p s (after s t f (active l))
        × ((c : ℕ) → f.noted c ≡ true → Passes p s (after s t f (active l)) t reading c)
        × ((c : ℕ) → wrote f c ≡ true → Passes p s (after s t f (active l)) t writing c)

    -- And a fragment of the strong machine is a private run, whatever events occur meanwhile.
    abbrev pub Faithful : Type 0
    Faithful = (p : Program V) (s o n : State V) (t : ℕ) → event k p (opens t) s ≡ Some o → Stretch k p t o n
        → (l : Local V) × (f : Footprint V) × Alone k p t s l f × Come p s t l f n

    -- Under separation every cell that a run read or wrote is one that fragments may read or write.
    abbrev pub OwnSide : Type 0
    OwnSide = (p : Program V) (s₀ s : State V) (t : ℕ) (l : Local V) (f : Footprint V) → Separated k p s₀ → Reaches k p s₀ s → Alone k p t s l f
        → ((c : ℕ) → f.noted c ≡ true → may fragment reading (mode_of s c) ≡ true)
        × ((c : ℕ) → wrote f c ≡ true → may fragment writing (mode_of s c) ≡ true)

    -- From the same cells and start, runs that come to where they stop come to the same, with the same footprint.
    abbrev pub Determined : Type 0
    Determined = (p : Program V) (t : ℕ) (cells : ℕ → V) (start l l' : Local V) (f f' : Footprint V)
        → Run k p t cells start l f → stops (asked k p t l) ≡ true
        → Run k p t cells start l' f' → stops (asked k p t l') ≡ true
        → (l ≡ l') × (f ≡ f')

    -- A run that comes to a leave or a finish is one whole fragment of the strong machine, and no task is active after it.
    abbrev pub Whole : Type 0
    Whole = (p : Program V) (s : State V) (t : ℕ) (l : Local V) (f : Footprint V) → Alone k p t s l f
        → (asked k p t l ≡ leaves → Reaches k p s (after s t f (outside (next l))) × (quiet p (after s t f (outside (next l))) ≡ true))
        × (asked k p t l ≡ finishes → Reaches k p s (after s t f idle) × (quiet p (after s t f idle) ≡ true))

    -- A run that comes to a fault leads the strong machine to a state in which the task faces it.
    abbrev pub FaultMet : Type 0
    FaultMet = (p : Program V) (s : State V) (t : ℕ) (l : Local V) (f : Footprint V) (cause : Cause) → Alone k p t s l f → asked k p t l ≡ faults cause
        → Reaches k p s (after s t f (active l)) × Faces k p (after s t f (active l)) t l.place cause
