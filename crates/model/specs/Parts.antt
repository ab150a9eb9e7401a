-- Which part of the strong machine's way each accepted call is: none of it, one event, or one whole fragment.
use Rattle.std.specs.Prelude.{◌≡◌, ℕ}
use Rattle.machine.specs.Effect.{Meaning, Program}
use Rattle.machine.specs.Strong.{State, Event, admits, runs}
use Rattle.model.specs.Model.{Model}
use Rattle.model.specs.Moves.{Move, admit, open_up, go_in, read_in, take_in, write_in, start_in, go_out, read_out, write_out, start_out, enter, set_mode, finish_out, leave_in, finish_in, undo, rest, Shift, still, once, left, ended}

pub data Part : Type 0 where
  nothing : Part
  one : Event → Part
  -- the fragment of this task, to its leave or to its finish
  leaving : ℕ → Part
  finishing : ℕ → Part

module _ {V : Type 0} {k : Meaning V} {p : Program V} where
  abbrev pub part_of_shift : {s n : State V} → Shift k p s n → Part
  part_of_shift still = nothing
  part_of_shift (once e is) = one e
  part_of_shift (left t l f al asks) = leaving t
  part_of_shift (ended t l f al asks) = finishing t

  abbrev pub part_of : {m n : Model V} → Move k p m n → Part
  part_of (admit t n g a at owes) = one (admits t)
  part_of (open_up t l at) = nothing
  part_of (go_in t l o to at asks) = nothing
  part_of (read_in t l o d c at asks a) = nothing
  part_of (take_in t l o c v at asks a free guard) = nothing
  part_of (write_in t l o c v at asks own) = nothing
  part_of (start_in t l o u at asks) = nothing
  part_of (go_out t l to at asks) = one (runs t)
  part_of (read_out t l d c at asks) = one (runs t)
  part_of (write_out t l c v at asks) = one (runs t)
  part_of (start_out t l u at asks) = one (runs t)
  part_of (enter t l at asks) = one (runs t)
  part_of (set_mode t l c d at asks free) = one (runs t)
  part_of (finish_out t l at asks) = one (runs t)
  part_of (leave_in t l o at asks fresh) = leaving t
  part_of (finish_in t l o at asks fresh) = finishing t
  part_of (undo t l o at) = nothing
  part_of (rest none) = nothing

-- the strong state moves from s to n by that part
abbrev pub ShiftsBy : {V : Type 0} (k : Meaning V) (p : Program V) → Part → State V → State V → Type 0
ShiftsBy k p part s n = (h : Shift k p s n) × (part_of_shift h ≡ part)
