-- Sessions of the engine, played by its definitions over whole numbers and a book that always has 255 left.
use Rattle.std.specs.Prelude.{ℕ, ◌-◌, List, [], ◌∷◌, ◌++◌, replicate, Ok, Err, codes, Result, slice_index_or}
use Rattle.value.specs.declared.wholes.Whole.{Whole}
use Rattle.value.specs.Wholes.{whole_zero, whole_truth, whole_outcome, whole_reads}
use Rattle.machine.specs.Effect.{Meaning, meaning}
use Rattle.book.specs.Seen.{rested}
use Rattle.sheet.specs.Refusals.{notice}
use Rattle.sheet.specs.declared.parts.Notice.{Notice}
use Rattle.faults.specs.declared.Refusal.{Refusal}
use Rattle.engine.specs.declared.Event.{Event}
use Rattle.engine.specs.declared.Event.TheVariants.{Admit, Open, Step, Commit, Undo}
use Rattle.engine.specs.Calls.{called}
use Rattle.faults.specs.Faults.{told}
use Rattle.station.specs.Sheets.{no_board, reads_sheet}
use Rattle.engine.specs.World.{World, Called}

-- what a call answers: it is accepted, or tells why not
pub data Answer : Type 0 where
  passes : Answer
  tells : Notice → Answer

abbrev pub refused : ℕ → ℕ → ℕ → ℕ → ℕ → Answer
refused n layer p q cause = tells (notice n layer p q cause)

abbrev pub answered : {X : Type 0} → Result X Refusal → Answer
answered (Ok x) = passes
answered (Err e) = tells (told e)

abbrev pub whole : Meaning Whole
whole = meaning whole_zero whole_truth whole_outcome

-- a station that has read nothing, with a slice of zeros
abbrev pub bare : World Whole
bare = record { board = no_board; slice = replicate 320 whole_zero; seen = rested; code = []; cells = 0; consts = 0 }

abbrev pub set_up : List ℕ → World Whole
set_up sheet = (reads_sheet whole_zero whole_reads sheet bare).world

-- a call to an event of a task
pub record Call : Type 0 where
  pub event : Event
  pub task : ℕ

abbrev pub to : Event → ℕ → Call
to e t = record { event = e; task = t }

abbrev pub made : World Whole → Call → Called Whole
made w c = called whole w c.task (λ _. 255) c.event

-- the answers of calls made one after another
abbrev pub answers : World Whole → List Call → List Answer
answers w [] = []
answers w (c ∷ cs) = answered (made w c).answer ∷ answers (made w c).world cs

-- the answer of the call with this number, from 1 on
abbrev pub answer_at : ℕ → List Answer → Answer
answer_at n rs = slice_index_or rs (n - 1) passes

-- one task clears a flag and takes cell 1 to the drivers' side; another adds to it only while the flag is set
abbrev pub handover : List Answer
handover =
    answers (set_up (codes "(cell p (n 1))\n(cell p (n 0))\n(const (n 0))\n(const (n 100))\n(task 1)\n(k 0 0)\n(w 0 0)\n(l)\n(u 1)\n(k 1 1)\n(w 1 1)\n(f)\n(task 1)\n(r 0 0)\n(z 0 5)\n(r 1 1)\n(a 0 1 1 0)\n(w 1 1)\n(f)\n"))
    (to Admit 0 ∷ to Admit 1 ∷ to Open 1 ∷ to Step 1 ∷ to Step 1 ∷ to Step 1 ∷ to Step 1 ∷ to Open 0 ∷ to Step 0 ∷ to Step 0 ∷ to Commit 0 ∷ to Step 1 ∷ to Step 0 ∷ to Commit 1 ∷ to Undo 1 ∷ to Step 0 ∷ to Open 1 ∷ to Step 1 ∷ to Step 1 ∷ to Commit 1 ∷ to Step 0 ∷ to Step 0 ∷ to Step 0 ∷ [])

-- a driver about to start a task that is owed so many calls
abbrev pub starting : List ℕ → List Answer
starting owed =
    answers (set_up (codes "(task 1)\n(l)\n(s 1)\n(f)\n(task " ++ (owed ++ codes ")\n(f)\n"))) (to Admit 0 ∷ to Open 0 ∷ to Commit 0 ∷ to Step 0 ∷ [])
