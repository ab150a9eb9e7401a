-- The edge cases of arithmetic, of forms, of a book and of the engine: what comes out by the definitions, and what is to.
use Rattle.std.specs.Prelude.{◌≡◌, ℕ, Bool, true, false, List, [], ◌∷◌, map, pos, negsuc, Ok, Err, codes, Result, from_bits, nat_eq}
use Rattle.std.specs.Float.{binary32}
use Rattle.text.specs.Tokens.{lexed}
use Rattle.value.specs.declared.codes.Operation.TheVariants.{Sum, Difference, Quotient}
use Rattle.value.specs.declared.codes.Cause.{Cause}
use Rattle.value.specs.declared.codes.Cause.TheVariants.{Overflow, Blank as Missing, OutOfRange}
use Rattle.value.specs.declared.codes.Fault.{Fault}
use Rattle.value.specs.declared.codes.Fault.TheVariants.{Form, Bound}
use Rattle.value.specs.declared.wholes.Whole.{Whole}
use Rattle.value.specs.declared.readings.Reading.{Reading}
use Rattle.value.specs.declared.readings.Reading.TheVariants.{Blank, Count, Bearing}
use Rattle.value.specs.Wholes.{as_whole, whole_outcome}
use Rattle.value.specs.Readings.{reading_outcome, reading_reads}
use Rattle.book.specs.Seen.{rested, begun, noting, finished, stale_of}
use Rattle.edges.specs.Sessions.{Answer, passes, refused, answer_at, handover, starting}

-- what an operation gives, what a text in a reading's place is read as, whether a task is stale, what a call answers
pub data Outcome : Type 0 where
  whole : Result Whole Cause → Outcome
  reading : Result Reading Cause → Outcome
  read : Result Reading Fault → Outcome
  stale : Bool → Outcome
  call : Answer → Outcome

-- what comes out, and what is to come out
pub record Edge : Type 0 where
  pub out : Outcome
  pub due : Outcome

abbrev pub edge : Outcome → Outcome → Edge
edge o d = record { out = o; due = d }

-- a bearing by the bits of its float
abbrev pub bits : ℕ → Reading
bits n = Bearing (from_bits binary32 n)

abbrev pub edges : List Edge
edges =
    -- 2147483647 + 1 is -2147483648
    edge (whole (whole_outcome Sum (as_whole (pos 2147483647)) (as_whole (pos 1)))) (whole (Ok (as_whole (negsuc 2147483647))))
    -- -7 by 2 is -3
    ∷ edge (whole (whole_outcome Quotient (as_whole (negsuc 6)) (as_whole (pos 2)))) (whole (Ok (as_whole (negsuc 2))))
    -- -2147483648 by -1 is past 32 bits
    ∷ edge (whole (whole_outcome Quotient (as_whole (negsuc 2147483647)) (as_whole (negsuc 0)))) (whole (Err Overflow))
    -- 350 + 20 is 10
    ∷ edge (reading (reading_outcome Sum (bits 1135542272) (bits 1101004800))) (reading (Ok (bits 1092616192)))
    -- 0 - 0.5 is 359.5
    ∷ edge (reading (reading_outcome Difference (bits 0) (bits 1056964608))) (reading (Ok (bits 1135853568)))
    -- 0 less the smallest positive float is 0
    ∷ edge (reading (reading_outcome Difference (bits 0) (bits 1))) (reading (Ok (bits 0)))
    -- a blank operand
    ∷ edge (reading (reading_outcome Sum Blank (Count (pos 1)))) (reading (Err Missing))
    -- 360 as an operand
    ∷ edge (reading (reading_outcome Sum (bits 1135869952) (bits 0))) (reading (Err OutOfRange))
    ∷ edge (read (reading_reads (lexed (codes "(n 2147483647)")))) (read (Ok (Count (pos 2147483647))))
    ∷ edge (read (reading_reads (lexed (codes "(n 2147483648)")))) (read (Err Bound))
    ∷ edge (read (reading_reads (lexed (codes "(n -2147483648)")))) (read (Ok (Count (negsuc 2147483647))))
    ∷ edge (read (reading_reads (lexed (codes "(n -2147483649)")))) (read (Err Bound))
    ∷ edge (read (reading_reads (lexed (codes "(n 10000000000)")))) (read (Err Form))
    ∷ edge (read (reading_reads (lexed (codes "(n -0)")))) (read (Err Form))
    ∷ edge (read (reading_reads (lexed (codes "(n 07)")))) (read (Err Form))
    -- 360, and the next float above it
    ∷ edge (read (reading_reads (lexed (codes "(a 43b40000)")))) (read (Ok (bits 1135869952)))
    ∷ edge (read (reading_reads (lexed (codes "(a 43b40001)")))) (read (Err Bound))
    -- minus zero, a NaN, a capital letter
    ∷ edge (read (reading_reads (lexed (codes "(a 80000000)")))) (read (Err Bound))
    ∷ edge (read (reading_reads (lexed (codes "(a 7fc00000)")))) (read (Err Bound))
    ∷ edge (read (reading_reads (lexed (codes "(a 43B40000)")))) (read (Err Form))
    -- the 13th call: a cell that another transaction owns may not be unprotected
    ∷ edge (call (answer_at 13 handover)) (call (refused 16 3 0 3 0))
    -- the 14th: a transaction that has read what was committed since may not commit
    ∷ edge (call (answer_at 14 handover)) (call (refused 23 3 1 5 0))
    -- the 20th: undone and run again, that transaction sees the cleared flag and commits
    ∷ edge (call (answer_at 20 handover)) (call passes)
    -- task 2 noted cell 5, and task 3 finishes it
    ∷ edge (stale (stale_of 2 (finished 3 (λ c. nat_eq c 5) (noting 2 5 false (begun 2 rested))))) (stale true)
    -- a driver starts a task that is owed 254 calls, and one that is owed 255
    ∷ edge (call (answer_at 4 (starting (codes "254")))) (call passes)
    ∷ edge (call (answer_at 4 (starting (codes "255")))) (call (refused 19 3 0 1 0))
    ∷ []

-- all comes out as it is to
abbrev pub EdgesStand : Type 0
EdgesStand = map (λ e. e.out) edges ≡ map (λ e. e.due) edges
