-- One line of a sheet: what it adds, or why it is refused. Its form and its order come first, then bounds, then room.
use Rattle.std.specs.Prelude.{ℕ, cond, ◌&&◌, List, [], ◌∷◌, length, Some, None, Ok, Err, codes, sum_by, Option, Result, ◌==◌, nat_le, nat_lt, slice_index}
use Rattle.text.specs.Cut.{cut}
use Rattle.text.specs.Frame.{framed}
use Rattle.text.specs.Number.{numeral}
use Rattle.text.specs.Tokens.{Tok, tokens}
use Rattle.value.specs.declared.codes.Fault.{Fault}
use Rattle.value.specs.declared.codes.Fault.TheVariants.{Form, Bound}
use Rattle.program.specs.declared.Mode.{Mode}
use Rattle.program.specs.declared.Mode.TheVariants.{Protected, Unprotected}
use Rattle.program.specs.declared.Op.{Op}
use Rattle.sheet.specs.declared.parts.LineFault.{LineFault}
use Rattle.sheet.specs.declared.parts.LineFault.TheVariants.{BadForm, PastBound, TooMany}
use Rattle.sheet.specs.Content.{Content, with_cell, with_const, with_task, with_op}
use Rattle.sheet.specs.Operations.{operation}

abbrev pub cell_head : Mode → List ℕ
cell_head Protected = codes "(cell p "
cell_head Unprotected = codes "(cell u "

abbrev pub const_head : List ℕ
const_head = codes "(const "

abbrev pub task_head : List ℕ
task_head = codes "(task "

abbrev pub line_fault : Fault → LineFault
line_fault Form = BadForm
line_fault Bound = PastBound

-- all pieces as numbers
abbrev pub and_then : Option ℕ → Option (List ℕ) → Option (List ℕ)
and_then None ns = None
and_then (Some n) None = None
and_then (Some n) (Some ns) = Some (n ∷ ns)

abbrev pub all_numbers : List (List ℕ) → Option (List ℕ)
all_numbers [] = Some []
all_numbers (p ∷ ps) = and_then (numeral p) (all_numbers ps)

-- what f makes of a value that is there, else y
abbrev pub where_some : {A B : Type 0} → Option A → (A → B) → B → B
where_some None f y = y
where_some (Some x) f y = f x

-- a letter and its numbers, from the pieces between the spaces
abbrev pub lettered : ℕ → ℕ → List (List ℕ) → Result Op Fault
lettered cells consts [] = Err Form
lettered cells consts (l ∷ ps) =
    cond (length l == 1) (where_some (all_numbers ps) (operation cells consts (slice_index l 0)) (Err Form)) (Err Form)

-- an operation's line
abbrev pub op_line : ℕ → ℕ → List ℕ → Result Op Fault
op_line cells consts line = where_some (framed (codes "(") line) (λ inside. lettered cells consts (cut 32 inside)) (Err Form)

abbrev pub cell_on : {V : Type 0} → Content V → Mode → Result V Fault → Result (Content V) LineFault
cell_on s m (Ok v) = cond (nat_lt (length s.cells) 64) (Ok (with_cell s m v)) (Err TooMany)
cell_on s m (Err f) = Err (line_fault f)

abbrev pub const_on : {V : Type 0} → Content V → Result V Fault → Result (Content V) LineFault
const_on s (Ok v) = cond (nat_lt (length s.consts) 64) (Ok (with_const s v)) (Err TooMany)
const_on s (Err f) = Err (line_fault f)

abbrev pub task_on : {V : Type 0} → Content V → Option ℕ → Result (Content V) LineFault
task_on s None = Err BadForm
task_on s (Some n) =
    cond (nat_le n 255) (cond (nat_lt (length s.code) 16) (Ok (with_task s n)) (Err TooMany)) (Err PastBound)

abbrev pub op_on : {V : Type 0} → Content V → Result Op Fault → Result (Content V) LineFault
op_on s (Ok op) = cond (nat_lt (sum_by length s.code) 1024) (Ok (with_op s op)) (Err TooMany)
op_on s (Err f) = Err (line_fault f)

-- operations stand after a task
abbrev pub op_in : {V : Type 0} → Content V → List ℕ → Result (Content V) LineFault
op_in s line =
    cond (length s.code == 0) (Err BadForm) (op_on s (op_line (length s.cells) (length s.consts) line))

module _ {V : Type 0} (reads : List Tok → Result V Fault) where
  -- cells stand before all else
  abbrev pub cell_in : Content V → Mode → List ℕ → Result (Content V) LineFault
  cell_in s m place =
      cond (length s.consts == 0 && length s.code == 0) (cell_on s m (reads (tokens place))) (Err BadForm)

  -- constants stand before the tasks
  abbrev pub const_in : Content V → List ℕ → Result (Content V) LineFault
  const_in s place = cond (length s.code == 0) (const_on s (reads (tokens place))) (Err BadForm)

  -- the sheet with the line, or why the line is refused
  abbrev pub judged : Content V → List ℕ → Result (Content V) LineFault
  judged s line =
      where_some (framed (cell_head Protected) line) (cell_in s Protected)
      (where_some (framed (cell_head Unprotected) line) (cell_in s Unprotected)
      (where_some (framed const_head line) (const_in s)
      (where_some (framed task_head line) (λ part. task_on s (numeral part)) (op_in s line))))
