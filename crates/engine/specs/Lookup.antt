-- The operation at a task's place. A place past the end reads as Finish, and so does an operation with an argument that no station has.
use Rattle.std.specs.Prelude.{ℕ, cond, ◌&&◌, List, [], nat_lt, slice_index_or}
use Rattle.program.specs.declared.Op.{Op}
use Rattle.program.specs.declared.Op.TheVariants.{Finish, Read, Write, Constant, Apply, Jump, JumpIfFalse, Await, Start, Leave, Enter, Protect, Unprotect}

-- four registers, 64 cells and constants, 16 tasks
abbrev pub bounded : Op → Op
bounded Finish = Finish
bounded (Read to cell) = cond (nat_lt to 4 && nat_lt cell 64) (Read to cell) Finish
bounded (Write cell from) = cond (nat_lt from 4 && nat_lt cell 64) (Write cell from) Finish
bounded (Constant to n) = cond (nat_lt to 4 && nat_lt n 64) (Constant to n) Finish
bounded (Apply operation to left right) = cond (nat_lt to 4 && (nat_lt left 4 && nat_lt right 4)) (Apply operation to left right) Finish
bounded (Jump target) = Jump target
bounded (JumpIfFalse test target) = cond (nat_lt test 4) (JumpIfFalse test target) Finish
bounded (Await test) = cond (nat_lt test 4) (Await test) Finish
bounded (Start task) = cond (nat_lt task 16) (Start task) Finish
bounded Leave = Leave
bounded Enter = Enter
bounded (Protect cell) = cond (nat_lt cell 64) (Protect cell) Finish
bounded (Unprotect cell) = cond (nat_lt cell 64) (Unprotect cell) Finish

-- a task has 1,024 operations at most
abbrev pub op_at : List (List Op) → ℕ → ℕ → Op
op_at code t p = cond (nat_lt p 1024) (bounded (slice_index_or (slice_index_or code t []) p Finish)) Finish
