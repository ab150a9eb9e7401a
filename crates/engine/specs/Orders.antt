-- Orders are operations whose arguments a station has.
use Rattle.std.specs.Prelude.{ℕ, ◌<◌, Some, None, Option}
use Rattle.program.specs.declared.Op.{Op}
use Rattle.program.specs.declared.Op.TheVariants as op
use Rattle.engine.specs.declared.order.Order.{Order}
use Rattle.engine.specs.declared.order.Order.TheVariants.{Finish, Read, Write, Constant, Apply, Jump, JumpIfFalse, Await, Start, Leave, Enter, Protect, Unprotect}

-- the operation that is ordered
abbrev pub ordered : Order → Op
ordered Finish = op.Finish
ordered (Read to cell) = op.Read to.index cell.index
ordered (Write cell from) = op.Write cell.index from.index
ordered (Constant to n) = op.Constant to.index n.index
ordered (Apply operation to left right) = op.Apply operation to.index left.index right.index
ordered (Jump target) = op.Jump target
ordered (JumpIfFalse test target) = op.JumpIfFalse test.index target
ordered (Await test) = op.Await test.index
ordered (Start task) = op.Start task.index
ordered Leave = op.Leave
ordered Enter = op.Enter
ordered (Protect cell) = op.Protect cell.index
ordered (Unprotect cell) = op.Unprotect cell.index

-- none stands for a finish
abbrev pub ordered_if : Option Order → Op
ordered_if None = op.Finish
ordered_if (Some o) = ordered o

-- a task has 1,024 operations at most; what it finds past them is a finish
abbrev pub Within : ℕ → Order → Type 0
Within p Finish = Unit {0}
Within p _ = p < 1024
