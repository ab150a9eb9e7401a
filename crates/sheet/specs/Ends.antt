-- What is looked at after the last line: how each task ends, and where its jumps and starts lead.
use Rattle.std.specs.Prelude.{ℕ, ◌+◌, ◌-◌, Bool, true, false, cond, ◌&&◌, List, [], ◌∷◌, length, Some, None, Option, nat_lt, slice_index_or}
use Rattle.program.specs.declared.Op.{Op}
use Rattle.program.specs.declared.Op.TheVariants.{Finish, Read, Write, Constant, Apply, Jump, JumpIfFalse, Await, Start, Leave, Enter, Protect, Unprotect}

-- no place follows a jump or a finish
abbrev pub closes : Op → Bool
closes Finish = true
closes (Read d c) = false
closes (Write c s) = false
closes (Constant d n) = false
closes (Apply o d i j) = false
closes (Jump n) = true
closes (JumpIfFalse s n) = false
closes (Await s) = false
closes (Start t) = false
closes Leave = false
closes Enter = false
closes (Protect c) = false
closes (Unprotect c) = false

-- a task has an operation, and its last one closes it
abbrev pub closed : List Op → Bool
closed ops = nat_lt 0 (length ops) && closes (slice_index_or ops (length ops - 1) Finish)

-- the line of the first task that is not closed; n is the line of the first task
abbrev pub first_open : ℕ → List (List Op) → Option ℕ
first_open n [] = None
first_open n (c ∷ cs) = cond (closed c) (first_open (n + 1 + length c) cs) (Some n)

-- in a task of so many operations, on a sheet of so many tasks, the operation leads to a place or a task that is given
abbrev pub lands : ℕ → ℕ → Op → Bool
lands len tasks Finish = true
lands len tasks (Read d c) = true
lands len tasks (Write c s) = true
lands len tasks (Constant d n) = true
lands len tasks (Apply o d i j) = true
lands len tasks (Jump n) = nat_lt n len
lands len tasks (JumpIfFalse s n) = nat_lt n len
lands len tasks (Await s) = true
lands len tasks (Start t) = nat_lt t tasks
lands len tasks Leave = true
lands len tasks Enter = true
lands len tasks (Protect c) = true
lands len tasks (Unprotect c) = true

-- the line of the first operation that does not land; n is the line of the first operation
abbrev pub stray_in : ℕ → ℕ → ℕ → List Op → Option ℕ
stray_in len tasks n [] = None
stray_in len tasks n (op ∷ ops) = cond (lands len tasks op) (stray_in len tasks (n + 1) ops) (Some n)

abbrev pub or_else : Option ℕ → Option ℕ → Option ℕ
or_else None y = y
or_else (Some x) y = Some x

abbrev pub first_stray : ℕ → ℕ → List (List Op) → Option ℕ
first_stray tasks n [] = None
first_stray tasks n (c ∷ cs) = or_else (stray_in (length c) tasks (n + 1) c) (first_stray tasks (n + 1 + length c) cs)
