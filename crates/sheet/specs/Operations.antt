-- The thirteen operations on a sheet: a letter, and numbers after single spaces.
use Rattle.std.specs.Prelude.{ℕ, min, Bool, cond, ◌&&◌, List, [], ◌∷◌, length, Some, None, Ok, Err, Option, Result, ◌==◌, nat_le, nat_lt, slice_index}
use Rattle.value.specs.Codes.{operation_number, operation_at}
use Rattle.value.specs.declared.codes.Fault.{Fault}
use Rattle.value.specs.declared.codes.Fault.TheVariants.{Form, Bound}
use Rattle.value.specs.declared.codes.Operation.{Operation}
use Rattle.program.specs.declared.Op.{Op}
use Rattle.program.specs.declared.Op.TheVariants.{Finish, Read, Write, Constant, Apply, Jump, JumpIfFalse, Await, Start, Leave, Enter, Protect, Unprotect}

-- the letter that an operation is written by
abbrev pub letter : Op → ℕ
letter Finish = 102
letter (Read d c) = 114
letter (Write c s) = 119
letter (Constant d n) = 107
letter (Apply o d i j) = 97
letter (Jump n) = 106
letter (JumpIfFalse s n) = 122
letter (Await s) = 98
letter (Start t) = 115
letter Leave = 108
letter Enter = 101
letter (Protect c) = 112
letter (Unprotect c) = 117

-- the numbers that follow it
abbrev pub numbers : Op → List ℕ
numbers Finish = []
numbers (Read d c) = d ∷ c ∷ []
numbers (Write c s) = c ∷ s ∷ []
numbers (Constant d n) = d ∷ n ∷ []
numbers (Apply o d i j) = operation_number o ∷ d ∷ i ∷ j ∷ []
numbers (Jump n) = n ∷ []
numbers (JumpIfFalse s n) = s ∷ n ∷ []
numbers (Await s) = s ∷ []
numbers (Start t) = t ∷ []
numbers Leave = []
numbers Enter = []
numbers (Protect c) = c ∷ []
numbers (Unprotect c) = c ∷ []

-- a register of a task
abbrev pub register : ℕ → Bool
register n = nat_le n 3

-- Jump targets and started tasks have no bound on their line. What lies past every task is kept as one number.
abbrev pub target : ℕ → ℕ
target n = min n 65535

abbrev pub started : ℕ → ℕ
started n = min n 255

abbrev pub bounded : Bool → Op → Result Op Fault
bounded b op = cond b (Ok op) (Err Bound)

abbrev pub applied : Option Operation → ℕ → ℕ → ℕ → Result Op Fault
applied None d i j = Err Bound
applied (Some o) d i j = bounded (register d && (register i && register j)) (Apply o d i j)

abbrev pub at : List ℕ → ℕ → ℕ
at args k = slice_index args k

abbrev pub suits : ℕ → List ℕ → ℕ → ℕ → Bool
suits l args c n = l == c && length args == n

-- the operation that a letter and its numbers write, on a sheet of so many cells and constants
abbrev pub operation : ℕ → ℕ → ℕ → List ℕ → Result Op Fault
operation cells consts l args =
    cond (suits l args 114 2) (bounded (register (at args 0) && nat_lt (at args 1) cells) (Read (at args 0) (at args 1)))
    (cond (suits l args 119 2) (bounded (nat_lt (at args 0) cells && register (at args 1)) (Write (at args 0) (at args 1)))
    (cond (suits l args 107 2) (bounded (register (at args 0) && nat_lt (at args 1) consts) (Constant (at args 0) (at args 1)))
    (cond (suits l args 97 4) (applied (operation_at (at args 0)) (at args 1) (at args 2) (at args 3))
    (cond (suits l args 106 1) (Ok (Jump (target (at args 0))))
    (cond (suits l args 122 2) (bounded (register (at args 0)) (JumpIfFalse (at args 0) (target (at args 1))))
    (cond (suits l args 98 1) (bounded (register (at args 0)) (Await (at args 0)))
    (cond (suits l args 115 1) (Ok (Start (started (at args 0))))
    (cond (suits l args 108 0) (Ok Leave)
    (cond (suits l args 101 0) (Ok Enter)
    (cond (suits l args 112 1) (bounded (nat_lt (at args 0) cells) (Protect (at args 0)))
    (cond (suits l args 117 1) (bounded (nat_lt (at args 0) cells) (Unprotect (at args 0)))
    (cond (suits l args 102 0) (Ok Finish) (Err Form)))))))))))))
