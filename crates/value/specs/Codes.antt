-- The numbers that sheets have for operations, causes and faults.
use Rattle.std.specs.Prelude.{◌≡◌, ℕ, cond, List, [], ◌∷◌, Some, None, Ok, Option, Result, ok_or, ◌==◌}
use Rattle.value.specs.declared.codes.Operation.{Operation}
use Rattle.value.specs.declared.codes.Operation.TheVariants.{Sum, Difference, Smaller, Equal, Less, Quotient}
use Rattle.value.specs.declared.codes.Cause.{Cause}
use Rattle.value.specs.declared.codes.Cause.TheVariants.{ZeroDivisor, Overflow, Blank, Mixed, OutOfRange}
use Rattle.value.specs.declared.codes.Fault.{Fault}
use Rattle.value.specs.declared.codes.Fault.TheVariants.{Form, Bound}

abbrev pub operation_number : Operation → ℕ
operation_number Sum = 0
operation_number Difference = 1
operation_number Smaller = 2
operation_number Equal = 3
operation_number Less = 4
operation_number Quotient = 5

-- the first of the operations that has the number
abbrev pub first_numbered : ℕ → List Operation → Option Operation
first_numbered n [] = None
first_numbered n (op ∷ ops) = cond (n == operation_number op) (Some op) (first_numbered n ops)

abbrev pub operation_at : ℕ → Option Operation
operation_at n = first_numbered n (Sum ∷ Difference ∷ Smaller ∷ Equal ∷ Less ∷ Quotient ∷ [])

abbrev pub cause_number : Cause → ℕ
cause_number ZeroDivisor = 1
cause_number Overflow = 2
cause_number Blank = 3
cause_number Mixed = 4
cause_number OutOfRange = 5

abbrev pub fault_number : Fault → ℕ
fault_number Form = 3
fault_number Bound = 4

-- a number is read as the operation that has it, and is past its bound where none has
pub record NumberRead (n : ℕ) (r : Result Operation Fault) : Type 0 where
  pub value : r ≡ ok_or (operation_at n) Bound
  pub there : (op : Operation) → r ≡ Ok op → operation_number op ≡ n
  pub back : (op : Operation) → operation_number op ≡ n → r ≡ Ok op
