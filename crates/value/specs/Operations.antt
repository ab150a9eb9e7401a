-- The operations on whole numbers of 32 bits.
use Rattle.std.specs.Prelude.{Bool, true, false, cond, ℤ, pos, negsuc, ◌+ℤ◌, ◌-ℤ◌, Ok, Err, Result, int_div, int_le, int_lt}
use Rattle.std.specs.Int.{int_wrap, w32}
use Rattle.value.specs.declared.codes.Operation.{Operation}
use Rattle.value.specs.declared.codes.Operation.TheVariants.{Sum, Difference, Smaller, Equal, Less, Quotient}
use Rattle.value.specs.declared.codes.Cause.{Cause}
use Rattle.value.specs.declared.codes.Cause.TheVariants.{ZeroDivisor, Overflow}

-- a = b
abbrev pub eqZ : ℤ → ℤ → Bool
eqZ a b = cond (int_lt a b) false (cond (int_lt b a) false true)

-- 1 where the test passes, and 0 elsewhere
abbrev pub flag : Bool → ℤ
flag b = cond b (pos 1) (pos 0)

-- a by b toward zero; only -2147483648 by -1 is past 32 bits
abbrev pub quotient : ℤ → ℤ → Result ℤ Cause
quotient a b =
    cond (eqZ b (pos 0)) (Err ZeroDivisor)
    (cond (eqZ a (negsuc 2147483647)) (cond (eqZ b (negsuc 0)) (Err Overflow) (Ok (int_div a b))) (Ok (int_div a b)))

-- sum and difference wrap
abbrev pub counted : Operation → ℤ → ℤ → Result ℤ Cause
counted Sum a b = Ok (int_wrap w32 (a +ℤ b))
counted Difference a b = Ok (int_wrap w32 (a -ℤ b))
counted Smaller a b = Ok (cond (int_le a b) a b)
counted Equal a b = Ok (flag (eqZ a b))
counted Less a b = Ok (flag (int_lt a b))
counted Quotient a b = quotient a b

-- the same with f of the value
abbrev pub answer : {X Y E : Type 0} → (X → Y) → Result X E → Result Y E
answer f (Ok x) = Ok (f x)
answer f (Err e) = Err e
