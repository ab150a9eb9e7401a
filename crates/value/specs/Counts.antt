-- Whole numbers of 32 bits as sheets write them: up to ten digits, no needless zero, a minus only before one below 0.
use Rattle.std.specs.Prelude.{ℕ, Bool, cond, List, drop, ℤ, pos, negsuc, neg_ℤ, Some, None, Ok, Err, Option, Result, ◌==◌, nat_le, nat_lt, slice_index}
use Rattle.std.specs.Fmt.{signed_decimal}
use Rattle.text.specs.Number.{numeral}
use Rattle.value.specs.declared.codes.Fault.{Fault}
use Rattle.value.specs.declared.codes.Fault.TheVariants.{Form, Bound}
use Rattle.value.specs.Forms.{tagged}

-- from -2147483648 to 2147483647
abbrev pub in_32 : ℤ → Bool
in_32 (pos n) = nat_lt n 2147483648
in_32 (negsuc n) = nat_lt n 2147483648

-- a number's form, `(n -7)`
abbrev pub count_form : ℤ → Option (List ℕ)
count_form z = cond (in_32 z) (Some (tagged 110 (signed_decimal z))) None

abbrev pub natural : Option ℕ → Result ℤ Fault
natural None = Err Form
natural (Some n) = cond (nat_le n 2147483647) (Ok (pos n)) (Err Bound)

abbrev pub negative : Option ℕ → Result ℤ Fault
negative None = Err Form
negative (Some n) = cond (n == 0) (Err Form) (cond (nat_le n 2147483648) (Ok (neg_ℤ (pos n))) (Err Bound))

-- what a part is read as, which may have a minus in front
abbrev pub integer : List ℕ → Result ℤ Fault
integer part = cond (slice_index part 0 == 45) (negative (numeral (drop 1 part))) (natural (numeral part))
