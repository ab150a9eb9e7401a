-- Numbers as sheets have them: one to ten digits with no needless zero in front.
use Rattle.std.specs.Prelude.{ℕ, ◌-◌, Bool, true, cond, ◌&&◌, List, length, Some, None, Option, ◌==◌, nat_le, slice_index}
use Rattle.std.specs.Str.Parse.{digits_value}
use Rattle.std.specs.Str.{all_ascii_digits}

abbrev pub digit_of : ℕ → Option ℕ
digit_of b = cond (nat_le 48 b && nat_le b 57) (Some (b - 48)) None

-- a zero in front stands alone
abbrev pub tidy : List ℕ → Bool
tidy ds = cond (slice_index ds 0 == 48) (length ds == 1) true

-- the number that the bytes write, if they write one
abbrev pub numeral : List ℕ → Option ℕ
numeral ds =
    cond (nat_le 1 (length ds) && (nat_le (length ds) 10 && (tidy ds && all_ascii_digits ds))) (Some (digits_value 10 ds)) None
