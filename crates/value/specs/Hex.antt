-- Numbers of 32 bits in eight hexadecimal digits, 0 to 9 and the small letters a to f.
use Rattle.std.specs.Prelude.{ℕ, zero, suc, ◌/◌, ◌%◌, Bool, true, cond, ◌&&◌, ◌||◌, List, [], ◌∷◌, ◌++◌, length, Some, None, Option, ◌==◌}
use Rattle.std.specs.Str.Parse.{digits_value}
use Rattle.std.specs.Char.{digit_char, digit_value}
use Rattle.std.specs.Int.{is_in_range}

abbrev pub hex_digit : ℕ → Bool
hex_digit c = is_in_range 48 57 c || is_in_range 97 102 c

abbrev pub all_hex : List ℕ → Bool
all_hex [] = true
all_hex (c ∷ cs) = hex_digit c && all_hex cs

-- what a byte counts for
abbrev pub hex_digit_of : ℕ → Option ℕ
hex_digit_of c = cond (hex_digit c) (Some (digit_value c)) None

-- the number that the digits write
abbrev pub hexed : List ℕ → Option ℕ
hexed part = cond (length part == 8 && all_hex part) (Some (digits_value 16 part)) None

-- the last k digits of n
unfoldable pub hex : ℕ → ℕ → List ℕ
hex zero n = []
hex (suc k) n = hex k (n / 16) ++ (digit_char (n % 16) ∷ [])
