-- A number's part and a hexadecimal digit case by case, and each form as it is read back: to build a kind of one's own on.
use Rattle.std.specs.Prelude.{◌≡◌, ℕ, ◌+◌, ◌-◌, ◌<◌, ◌≤◌, true, List, length, take, drop, ℤ, pos, neg_ℤ, Some, Ok, Err, Option, FitsSigned, ◌==◌, ◌≢◌, nat_le, slice_index, to_bits, Float}
use Rattle.std.proofs.Common.{sym, ap, ◌∙◌, arith, of_z, to_z}
use Rattle.std.specs.Char.{digit_value}
use Rattle.std.specs.Float.{binary32}
use Rattle.std.specs.Float.Ieee.{fits}
use Rattle.std.specs.Fmt.{signed_decimal}
use Rattle.std.specs.Int.{w32}
use Rattle.std.proofs.lemmas.Bool.{cond-true, cond-false, and_from, eq-eqb, ne_eqb, le-leb, lt-leb}
use Rattle.std.proofs.lemmas.Bool.Decides.{nat_tests}
use Rattle.std.proofs.lemmas.Int.{to_z-of_z}
use Rattle.std.proofs.lemmas.List.{take_rest}
use Rattle.text.specs.Number.{numeral}
use Rattle.text.specs.Tokens.{lexed}
use Rattle.value.specs.declared.codes.Fault.TheVariants.{Form, Bound}
use Rattle.value.specs.declared.readings.Reading.TheVariants.{Count, Bearing}
use Rattle.value.specs.Bearings.{held}
use Rattle.value.specs.Counts.{in_32, natural, negative, integer}
use Rattle.value.specs.Forms.{tagged}
use Rattle.value.specs.Hex.{hex, hex_digit}
use Rattle.value.specs.Readings.{reading_reads}
use Rattle.value.specs.Wholes.{as_whole, whole_reads}
use Rattle.value.specs.ReadingKindLemmas as readings
use Rattle.value.specs.WholeKindLemmas as wholes

-- a part that begins with a minus
pub after_minus : (bs : List ℕ) (r : Option ℕ) → slice_index bs 0 ≡ 45 → r ≡ numeral (take (length bs - 1) (drop 1 bs)) → negative r ≡ integer bs
after_minus bs r m e =
    ap negative (e ∙ ap numeral (take_rest bs 1)) ∙ sym (cond-true (slice_index bs 0 == 45) (negative (numeral (drop 1 bs))) (natural (numeral bs)) (eq-eqb _ 45 m))

pub minus_zero : (n : ℕ) → n ≡ 0 → negative (Some n) ≡ Err Form
minus_zero n h = cond-true (n == 0) _ _ (eq-eqb n 0 h)

-- the number as the code holds it, by its bits
pub minus_in : (n : ℕ) (z : ℤ) → (n ≢ 0) → n ≤ 2147483648 → z ≡ neg_ℤ (pos n) → FitsSigned w32 z → negative (Some n) ≡ Ok (to_z w32 (of_z w32 z))
minus_in n z o h e f =
    cond-false (n == 0) _ _ (ne_eqb n 0 o) ∙ (cond-true (nat_le n 2147483648) _ _ (le-leb n 2147483648 h) ∙ ap Ok (sym e ∙ sym (to_z-of_z w32 z f)))

pub minus_past : (n : ℕ) → 2147483648 < n → negative (Some n) ≡ Err Bound
minus_past n h =
    cond-false (n == 0) _ _ (ne_eqb n 0 (λ e. omega arith)) ∙ cond-false (nat_le n 2147483648) _ _ (lt-leb n 2147483648 h)

-- a figure and a letter
pub figure_value : (c : ℕ) → 48 ≤ c → c < 58 → (hex_digit c ≡ true) × (digit_value c ≡ c - 48)
figure_value c h g = (grind (arith, nat_tests), grind (arith, nat_tests))

pub letter_value : (c : ℕ) → 97 ≤ c → c < 103 → (hex_digit c ≡ true) × (digit_value c ≡ c - 97 + 10)
letter_value c h g = (grind (arith, nat_tests), grind (arith, nat_tests))

-- a whole number, a count and a bearing
pub read_back : (z : ℤ) → in_32 z ≡ true → whole_reads (lexed (tagged 110 (signed_decimal z))) ≡ Ok (as_whole z)
read_back z h = wholes.back (as_whole z) (tagged 110 (signed_decimal z)) (cond-true (in_32 z) _ _ h)

pub count_back : (z : ℤ) → in_32 z ≡ true → reading_reads (lexed (tagged 110 (signed_decimal z))) ≡ Ok (Count z)
count_back z h = readings.back (Count z) (tagged 110 (signed_decimal z)) (cond-true (in_32 z) _ _ h)

pub angle_back : (x : Float) → fits binary32 x ≡ true → held x ≡ true → reading_reads (lexed (tagged 97 (hex 8 (to_bits binary32 x)))) ≡ Ok (Bearing x)
angle_back x f h = readings.back (Bearing x) (tagged 97 (hex 8 (to_bits binary32 x))) (cond-true _ _ _ (and_from (fits binary32 x) (held x) f h))
