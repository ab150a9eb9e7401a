-- Whole numbers of 32 bits: what their parts are read as, and that numbers and parts go back and forth.
use Rattle.std.specs.Prelude.{◌≡◌, ℕ, zero, suc, ◌^◌, ◌<◌, true, cond, List, [], ◌∷◌, drop, ℤ, pos, negsuc, Some, None, Ok, Err, decimal, Option, ◌==◌, ◌≢◌, nat_le, slice_index, refl}
use Rattle.std.proofs.Common.{sym, ap, ◌∙◌, ⊎_elim, arith, lit<}
use Rattle.std.specs.Int.{IsInRange}
use Rattle.std.specs.List.{AllByRecursion}
use Rattle.std.specs.Fmt.{signed_decimal}
use Rattle.std.proofs.lemmas.Bool.{cond-true, cond-false, ne_eqb, eqb-true, le-leb, leb-true, lt-ltb, ltb-true, cases_Bool}
use Rattle.std.proofs.lemmas.Bool.Decides.{nat_tests}
use Rattle.std.proofs.ByRecursion.{All-get_or, All-from_get_or, All-weaker}
use Rattle.std.proofs.lemmas.Str.Parse.{digit_at}
use Rattle.std.proofs.lemmas.Fmt.{digits_decimal, decimal_nonempty, length-decimal-le}
use Rattle.text.specs.Number.{numeral}
use Rattle.text.specs.Tokens.{atom}
use Rattle.text.proofs.Numerals.{own}
use Rattle.value.specs.declared.codes.Fault.TheVariants.{Bound}
use Rattle.value.specs.Counts.{in_32, natural, negative, integer}
use Rattle.value.specs.Answers.{passed}
use Rattle.value.specs.Decimals.{numeral_decimal, decimal_from_numeral}
use Rattle.value.specs.Places.{Worded}

-- the bytes of a number are digits
digit_bytes : (n : ℕ) → n < 10 ^ 10 → AllByRecursion (IsInRange 48 57) (decimal n)
digit_bytes n h = All-from_get_or (IsInRange 48 57) (decimal n) 0 (λ i l. digit_at (decimal n) i (own.to (decimal n) (digits_decimal own n (omega arith))) l)

no_minus : (n : ℕ) → n < 10 ^ 10 → slice_index (decimal n) 0 ≢ 45
no_minus n h e = let d = All-get_or (IsInRange 48 57) (decimal n) 0 0 (decimal_nonempty n (omega arith)) (digit_bytes n h) in omega arith

negative_suc : (n : ℕ) → negative (Some (suc n)) ≡ cond (nat_le (suc n) 2147483648) (Ok (negsuc n)) (Err Bound)
negative_suc n = cond-false (suc n == 0) _ _ (ne_eqb (suc n) 0 (λ e. omega arith))

pub integer_signed : (z : ℤ) → in_32 z ≡ true → integer (signed_decimal z) ≡ Ok z
integer_signed (pos n) h =
    let l : n < 2147483648 = ltb-true n 2147483648 h in
    cond-false (slice_index (decimal n) 0 == 45) _ _ (ne_eqb _ 45 (no_minus n (omega arith)))
    ∙ (ap natural (numeral_decimal n (omega arith)) ∙ cond-true (nat_le n 2147483647) _ _ (le-leb n 2147483647 (omega arith)))
integer_signed (negsuc n) h =
    let l : n < 2147483648 = ltb-true n 2147483648 h in
    ap negative (numeral_decimal (suc n) (omega arith)) ∙ (negative_suc n ∙ cond-true (nat_le (suc n) 2147483648) _ _ (le-leb (suc n) 2147483648 l))

natural_ok : (r : Option ℕ) (z : ℤ) → natural r ≡ Ok z → (n : ℕ) × (r ≡ Some n) × (n < 2147483648) × (z ≡ pos n)
natural_ok None z e = absurd cc
natural_ok (Some n) z e =
    let p = passed (nat_le n 2147483647) (Ok (pos n)) Bound z e in
    (n, refl, omega (arith, leb-true n 2147483647 p.0), cc)

negative_ok : (r : Option ℕ) (z : ℤ) → negative r ≡ Ok z → (n : ℕ) × (r ≡ Some (suc n)) × (n < 2147483648) × (z ≡ negsuc n)
negative_ok None z e = absurd cc
negative_ok (Some zero) z e = absurd cc
negative_ok (Some (suc n)) z e =
    let p = passed (nat_le (suc n) 2147483648) (Ok (negsuc n)) Bound z (sym (negative_suc n) ∙ e) in
    (n, refl, omega (arith, leb-true (suc n) 2147483648 p.0), cc)

from_minus : (bs : List ℕ) → slice_index bs 0 ≡ 45 → bs ≡ 45 ∷ drop 1 bs
from_minus [] e = absurd (omega arith)
from_minus (b ∷ bs) e = ap (λ c. c ∷ bs) e

pub signed_integer : (bs : List ℕ) (z : ℤ) → integer bs ≡ Ok z → (in_32 z ≡ true) × (bs ≡ signed_decimal z)
signed_integer bs z e =
    ⊎_elim
    (λ y.
    let r = negative_ok (numeral (drop 1 bs)) z (sym (cond-true (slice_index bs 0 == 45) (negative (numeral (drop 1 bs))) (natural (numeral bs)) y) ∙ e) in
    (ap in_32 r.3 ∙ lt-ltb r.0 2147483648 r.2, from_minus bs (eqb-true _ 45 y) ∙ (ap (λ l. 45 ∷ l) ((decimal_from_numeral (drop 1 bs) (suc r.0) r.1).0) ∙ ap signed_decimal (sym r.3))))
    (λ o.
    let r = natural_ok (numeral bs) z (sym (cond-false (slice_index bs 0 == 45) (negative (numeral (drop 1 bs))) (natural (numeral bs)) o) ∙ e) in
    (ap in_32 r.3 ∙ lt-ltb r.0 2147483648 r.2, (decimal_from_numeral bs r.0 r.1).0 ∙ ap signed_decimal (sym r.3)))
    (cases_Bool (slice_index bs 0 == 45))

digits_atoms : (bs : List ℕ) → AllByRecursion (IsInRange 48 57) bs → AllByRecursion (λ c. atom c ≡ true) bs
digits_atoms bs h = All-weaker (IsInRange 48 57) (λ c. atom c ≡ true) (λ c d. grind (arith, nat_tests)) bs h

pub worded_signed : (z : ℤ) → in_32 z ≡ true → Worded (signed_decimal z)
worded_signed (pos n) h =
    let l : n < 2147483648 = ltb-true n 2147483648 h in
    record {
      some = decimal_nonempty n (omega arith);
      few = omega (arith, length-decimal-le 10 n (lit< tt) (omega arith) (omega arith));
      atoms = digits_atoms (decimal n) (digit_bytes n (omega arith));
    }
worded_signed (negsuc n) h =
    let l : n < 2147483648 = ltb-true n 2147483648 h in
    record {
      some = omega arith;
      few = omega (arith, length-decimal-le 10 (suc n) (lit< tt) (omega arith) (omega arith));
      atoms = (refl, digits_atoms (decimal (suc n)) (digit_bytes (suc n) (omega arith)));
    }
