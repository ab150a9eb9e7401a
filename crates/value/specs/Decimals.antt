-- Numbers of up to ten digits and their decimals go back and forth.
use Rattle.std.specs.Prelude.{◌≡◌, ℕ, ◌^◌, ◌<◌, ◌≤◌, true, List, length, Some, decimal, ◌==◌, nat_le, slice_index}
use Rattle.std.proofs.Common.{sym, ap, ◌∙◌, ⊎_elim, arith, lit<}
use Rattle.std.proofs.Math.Nat.{pow-le-pow_right}
use Rattle.std.specs.Str.Parse.{digits_value}
use Rattle.std.specs.Str.{all_ascii_digits}
use Rattle.std.proofs.lemmas.Bool.{cond-true, cond-false, eq-eqb, ne_eqb, eqb-true, leb-true, and_parts, cases_lt}
use Rattle.std.proofs.lemmas.Fmt.{decimal-digits_value, digits_decimal, digits_value-decimal, decimal_nonempty, length-decimal-le, first_decimal, decimal_digit}
use Rattle.std.proofs.lemmas.Int.Digits.{digits_value-lt}
use Rattle.std.proofs.lemmas.Option.{cond_some}
use Rattle.text.specs.Number.{tidy, numeral}
use Rattle.text.proofs.Numerals.{own, named}

small : (n : ℕ) → n < 10 ^ 10 → n < 2 ^ 64
small n h = omega arith

tidy_decimal : (n : ℕ) → n < 10 ^ 10 → tidy (decimal n) ≡ true
tidy_decimal n h =
    ⊎_elim
    (λ (more : 0 < n). cond-false (slice_index (decimal n) 0 == 48) _ _ (ne_eqb _ 48 (λ e. omega (arith, first_decimal n more (small n h)))))
    (λ (none : n ≤ 0). let e : n ≡ 0 = omega arith in ap (λ k. tidy (decimal k)) e ∙ ap tidy (decimal_digit 0 (lit< tt)))
    (cases_lt 0 n)

-- the digits of a number are read as the number
pub numeral_decimal : (n : ℕ) → n < 10 ^ 10 → numeral (decimal n) ≡ Some n
numeral_decimal n h =
    named (decimal n) (decimal_nonempty n (small n h)) (length-decimal-le 10 n (lit< tt) h (small n h)) (tidy_decimal n h) (digits_decimal own n (small n h))
    ∙ ap Some (digits_value-decimal own n (small n h))

-- and a number that is read is read from its digits
lead : (bs : List ℕ) → tidy bs ≡ true → slice_index bs 0 ≡ 48 → length bs ≡ 1
lead bs t e = eqb-true (length bs) 1 (sym (cond-true (slice_index bs 0 == 48) (length bs == 1) true (eq-eqb _ 48 e)) ∙ t)

pub decimal_from_numeral : (bs : List ℕ) (n : ℕ) → numeral bs ≡ Some n → (bs ≡ decimal n) × (n < 10 ^ 10)
decimal_from_numeral bs n e =
    let s = cond_some _ (digits_value 10 bs) n e in
    let p = and_parts (nat_le 1 (length bs)) _ s.0 in
    let q = and_parts (nat_le (length bs) 10) _ p.1 in
    let r = and_parts (tidy bs) (all_ascii_digits bs) q.1 in
    let some : 1 ≤ length bs = leb-true 1 (length bs) p.0 in
    let few : length bs ≤ 10 = leb-true (length bs) 10 q.0 in
    let low : digits_value 10 bs < 10 ^ length bs = digits_value-lt 10 bs (own.to bs r.1) in
    let top : 10 ^ length bs ≤ 10 ^ 10 = pow-le-pow_right (lit< tt) few in
    (sym (decimal-digits_value own bs r.1 some (lead bs r.0) (omega arith)) ∙ ap decimal s.1, omega (arith, s.1))
