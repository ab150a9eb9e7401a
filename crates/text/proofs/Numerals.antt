-- The numbers of sheets: what the loop over their digits keeps, and what they write.
use Rattle.std.proofs.Common.{◌≡◌, ℕ, ◌+◌, ◌-◌, ◌*◌, ◌^◌, ◌<◌, ◌≤◌, true, List, length, get_or, take, Some, None, sym, ◌∙◌, ap, subst, ⊎_elim, pow-suc, add-one, arith}
use Rattle.std.specs.Str.Parse.{AllDigits, digits_value}
use Rattle.std.specs.Int.{IsInRange}
use Rattle.std.specs.Char.{digit_value as digitValue}
use Rattle.std.specs.Str.{all_ascii_digits}
use Rattle.std.proofs.lemmas.Bool.{cases_Bool}
use Rattle.std.proofs.lemmas.Bool.Decides.{nat_tests}
use Rattle.std.proofs.lemmas.Str.Parse.{IsNumeralModel, numerals_by_value, tells_all_ascii_digits, digit_at}
use Rattle.std.proofs.lemmas.List.{take_all}
use Rattle.std.proofs.lemmas.Int.Digits.{digits_value_more, digits_more}
use Rattle.text.specs.Number.{digit_of, tidy, numeral}

pub own : IsNumeralModel (λ ds. all_ascii_digits ds ≡ true) (digits_value 10)
own = numerals_by_value (λ ds. all_ascii_digits ds ≡ true) tells_all_ascii_digits

-- the first i bytes are digits, and write n
pub record Sofar (bs : List ℕ) (i n : ℕ) : Type 0 where
  pub is : n ≡ digits_value 10 (take i bs)
  pub all : AllDigits 10 (take i bs)
  pub fits : n < 10 ^ i

digit_value : (c : ℕ) → IsInRange 48 57 c → digitValue c ≡ c - 48
digit_value c h = grind (arith, nat_tests)

not_digit : (b : ℕ) → None ≡ digit_of b → IsInRange 48 57 b → ⊥
not_digit b e h = grind (arith, nat_tests)

a_digit : (b d : ℕ) → Some d ≡ digit_of b → IsInRange 48 57 b × (d ≡ b - 48)
a_digit b d e = grind (arith, nat_tests)

-- one digit more
pub one_more : (bs : List ℕ) (i n d : ℕ) → Sofar bs i n → i < length bs → Some d ≡ digit_of (get_or bs i 0) → Sofar bs (i + 1) (n * 10 + d)
one_more bs i n d s h e =
    let a = a_digit (get_or bs i 0) d e in
    let v : digitValue (get_or bs i 0) ≡ d = digit_value _ a.0 ∙ sym a.1 in
    record {
      is = sym (digits_value_more 10 bs i h ∙ cc (v, s.is));
      all = digits_more 10 bs i h s.all (omega (arith, a.0));
      fits = rw (add-one, pow-suc) (omega (arith, s.fits, a.0, a.1));
    }

-- a byte that is no digit
pub no_number : (bs : List ℕ) (i : ℕ) → i < length bs → None ≡ digit_of (get_or bs i 0) → None ≡ numeral bs
no_number bs i h e =
    ⊎_elim (λ y. absurd (not_digit _ e (digit_at bs i (own.to bs y) h))) (λ f. grind (arith, nat_tests)) (cases_Bool (all_ascii_digits bs))

pub named : (bs : List ℕ) → 1 ≤ length bs → length bs ≤ 10 → tidy bs ≡ true → all_ascii_digits bs ≡ true → numeral bs ≡ Some (digits_value 10 bs)
named bs a b t d = grind (arith, nat_tests)

-- all bytes are digits
pub all_read : (bs : List ℕ) (i n : ℕ) → Sofar bs i n → length bs ≤ i → 1 ≤ length bs → length bs ≤ 10 → tidy bs ≡ true → Some n ≡ numeral bs
all_read bs i n s h a b t =
    let all : take i bs ≡ bs = take_all i bs h in
    ap Some (s.is ∙ ap (digits_value 10) all) ∙ sym (named bs a b t (own.from bs (subst (AllDigits 10) all s.all)))
