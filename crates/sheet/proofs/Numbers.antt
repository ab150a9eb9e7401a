-- Numbers of sheets: a number of ten digits at most is written and read alike.
use Rattle.std.proofs.Common.{◌≡◌, ℕ, ◌^◌, ◌<◌, ◌≤◌, true, List, [], ◌∷◌, length, decimal, arith}
use Rattle.std.specs.Char.{is_ascii_digit}
use Rattle.std.specs.Str.{all_ascii_digits}
use Rattle.std.proofs.lemmas.Bool.{and_parts}
use Rattle.std.proofs.lemmas.Fmt.{digits_decimal, length-decimal-le}
use Rattle.std.proofs.lemmas.Bool.Decides.{nat_tests}
use Rattle.text.proofs.Numerals.{own}
pub use Rattle.value.specs.Decimals.{numeral_decimal, decimal_from_numeral}
use Rattle.sheet.proofs.Rejoined.{Without}

small : (n : ℕ) → n < 10 ^ 10 → n < 2 ^ 64
small n h = omega arith

-- digits only, so none of the lower bytes
digits_without : (d : ℕ) → d < 48 → (ds : List ℕ) → all_ascii_digits ds ≡ true → Without d ds
digits_without d h [] e = tt
digits_without d h (c ∷ cs) e =
    let p = and_parts (is_ascii_digit c) (all_ascii_digits cs) e in
    ((λ z. let q : is_ascii_digit c ≡ true = p.0 in absurd (grind (arith, nat_tests))), digits_without d h cs p.1)

pub decimal_without : (d : ℕ) → d < 48 → (n : ℕ) → n < 10 ^ 10 → Without d (decimal n)
decimal_without d h n small_n = digits_without d h (decimal n) (digits_decimal own n (small n small_n))

pub decimal-short : (k n : ℕ) → 0 < k → n < 10 ^ k → n < 10 ^ 10 → length (decimal n) ≤ k
decimal-short k n some h g = length-decimal-le k n some h (small n g)
