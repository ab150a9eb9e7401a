-- Hexadecimal digits: what the loop over them keeps.
use Rattle.std.proofs.Common.{◌≡◌, ℕ, ◌+◌, ◌*◌, ◌^◌, ◌<◌, ◌≤◌, true, ◌&&◌, List, take, length, ◌==◌, slice_index, Some, None, sym, ap, subst, ◌∙◌, ⊎_elim, pow-suc, add-one, arith, lit<}
use Rattle.std.proofs.Math.Nat.{pow-le-pow_right}
use Rattle.std.proofs.ByRecursion.{All-get_or, All-more}
use Rattle.std.proofs.lemmas.Bool.{cond-true, cond-false, and_right, cases_Bool}
use Rattle.std.proofs.lemmas.List.{take_all}
use Rattle.std.proofs.lemmas.Option.{cond_some, none-some}
use Rattle.std.proofs.lemmas.Int.Digits.{digits_value_more}
use Rattle.std.specs.Char.{digit_value}
use Rattle.std.specs.Str.Parse.{digits_value}
use Rattle.value.specs.Hex.{hex_digit, all_hex, hex_digit_of, hexed}
use Rattle.value.specs.Hexes.{Hexes, hexes, is_hexed, char_digit}

-- the first i bytes are digits, and write n
pub record Sofar (bs : List ℕ) (i n : ℕ) : Type 0 where
  pub is : n ≡ digits_value 16 (take i bs)
  pub all : Hexes (take i bs)
  pub fits : n < 16 ^ i

known : (c d : ℕ) → Some d ≡ hex_digit_of c → (hex_digit c ≡ true) × (digit_value c ≡ d) × (d < 16)
known c d e =
    let p = cond_some (hex_digit c) (digit_value c) d (sym e) in
    (p.0, p.1, subst (λ v. v < 16) p.1 (char_digit c p.0).1)

pub turn : (bs : List ℕ) (i n d : ℕ) → Sofar bs i n → i < length bs → Some d ≡ hex_digit_of (slice_index bs i) → Sofar bs (i + 1) (n * 16 + d)
turn bs i n d s h x =
    let k = known (slice_index bs i) d x in
    record {
      is = sym (digits_value_more 16 bs i h ∙ cc (k.1, s.is));
      all = All-more (λ c. hex_digit c ≡ true) bs i 0 h s.all k.0;
      fits = rw (add-one, pow-suc) (omega (arith, s.fits, k.2));
    }

pub no_hex : (bs : List ℕ) (i : ℕ) → i < length bs → None ≡ hex_digit_of (slice_index bs i) → None ≡ hexed bs
no_hex bs i h e =
    sym (cond-false (length bs == 8 && all_hex bs) (Some (digits_value 16 bs)) None (and_right (length bs == 8) (all_hex bs)
    (⊎_elim
    (λ y. absurd (none-some (digit_value (slice_index bs i)) (e ∙ cond-true (hex_digit (slice_index bs i)) _ None (All-get_or (λ c. hex_digit c ≡ true) bs i 0 h ((hexes bs).0 y)))))
    (λ o. o)
    (cases_Bool (all_hex bs)))))

-- one digit more fits 32 bits
pub room : (i n : ℕ) → i < 8 → n < 16 ^ i → n * 16 + 15 < 2 ^ 32
room i n h l = let j : i ≤ 7 = omega arith in let p : 16 ^ i ≤ 16 ^ 7 = pow-le-pow_right (lit< tt) j in omega arith

pub fitting : (bs : List ℕ) (i n d : ℕ) → Sofar bs i n → i < 8 → Some d ≡ hex_digit_of (slice_index bs i) → n * 16 + d < 2 ^ 32
fitting bs i n d s h x = let k = known (slice_index bs i) d x in omega (arith, room i n h s.fits, k.2)

pub finished : (bs : List ℕ) (i n : ℕ) → length bs ≡ 8 → length bs ≤ i → Sofar bs i n → Some n ≡ hexed bs
finished bs i n l h s =
    let all : take i bs ≡ bs = take_all i bs h in
    ap Some (s.is ∙ ap (digits_value 16) all) ∙ sym (is_hexed bs l (subst Hexes all s.all))
