-- Hexadecimal digits: eight of them and their number go back and forth.
use Rattle.std.specs.Prelude.{◌≡◌, ℕ, zero, suc, ◌+◌, ◌*◌, ◌/◌, ◌%◌, ◌^◌, ◌<◌, ◌≤◌, true, ◌&&◌, List, [], ◌∷◌, ◌++◌, length, take, Some, None, ◌==◌, slice_index, refl}
use Rattle.std.proofs.Common.{sym, ap, ◌∙◌, pow-suc, add-one, arith}
use Rattle.std.specs.Str.Parse.{AllDigits, digits_value}
use Rattle.std.specs.Char.{digit_value, digit_char as digitChar}
use Rattle.std.specs.Bool.{Decides}
use Rattle.std.specs.List.{AllByRecursion}
use Rattle.std.proofs.lemmas.Option.{cond_some}
use Rattle.std.proofs.lemmas.Bool.{cond-true, and_from, and_parts, eqb-true, eq-eqb}
use Rattle.std.proofs.lemmas.Bool.Decides.{nat_tests}
use Rattle.std.proofs.ByRecursion.{Decides-by_and, All-get_or, All-push}
use Rattle.std.proofs.lemmas.List.{take_more, take_all, length_push}
use Rattle.std.proofs.lemmas.Int.Digits.{digits_value-lt, digits_value_push, digits_value_more}
use Rattle.std.proofs.lemmas.Str.{digit_value-digit_char}
use Rattle.value.specs.Hex.{hex_digit, all_hex, hexed, hex}

-- each byte is a digit
abbrev pub Hexes : List ℕ → Type 0
Hexes bs = AllByRecursion (λ c. hex_digit c ≡ true) bs

pub hexes : (bs : List ℕ) → Decides (all_hex bs) (Hexes bs)
hexes bs = Decides-by_and hex_digit (λ c. hex_digit c ≡ true) all_hex (λ c. ((λ h. h), (λ h. h))) refl (λ _ _. refl) bs

pub is_hexed : (bs : List ℕ) → length bs ≡ 8 → Hexes bs → hexed bs ≡ Some (digits_value 16 bs)
is_hexed bs l h = cond-true (length bs == 8 && all_hex bs) _ None (and_from _ _ (eq-eqb _ 8 l) ((hexes bs).1 h))

-- the digits of a number
pub length_hex : (k n : ℕ) → length (hex k n) ≡ k
unfolding hex
length_hex zero n = refl
length_hex (suc k) n = length_push (hex k (n / 16)) (digitChar (n % 16)) ∙ (add-one _ ∙ ap suc (length_hex k (n / 16)))

digit_char : (d : ℕ) → d < 16 → hex_digit (digitChar d) ≡ true
digit_char d h = grind (arith, nat_tests)

pub hexes_hex : (k n : ℕ) → Hexes (hex k n)
unfolding hex
hexes_hex zero n = tt
hexes_hex (suc k) n = All-push (λ c. hex_digit c ≡ true) (hex k (n / 16)) _ (hexes_hex k (n / 16)) (digit_char (n % 16) (omega arith))

value_hex : (k n : ℕ) → n < 16 ^ k → digits_value 16 (hex k n) ≡ n
unfolding hex
value_hex zero n h = omega arith
value_hex (suc k) n h =
    let l : n < 16 ^ k * 16 = rw pow-suc at h in
    let m : n / 16 < 16 ^ k = omega arith in
    let e = value_hex k (n / 16) m in
    let d = digit_value-digit_char (n % 16) (omega arith) in
    digits_value_push 16 (hex k (n / 16)) (digitChar (n % 16)) ∙ omega arith

pub hexed_hex : (n : ℕ) → n < 4294967296 → hexed (hex 8 n) ≡ Some n
hexed_hex n h = is_hexed (hex 8 n) (length_hex 8 n) (hexes_hex 8 n) ∙ ap Some (value_hex 8 n h)

-- and the number of some digits
pub char_digit : (c : ℕ) → hex_digit c ≡ true → (digitChar (digit_value c) ≡ c) × (digit_value c < 16)
char_digit c h = (grind (arith, nat_tests), grind (arith, nat_tests))

hex_value_upto : (bs : List ℕ) → Hexes bs → (i : ℕ) → i ≤ length bs → hex i (digits_value 16 (take i bs)) ≡ take i bs
unfolding hex
hex_value_upto bs h zero l = refl
hex_value_upto bs h (suc i) l =
    let at = char_digit (slice_index bs i) (All-get_or (λ c. hex_digit c ≡ true) bs i 0 l h) in
    let v : digits_value 16 (take (suc i) bs) ≡ digits_value 16 (take i bs) * 16 + digit_value (slice_index bs i) = rw add-one at (digits_value_more 16 bs i l) in
    let q : digits_value 16 (take (suc i) bs) / 16 ≡ digits_value 16 (take i bs) = omega (arith, at.1) in
    let r : digits_value 16 (take (suc i) bs) % 16 ≡ digit_value (slice_index bs i) = omega (arith, at.1) in
    (λ j. hex i (q j) ++ (digitChar (r j) ∷ []))
    ∙ ((λ j. hex_value_upto bs h i (omega arith) j ++ (at.0 j ∷ [])) ∙ sym (rw add-one at (take_more bs i 0 l)))

hex_value : (bs : List ℕ) (k : ℕ) → length bs ≡ k → Hexes bs → hex k (digits_value 16 bs) ≡ bs
hex_value bs k l h =
    let all : take k bs ≡ bs = take_all k bs (omega arith) in
    ap (λ b. hex k (digits_value 16 b)) (sym all) ∙ (hex_value_upto bs h k (omega arith) ∙ all)

digits_of : (bs : List ℕ) → Hexes bs → AllDigits 16 bs
digits_of [] h = tt
digits_of (c ∷ cs) h = ((char_digit c h.0).1, digits_of cs h.1)

pub hex_of_hexed : (bs : List ℕ) (n : ℕ) → hexed bs ≡ Some n → (n < 4294967296) × (hex 8 n ≡ bs)
hex_of_hexed bs n e =
    let s = cond_some (length bs == 8 && all_hex bs) (digits_value 16 bs) n e in
    let p = and_parts (length bs == 8) (all_hex bs) s.0 in
    let l : length bs ≡ 8 = eqb-true (length bs) 8 p.0 in
    let h = (hexes bs).0 p.1 in
    let low : digits_value 16 bs < 16 ^ length bs = digits_value-lt 16 bs (digits_of bs h) in
    let top : 16 ^ length bs ≡ 16 ^ 8 = ap (λ k. 16 ^ k) l in
    (omega (arith, s.1), ap (hex 8) (sym s.1) ∙ hex_value bs 8 l h)
