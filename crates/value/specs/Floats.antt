-- Bearings that a sheet holds, by the bits of their floats.
use Rattle.std.specs.Prelude.{◌≡◌, ℕ, ◌%◌, ◌<◌, ◌≤◌, true, false, cond, not, T, List, Some, None, Ok, Err, Option, from_bits, nat_lt, to_bits, Float}
use Rattle.std.proofs.Common.{sym, ap, subst, ◌∙◌, ⊎_elim}
use Rattle.std.specs.Float.{NotNan, binary32}
use Rattle.std.specs.Float.Ieee.{fits, is_nan, nan_bits, le}
use Rattle.std.specs.Float.Ieee.Bits.{is_true, of_bits-to_bits, to_bits-lt, of_bits-fits, to_bits-of_bits, nan_bits_is, nan_bits_above}
use Rattle.std.proofs.lemmas.Bool.{cond-true, cond-false, and_parts, and_from, cases_Bool, lt-ltb, le-ltb}
use Rattle.std.proofs.lemmas.Float.{le_right, T_from_true, T_from_false}
use Rattle.value.specs.declared.codes.Fault.TheVariants.{Bound}
use Rattle.value.specs.Answers.{passed}
use Rattle.value.specs.Bearings.{north, held, bearing_form, bearing_at}
use Rattle.value.specs.Forms.{tagged}
use Rattle.value.specs.Hex.{hexed, hex}
use Rattle.value.specs.Hexes.{hexed_hex, hex_of_hexed}

number_held : (x : Float) → held x ≡ true → NotNan x
number_held x h = le_right north x (T_from_true (le north x) (and_parts (le north x) _ h).0)

no_nan_held : (x : Float) → is_nan x ≡ true → held x ≡ false
no_nan_held x n = ⊎_elim (λ y. absurd (subst (λ b. T (not b)) n (number_held x y))) (λ o. o) (cases_Bool (held x))

bits-nan : (n : ℕ) → is_nan (from_bits binary32 n) ≡ nat_lt 2139095040 (n % 2147483648)
bits-nan n = sym (nan_bits_is binary32 n) ∙ nan_bits_above binary32 n

pub nan_past : (n : ℕ) → 2139095040 < n % 2147483648 → bearing_at (Some n) ≡ Err Bound
nan_past n h =
    cond-false (held (from_bits binary32 n)) _ _ (no_nan_held (from_bits binary32 n) (bits-nan n ∙ lt-ltb 2139095040 (n % 2147483648) h))

pub no_nan : (n : ℕ) → n % 2147483648 ≤ 2139095040 → T (not (nan_bits binary32 n))
no_nan n h = T_from_false (nan_bits binary32 n) (nan_bits_above binary32 n ∙ le-ltb 2139095040 (n % 2147483648) h)

-- a bearing's form is read as the bearing
pub bearing_back : (x : Float) → fits binary32 x ≡ true → held x ≡ true → bearing_at (hexed (hex 8 (to_bits binary32 x))) ≡ Ok x
bearing_back x f h =
    let t = T_from_true (fits binary32 x) f in
    let e = of_bits-to_bits binary32 x t in
    ap bearing_at (hexed_hex (to_bits binary32 x) (to_bits-lt binary32 x t))
    ∙ ((λ i. cond (held (e i)) (Ok (e i)) (Err Bound)) ∙ cond-true (held x) (Ok x) (Err Bound) h)

-- and nothing else is
pub bearing_there : (w : List ℕ) (o : Option ℕ) (x : Float) → hexed w ≡ o → bearing_at o ≡ Ok x → bearing_form x ≡ Some (tagged 97 w)
bearing_there w None x d e = absurd cc
bearing_there w (Some n) x d e =
    let y = from_bits binary32 n in
    let p = passed (held y) (Ok y) Bound x e in
    let is : y ≡ x = cc in
    let r = hex_of_hexed w n d in
    let b = to_bits-of_bits binary32 n r.0 (number_held y p.0) in
    ap bearing_form (sym is)
    ∙ (cond-true _ (Some (tagged 97 (hex 8 (to_bits binary32 y)))) None (and_from _ _ (is_true (fits binary32 y) (of_bits-fits binary32 n)) p.0)
    ∙ ap (λ l. Some (tagged 97 l)) (ap (hex 8) b ∙ r.1))
