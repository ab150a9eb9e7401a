-- Forms as they are written, piece after piece, onto a line.
use Rattle.std.proofs.Common.{◌≡◌, ℕ, zero, suc, ◌-◌, ◌/◌, ◌%◌, ◌<◌, ◌≤◌, List, [], ◌∷◌, length, ℤ, ap, ◌∙◌, arith}
use Rattle.std.specs.Char.{digit_char}
use Rattle.std.specs.Fmt.{signed_decimal}
use Rattle.std.proofs.lemmas.List.{take_all, length_push}
use Rattle.text.specs.Line.{added}
use Rattle.text.proofs.Lines.{added_more}
use Rattle.value.specs.Forms.{tagged}
use Rattle.value.specs.Hex.{hex}
use Rattle.value.specs.Hexes.{length_hex}
use Rattle.std.specs.Prelude.{FitsSigned}
use Rattle.std.specs.Int.{w32}
use Rattle.std.proofs.lemmas.Fmt.{length_signed_le}

-- a part and the closing bracket after a form's front
closing : (letter : ℕ) (part front was now : List ℕ) → length part ≤ 28 → front ≡ 40 ∷ letter ∷ 32 ∷ [] → was ≡ added front part → now ≡ added was (41 ∷ []) → now ≡ tagged letter part
closing letter part front was now h e f g =
    g
    ∙ (ap (λ l. added l (41 ∷ [])) (f ∙ ap (λ l. added l part) e)
    ∙ (added_more (40 ∷ letter ∷ 32 ∷ []) part (41 ∷ []) ∙ take_all 32 (tagged letter part) (omega (arith, length_push part 41))))

pub closing_hex : (n : ℕ) (front was now : List ℕ) → front ≡ 40 ∷ 97 ∷ 32 ∷ [] → was ≡ added front (hex 8 n) → now ≡ added was (41 ∷ []) → now ≡ tagged 97 (hex 8 n)
closing_hex n front was now = closing 97 (hex 8 n) front was now (omega (arith, length_hex 8 n))

pub closing_count : (z : ℤ) (front was now : List ℕ) → FitsSigned w32 z → front ≡ 40 ∷ 110 ∷ 32 ∷ [] → was ≡ added front (signed_decimal z) → now ≡ added was (41 ∷ []) → now ≡ tagged 110 (signed_decimal z)
closing_count z front was now f = closing 110 (signed_decimal z) front was now (omega (arith, length_signed_le 10 z (omega (arith, f)) (omega (arith, f))))

pub hex_more : (start was now : List ℕ) (k n b : ℕ) → 1 < k → was ≡ added start (hex (k - 1) (n / 16)) → b ≡ digit_char (n % 16) → now ≡ added was (b ∷ []) → now ≡ added start (hex k n)
unfolding hex
hex_more start was now zero n b h e d f = absurd (omega arith)
hex_more start was now (suc k) n b h e d f =
    let one : suc k - 1 ≡ k = omega arith in
    f
    ∙ ((λ i. added ((e ∙ ap (λ j. added start (hex j (n / 16))) one) i) (d i ∷ []))
    ∙ added_more start (hex k (n / 16)) (digit_char (n % 16) ∷ []))

pub hex_one : (start now : List ℕ) (k n b : ℕ) → 0 < k → k ≤ 1 → b ≡ digit_char (n % 16) → now ≡ added start (b ∷ []) → now ≡ added start (hex k n)
unfolding hex
hex_one start now zero n b h g d f = absurd (omega arith)
hex_one start now (suc zero) n b h g d f = f ∙ ap (λ c. added start (c ∷ [])) d
hex_one start now (suc (suc k)) n b h g d f = absurd (omega arith)
