-- What a kind owes of its forms: they are short and bracketed, and are read as they were written.
use Rattle.std.specs.Prelude.{◌≡◌, ℕ, ◌≤◌, true, false, ◌&&◌, List, [], ◌∷◌, ◌++◌, length, ℤ, Some, None, Ok, Option, Result, ◌≢◌, to_bits, refl, Float}
use Rattle.std.proofs.Common.{sym, ap, subst, ◌∙◌, arith}
use Rattle.std.specs.Float.{binary32}
use Rattle.std.specs.Float.Ieee.{fits}
use Rattle.std.specs.Fmt.{signed_decimal}
use Rattle.std.specs.List.{flat_map}
use Rattle.std.proofs.ByRecursion.{All-weaker}
use Rattle.std.proofs.lemmas.Bool.{and_parts, cond-true, true≢false}
use Rattle.std.proofs.lemmas.Bool.Decides.{nat_tests}
use Rattle.std.proofs.lemmas.List.{length_push}
use Rattle.std.proofs.lemmas.Option.{cond_some}
use Rattle.text.specs.Tokens.{Tok, mark, word, text, atom, lexed}
use Rattle.value.specs.Bearings.{held, bearing_form}
use Rattle.value.specs.Counts.{in_32, count_form, integer}
use Rattle.value.specs.Forms.{Plain, Bracketed, tagged, part_of, tagged_part}
use Rattle.value.specs.Hex.{hex, hex_digit}
use Rattle.value.specs.Hexes.{length_hex, hexes_hex}
use Rattle.value.specs.Places.{Worded, lexed_after, joined_tagged}
use Rattle.value.specs.Signs.{worded_signed, signed_integer}

-- bs is a letter's form around a part that may stand in one
pub record Formed (letter : ℕ) (w bs : List ℕ) : Type 0 where
  pub is : tagged letter w ≡ bs
  pub worded : Worded w

pub short : {letter : ℕ} {w bs : List ℕ} → Formed letter w bs → length bs ≤ 16
short {letter} {w} f = subst (λ l. length l ≤ 16) f.is (omega (arith, length_push w 41, f.worded.few))

atom_plain : (c : ℕ) → atom c ≡ true → Plain c
atom_plain c h = ((λ e. absurd (no_atom c 40 e refl h)), (λ e. absurd (no_atom c 41 e refl h)), (λ e. absurd (no_atom c 10 e refl h)))
  where
    no_atom : (c d : ℕ) → c ≡ d → atom d ≡ false → atom c ≢ true
    no_atom c d e f h = true≢false (sym h ∙ (ap atom e ∙ f))

pub bracketed : {letter : ℕ} {w bs : List ℕ} → atom letter ≡ true → Formed letter w bs → Bracketed bs
bracketed {letter} {w} l f =
    subst Bracketed f.is
    (record {
      inside = letter ∷ 32 ∷ w;
      is = refl;
      plain = (atom_plain letter l, (((λ e. omega arith), (λ e. omega arith), (λ e. omega arith)), All-weaker (λ c. atom c ≡ true) Plain atom_plain w f.worded.atoms));
    })

-- where reads answers by the part after the letter, a form is read as by answers of its part
pub read_as : {X E : Type 0} (reads : List Tok → Result X E) (by : Option (List ℕ) → Result X E) {letter : ℕ} {w bs : List ℕ} → Formed letter w bs → lexed (tagged letter w) ≡ mark 40 ∷ word (letter ∷ []) ∷ mark 32 ∷ lexed (w ++ (41 ∷ [])) → ((t : Tok) → reads (mark 40 ∷ word (letter ∷ []) ∷ mark 32 ∷ t ∷ mark 41 ∷ []) ≡ by (part_of t)) → reads (lexed bs) ≡ by (Some w)
read_as reads by {letter} {w} f e at =
    let t = lexed_after w f.worded.some f.worded.atoms in
    ap (λ l. reads (lexed l)) (sym f.is)
    ∙ (ap reads (e ∙ ap (λ l. mark 40 ∷ word (letter ∷ []) ∷ mark 32 ∷ l) t.2) ∙ (at t.0 ∙ ap by t.1))

-- the form of a number
pub count_owed : (z : ℤ) (bs : List ℕ) → count_form z ≡ Some bs → (in_32 z ≡ true) × Formed 110 (signed_decimal z) bs
count_owed z bs e =
    let s = cond_some (in_32 z) (tagged 110 (signed_decimal z)) bs e in
    (s.0, record { is = s.1; worded = worded_signed z s.0 })

-- and nothing else is read as the number
pub count_there : (z : ℤ) (ts : List Tok) (part : List ℕ) → tagged_part 110 ts ≡ Some part → integer part ≡ Ok z → count_form z ≡ Some (flat_map text ts)
count_there z ts part t e =
    let s = signed_integer part z e in
    cond-true (in_32 z) (Some (tagged 110 (signed_decimal z))) None s.0
    ∙ ap Some (ap (tagged 110) (sym s.1) ∙ sym (joined_tagged 110 ts part t))

pub worded_hex : (n : ℕ) → Worded (hex 8 n)
worded_hex n = record {
  some = omega (arith, length_hex 8 n);
  few = omega (arith, length_hex 8 n);
  atoms = All-weaker (λ c. hex_digit c ≡ true) (λ c. atom c ≡ true) (λ c h. grind (arith, nat_tests)) (hex 8 n) (hexes_hex 8 n);
}

-- the form of a bearing
pub bearing_owed : (x : Float) (bs : List ℕ) → bearing_form x ≡ Some bs → (fits binary32 x ≡ true) × (held x ≡ true) × Formed 97 (hex 8 (to_bits binary32 x)) bs
bearing_owed x bs e =
    let s = cond_some (fits binary32 x && held x) (tagged 97 (hex 8 (to_bits binary32 x))) bs e in
    let p = and_parts (fits binary32 x) (held x) s.0 in
    (p.0, p.1, record { is = s.1; worded = worded_hex (to_bits binary32 x) })
