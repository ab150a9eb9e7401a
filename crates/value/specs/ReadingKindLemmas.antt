-- The laws of readings as a kind of value.
use Rattle.std.specs.Prelude.{◌≡◌, ℕ, ◌≤◌, length, Bool, true, false, cond, List, [], ◌∷◌, Some, None, Ok, Option, refl}
use Rattle.std.proofs.Common.{sym, ap, ◌∙◌, subst, arith}
use Rattle.std.specs.List.{flat_map}
use Rattle.text.specs.Tokens.{Tok, text, lexed}
use Rattle.value.specs.declared.readings.Reading.{Reading}
use Rattle.value.specs.declared.readings.Reading.TheVariants.{Blank, Count, Bearing}
use Rattle.value.specs.Answers.{answered}
use Rattle.value.specs.Bearings.{bearing_at}
use Rattle.value.specs.Counts.{integer}
use Rattle.value.specs.Forms.{Bracketed, tagged_part, lone}
use Rattle.value.specs.Hex.{hexed}
use Rattle.value.specs.Operations.{answer}
use Rattle.value.specs.Readings.{reading_form, reading_at, reading_reads}
use Rattle.value.specs.Floats.{bearing_back, bearing_there}
use Rattle.value.specs.Laws as laws
use Rattle.value.specs.Places.{joined_tagged, joined_lone}
use Rattle.value.specs.Signs.{integer_signed}

pub short : (v : Reading) (bs : List ℕ) → reading_form v ≡ Some bs → length bs ≤ 16
short Blank bs e = let f : 40 ∷ 101 ∷ 41 ∷ [] ≡ bs = cc in subst (λ l. length l ≤ 16) f (omega arith)
short (Count z) bs e = laws.short (laws.count_owed z bs e).1
short (Bearing x) bs e = laws.short (laws.bearing_owed x bs e).2

pub bracketed : (v : Reading) (bs : List ℕ) → reading_form v ≡ Some bs → Bracketed bs
bracketed Blank bs e =
    let f : 40 ∷ 101 ∷ 41 ∷ [] ≡ bs = cc in
    subst Bracketed f (record { inside = 101 ∷ []; is = refl; plain = (((λ e. omega arith), (λ e. omega arith), (λ e. omega arith)), tt) })
bracketed (Count z) bs e = laws.bracketed refl (laws.count_owed z bs e).1
bracketed (Bearing x) bs e = laws.bracketed refl (laws.bearing_owed x bs e).2

-- a reading's form is read as the reading
pub back : (v : Reading) (bs : List ℕ) → reading_form v ≡ Some bs → reading_reads (lexed bs) ≡ Ok v
back Blank bs e = let f : 40 ∷ 101 ∷ 41 ∷ [] ≡ bs = cc in ap (λ l. reading_reads (lexed l)) (sym f)
back (Count z) bs e =
    let o = laws.count_owed z bs e in
    laws.read_as reading_reads (λ r. reading_at r None) o.1 refl (λ t. refl) ∙ ap (answer Count) (integer_signed z o.0)
back (Bearing x) bs e =
    let o = laws.bearing_owed x bs e in
    laws.read_as reading_reads (reading_at None) o.2 refl (λ t. refl) ∙ ap (answer Bearing) (bearing_back x o.0 o.1)

-- what is read as a reading is its form
pub by_part : (v : Reading) (ts : List Tok) (n a : Option (List ℕ)) → tagged_part 110 ts ≡ n → tagged_part 97 ts ≡ a → reading_at n a ≡ Ok v → reading_form v ≡ Some (flat_map text ts)
by_part v ts (Some part) a t u e =
    let r = answered Count (integer part) v e in
    ap reading_form (sym r.2) ∙ laws.count_there r.0 ts part t r.1
by_part v ts None (Some part) t u e =
    let r = answered Bearing (bearing_at (hexed part)) v e in
    ap reading_form (sym r.2) ∙ (bearing_there part (hexed part) r.0 refl r.1 ∙ ap Some (sym (joined_tagged 97 ts part u)))
by_part v ts None None t u e = absurd cc

pub there : (v : Reading) (ts : List Tok) (b : Bool) → lone 101 ts ≡ b → cond b (Ok Blank) (reading_at (tagged_part 110 ts) (tagged_part 97 ts)) ≡ Ok v → reading_form v ≡ Some (flat_map text ts)
there v ts true l e = let f : Blank ≡ v = cc in ap reading_form (sym f) ∙ ap Some (sym (joined_lone 101 ts l))
there v ts false l e = by_part v ts (tagged_part 110 ts) (tagged_part 97 ts) refl refl e
