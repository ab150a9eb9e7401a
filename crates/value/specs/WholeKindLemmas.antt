-- The laws of whole numbers as a kind of value.
use Rattle.std.specs.Prelude.{◌≡◌, ℕ, ◌≤◌, List, length, Some, None, Ok, Option, refl}
use Rattle.std.proofs.Common.{sym, ap, ◌∙◌}
use Rattle.std.specs.List.{flat_map}
use Rattle.text.specs.Tokens.{Tok, text, lexed}
use Rattle.value.specs.declared.wholes.Whole.{Whole}
use Rattle.value.specs.Answers.{answered}
use Rattle.value.specs.Counts.{integer}
use Rattle.value.specs.Forms.{Bracketed, tagged_part}
use Rattle.value.specs.Operations.{answer}
use Rattle.value.specs.Wholes.{as_whole, whole_form, whole_at, whole_reads}
use Rattle.value.specs.Laws as laws
use Rattle.value.specs.Signs.{integer_signed}

pub short : (v : Whole) (bs : List ℕ) → whole_form v ≡ Some bs → length bs ≤ 16
short v bs e = laws.short (laws.count_owed v.value bs e).1

pub bracketed : (v : Whole) (bs : List ℕ) → whole_form v ≡ Some bs → Bracketed bs
bracketed v bs e = laws.bracketed refl (laws.count_owed v.value bs e).1

-- a number's form is read as the number
pub back : (v : Whole) (bs : List ℕ) → whole_form v ≡ Some bs → whole_reads (lexed bs) ≡ Ok v
back v bs e =
    let o = laws.count_owed v.value bs e in
    laws.read_as whole_reads whole_at o.1 refl (λ t. refl) ∙ ap (answer as_whole) (integer_signed v.value o.0)

-- what is read as a number is its form
pub there : (v : Whole) (ts : List Tok) (o : Option (List ℕ)) → tagged_part 110 ts ≡ o → whole_at o ≡ Ok v → whole_form v ≡ Some (flat_map text ts)
there v ts None t e = absurd cc
there v ts (Some part) t e =
    let a = answered as_whole (integer part) v e in
    ap whole_form (sym a.2) ∙ laws.count_there a.0 ts part t a.1
