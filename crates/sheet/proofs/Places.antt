-- What a kind of value promises of its forms, and what that says of a value's place on a line.
use Rattle.std.proofs.Common.{◌≡◌, ℕ, ◌≤◌, List, length, Some, Ok, Option, Result, ap, ◌∙◌, arith}
use Rattle.std.specs.List.{flat_map}
use Rattle.text.specs.Tokens.{Tok, text, lexed, tokens}
use Rattle.text.proofs.Lexing.{lossless_tokens, tokens-short}
use Rattle.value.specs.Forms.{Bracketed}
use Rattle.value.specs.declared.codes.Fault.{Fault}

pub record LawfulKind {V : Type 0} (form : V → Option (List ℕ)) (reads : List Tok → Result V Fault) : Type 0 where
  pub short : (v : V) (bs : List ℕ) → form v ≡ Some bs → length bs ≤ 16
  pub bracketed : (v : V) (bs : List ℕ) → form v ≡ Some bs → Bracketed bs
  pub back : (v : V) (bs : List ℕ) → form v ≡ Some bs → reads (lexed bs) ≡ Ok v
  pub there : (v : V) (ts : List Tok) → reads ts ≡ Ok v → form v ≡ Some (flat_map text ts)

module _ {V : Type 0} {form : V → Option (List ℕ)} {reads : List Tok → Result V Fault} (k : LawfulKind form reads) where
  pub form_read : (v : V) (place : List ℕ) → reads (tokens place) ≡ Ok v → form v ≡ Some place
  form_read v place e = k.there v (tokens place) e ∙ ap Some (lossless_tokens place)

  pub read_form : (v : V) (place : List ℕ) → form v ≡ Some place → reads (tokens place) ≡ Ok v
  read_form v place e = ap reads (tokens-short place (omega (arith, k.short v place e))) ∙ k.back v place e
