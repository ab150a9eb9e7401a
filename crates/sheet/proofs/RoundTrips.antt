-- The round trips, as the answers of reading and writing have them.
use Rattle.std.proofs.Common.{◌≡◌, ℕ, Bool, true, false, leb, List, ◌++◌, length, take, drop, IfOk, Ok, Err, Option, Result, sym, refl, ap, ◌∙◌, arith, MatchResult}
use Rattle.std.proofs.lemmas.List.{take_at}
use Rattle.std.proofs.lemmas.Bool.{cond-true, cond-false, and_from}
use Rattle.text.specs.Tokens.{Tok}
use Rattle.value.specs.declared.codes.Fault.{Fault}
use Rattle.sheet.specs.declared.kept.Sheet.{Sheet}
use Rattle.sheet.specs.declared.parts.Refusal.{Refusal}
use Rattle.sheet.specs.declared.parts.Refusal.TheVariants.{Unlawful, OutputShort}
use Rattle.sheet.specs.Content.{Content}
use Rattle.sheet.specs.Laws.{WritesBack, ReadsBack}
use Rattle.sheet.specs.Reading.{read_text}
use Rattle.sheet.specs.Sheets.{content}
use Rattle.sheet.specs.Writing.{lawful, written, write_answer, write_out}
use Rattle.sheet.proofs.Places.{LawfulKind}
use Rattle.sheet.proofs.ReadThere.{read-writes-back}
use Rattle.sheet.proofs.WrittenBack.{written-reads-back}

module _ {V : Type 0} (form : V → Option (List ℕ)) (reads : List Tok → Result V Fault) (law : LawfulKind form reads) where
  pub read_back : (bs : List ℕ) (r : Result (Sheet V) Refusal) → MatchResult r (λ s. read_text reads bs ≡ Ok (content s)) (λ e. read_text reads bs ≡ Err e) → IfOk r (λ s. WritesBack form bs (content s))
  read_back bs (Ok s) e = read-writes-back form reads law bs (content s) e
  read_back bs (Err e) f = tt

  -- an answer that is a length was given where all is lawful and fits
  fitting : (s : Content V) (out : List ℕ) (n : ℕ) (ok few : Bool) → lawful form s ≡ ok → leb (length (written form s)) (length out) ≡ few → Ok n ≡ write_answer form s out → (ok ≡ true) × (few ≡ true) × (n ≡ length (written form s))
  fitting s out n true true e f a =
      let is : Ok n ≡ Ok (length (written form s)) = a ∙ (cond-true _ _ _ e ∙ cond-true _ _ _ f) in
      (refl, refl, cc)
  fitting s out n true false e f a =
      let is : Ok n ≡ Err OutputShort = a ∙ (cond-true _ _ _ e ∙ cond-false _ _ _ f) in
      absurd (let z : ◌≡◌ {A = ℕ} 0 1 = cc in omega arith)
  fitting s out n false few e f a =
      let is : Ok n ≡ Err Unlawful = a ∙ cond-false _ _ _ e in
      absurd (let z : ◌≡◌ {A = ℕ} 0 1 = cc in omega arith)

  pub write-back : (s : Content V) (out next : List ℕ) (r : Result ℕ Refusal) → r ≡ write_answer form s out → next ≡ write_out form s out → IfOk r (λ n. ReadsBack reads s (take n next))
  write-back s out next (Err e) a b = tt
  write-back s out next (Ok n) a b = λ sound.
      let fit = fitting s out n (lawful form s) (leb (length (written form s)) (length out)) refl refl a in
      let laid : next ≡ written form s ++ drop (length (written form s)) out = b ∙ cond-true _ _ _ (and_from (lawful form s) _ fit.0 fit.1) in
      let front : take n next ≡ written form s = ap (take n) laid ∙ take_at (written form s) _ n (sym fit.2) in
      ap (read_text reads) front ∙ written-reads-back form reads law s sound fit.0
