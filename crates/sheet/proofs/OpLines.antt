-- An operation's line: its letter, and how many numbers follow it.
use Rattle.std.proofs.Common.{◌≡◌, ℕ, ◌-◌, ◌<◌, ◌≤◌, Bool, false, cond, eqb, List, [], ◌∷◌, length, get_or, take, drop, Some, None, Ok, Err, codes, Option, Result, sym, refl, ap, ◌∙◌, ⊎_elim, arith}
use Rattle.std.proofs.lemmas.List.{take_all}
use Rattle.std.proofs.lemmas.Bool.{cond-true, cond-false, eq-eqb, ne_eqb, and_right, cases_eq}
use Rattle.text.specs.Cut.{onto, cut}
use Rattle.text.specs.Frame.{framed}
use Rattle.value.specs.declared.codes.Fault.{Fault}
use Rattle.value.specs.declared.codes.Fault.TheVariants.{Form}
use Rattle.program.specs.declared.Op.{Op}
use Rattle.sheet.specs.Content.{Content}
use Rattle.sheet.specs.Lines.{where_some, all_numbers, lettered, op_line, op_on, op_in}
use Rattle.sheet.specs.Operations.{suits, operation}

skip : {A : Type 0} (b : Bool) (x y z : A) → b ≡ false → y ≡ z → cond b x y ≡ z
skip b x y z e f = cond-false b x y e ∙ f

-- no operation has more than four numbers
crowded : (cells consts l : ℕ) (args : List ℕ) → 4 < length args → operation cells consts l args ≡ Err Form
crowded cells consts l args h =
    let no_fit : (c n : ℕ) → n ≤ 4 → suits l args c n ≡ false = λ c n k. and_right (eqb l c) (eqb (length args) n) (ne_eqb (length args) n (λ e. omega arith)) in
    skip _ _ _ _ (no_fit 114 2 (omega arith)) (skip _ _ _ _ (no_fit 119 2 (omega arith)) (skip _ _ _ _ (no_fit 107 2 (omega arith)) (skip _ _ _ _ (no_fit 97 4 (omega arith)) (skip _ _ _ _ (no_fit 106 1 (omega arith)) (skip _ _ _ _ (no_fit 122 2 (omega arith)) (skip _ _ _ _ (no_fit 98 1 (omega arith)) (skip _ _ _ _ (no_fit 115 1 (omega arith)) (skip _ _ _ _ (no_fit 108 0 (omega arith)) (skip _ _ _ _ (no_fit 101 0 (omega arith)) (skip _ _ _ _ (no_fit 112 1 (omega arith)) (skip _ _ _ _ (no_fit 117 1 (omega arith)) (skip _ _ _ _ (no_fit 102 0 (omega arith)) refl))))))))))))

crowd : (cells consts l : ℕ) (m : Option (List ℕ)) → ((ns : List ℕ) → m ≡ Some ns → 4 < length ns) → where_some m (operation cells consts l) (Err Form) ≡ Err Form
crowd cells consts l None t = refl
crowd cells consts l (Some ns) t = crowded cells consts l ns (t ns refl)

-- no operation is written by a space
spaced : (cells consts : ℕ) (m : Option (List ℕ)) → where_some m (operation cells consts 32) (Err Form) ≡ Err Form
spaced cells consts None = refl
spaced cells consts (Some ns) = refl

abbrev after : List ℕ → List ℕ
after inside = take (length inside - 2) (drop 2 inside)

-- a letter, a space, and what follows them
letter_first : (cells consts : ℕ) (inside : List ℕ) → 2 ≤ length inside → get_or inside 1 0 ≡ 32 → lettered cells consts (cut 32 inside) ≡ where_some (all_numbers (cut 32 (after inside))) (operation cells consts (get_or inside 0 0)) (Err Form)
letter_first cells consts [] h e = absurd (omega arith)
letter_first cells consts (a ∷ []) h e = absurd (omega arith)
letter_first cells consts (a ∷ b ∷ rest) h e =
    let whole : after (a ∷ b ∷ rest) ≡ rest = take_all _ rest (omega arith) in
    let second : cut 32 (b ∷ rest) ≡ [] ∷ cut 32 rest = cond-true (eqb b 32) ([] ∷ cut 32 rest) _ (eq-eqb b 32 e) in
    let right : List ℕ → Result Op Fault = λ r. where_some (all_numbers (cut 32 r)) (operation cells consts a) (Err Form) in
    ⊎_elim
    (λ (y : a ≡ 32).
    ap (lettered cells consts) (cond-true (eqb a 32) ([] ∷ cut 32 (b ∷ rest)) _ (eq-eqb a 32 y))
    ∙ (sym (spaced cells consts (all_numbers (cut 32 rest))) ∙ ((λ i. where_some (all_numbers (cut 32 rest)) (operation cells consts (sym y i)) (Err Form)) ∙ ap right (sym whole))))
    (λ (n : a ≡ 32 → ⊥).
    ap (lettered cells consts) (cond-false (eqb a 32) ([] ∷ cut 32 (b ∷ rest)) _ (ne_eqb a 32 n) ∙ ap (onto a) second)
    ∙ ap right (sym whole))
    (cases_eq a 32)

module _ (cells consts : ℕ) (line inside : List ℕ) (is : framed (codes "(") line ≡ Some inside) (some : 2 ≤ length inside) (space : get_or inside 1 0 ≡ 32) where
  opened : op_line cells consts line ≡ where_some (all_numbers (cut 32 (after inside))) (operation cells consts (get_or inside 0 0)) (Err Form)
  opened = ap (λ o. where_some o (λ i. lettered cells consts (cut 32 i)) (Err Form)) is ∙ letter_first cells consts inside some space

  pub with_numbers : (ns : List ℕ) → all_numbers (cut 32 (after inside)) ≡ Some ns → op_line cells consts line ≡ operation cells consts (get_or inside 0 0) ns
  with_numbers ns e = opened ∙ ap (λ m. where_some m (operation cells consts (get_or inside 0 0)) (Err Form)) e

  pub no_numbers : ((ns : List ℕ) → all_numbers (cut 32 (after inside)) ≡ Some ns → 4 < length ns) → op_line cells consts line ≡ Err Form
  no_numbers t = opened ∙ crowd cells consts (get_or inside 0 0) (all_numbers (cut 32 (after inside))) t

module _ {V : Type 0} (s : Content V) (line : List ℕ) (some : length s.code ≡ 0 → ⊥) where
  pub op_accepted : (op : Op) → op_line (length s.cells) (length s.consts) line ≡ Ok op → op_in s line ≡ op_on s (Ok op)
  op_accepted op e = cond-false _ _ _ (ne_eqb (length s.code) 0 some) ∙ ap (op_on s) e
