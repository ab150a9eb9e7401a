-- The line that is written of an item has no line feed, is taken where the item fits, and adds just that item.
use Rattle.std.proofs.Common.{◌≡◌, ℕ, ◌<◌, ◌≤◌, true, List, [], ◌∷◌, ◌++◌, length, Some, Ok, decimal, sum_by, Option, Result, sym, refl, ap, ◌∙◌, subst, arith, lit<}
use Rattle.std.specs.List.{flat_map}
use Rattle.std.proofs.ByRecursion.{All-append, All-weaker}
use Rattle.std.proofs.lemmas.Bool.{cond-true, cond-false, and_from, eq-eqb, ne_eqb, le-leb, lt-ltb}
use Rattle.text.specs.Number.{numeral}
use Rattle.text.specs.Tokens.{Tok}
use Rattle.value.specs.Forms.{Plain, Bracketed}
use Rattle.value.specs.declared.codes.Fault.{Fault}
use Rattle.program.specs.declared.Mode.{Mode}
use Rattle.program.specs.declared.Mode.TheVariants.{Protected, Unprotected}
use Rattle.program.specs.declared.Op.{Op}
use Rattle.program.specs.declared.Op.TheVariants.{Finish, Read, Write, Constant, Apply, Jump, JumpIfFalse, Await, Start, Leave, Enter, Protect, Unprotect}
use Rattle.sheet.specs.Content.{Content, with_cell, with_const, with_task, with_op}
use Rattle.sheet.specs.Operations.{numbers}
use Rattle.sheet.specs.Lines.{cell_head, const_head, task_head, where_some, cell_on, cell_in, const_on, const_in, task_on, op_on, op_in, judged}
use Rattle.sheet.specs.Writing.{spaced}
use Rattle.sheet.specs.Laws.{given}
use Rattle.sheet.proofs.Rejoined.{Without, without_from_lacks}
use Rattle.sheet.proofs.Frames.{framed_frame}
use Rattle.sheet.proofs.Numbers.{numeral_decimal, decimal_without}
use Rattle.sheet.proofs.OpLetters.{Whole, Low}
use Rattle.sheet.proofs.OpTexts.{op_body, own_line, letter-low}
use Rattle.sheet.proofs.Places.{LawfulKind, read_form}

where_found : {A B : Type 0} (o : Option A) (x : A) (f : A → B) (y : B) → o ≡ Some x → where_some o f y ≡ f x
where_found o x f y e = ap (λ p. where_some p f y) e

-- no line feed in the bytes of a line
pub bracketed_without : (bs : List ℕ) → Bracketed bs → Without 10 bs
bracketed_without bs b =
    subst (Without 10) (sym b.is) ((λ e. omega arith), All-append (λ c. c ≡ 10 → ⊥) b.inside (41 ∷ []) (All-weaker Plain (λ c. c ≡ 10 → ⊥) (λ c p. p.2) b.inside b.plain) ((λ e. omega arith), tt))

pub framed_without : (head mid : List ℕ) → Without 10 head → Without 10 mid → Without 10 (head ++ (mid ++ (41 ∷ [])))
framed_without head mid h m = All-append _ head (mid ++ (41 ∷ [])) h (All-append _ mid (41 ∷ []) m ((λ e. omega arith), tt))

pub head_without : (m : Mode) → Without 10 (cell_head m)
head_without Protected = without_from_lacks 10 (cell_head Protected) refl
head_without Unprotected = without_from_lacks 10 (cell_head Unprotected) refl

spaced_without : (ns : List ℕ) → Low ns → Without 10 (flat_map spaced ns)
spaced_without [] h = tt
spaced_without (n ∷ ns) h = ((λ e. omega arith), All-append _ (decimal n) (flat_map spaced ns) (decimal_without 10 (lit< tt) n (omega (arith, h.0))) (spaced_without ns h.1))

pub body_without : (op : Op) → Low (numbers op) → Without 10 (op_body op)
body_without op h =
    ((λ e. omega arith), ((λ e. omega (arith, letter-low op)), All-append _ (flat_map spaced (numbers op)) (41 ∷ []) (spaced_without (numbers op) h) ((λ e. omega arith), tt)))

module _ {V : Type 0} {form : V → Option (List ℕ)} {reads : List Tok → Result V Fault} (law : LawfulKind form reads) where
  cell-taken : (s : Content V) (m : Mode) (v : V) (place : List ℕ) → s.consts ≡ [] → s.code ≡ [] → length s.cells < 64 → form v ≡ Some place → cell_in reads s m place ≡ Ok (with_cell s m v)
  cell-taken s m v place no-consts no_code room f =
      cond-true _ _ _ (and_from _ _ (eq-eqb _ 0 (ap length no-consts)) (eq-eqb _ 0 (ap length no_code)))
      ∙ (ap (cell_on s m) (read_form law v place f) ∙ cond-true _ _ _ (lt-ltb _ 64 room))

  pub cell-judged : (s : Content V) (m : Mode) (v : V) (place : List ℕ) → s.consts ≡ [] → s.code ≡ [] → length s.cells < 64 → form v ≡ Some place → judged reads s (cell_head m ++ (place ++ (41 ∷ []))) ≡ Ok (with_cell s m v)
  cell-judged s Protected v place a b room f =
      where_found _ place (cell_in reads s Protected) _ (framed_frame (cell_head Protected) place) ∙ cell-taken s Protected v place a b room f
  cell-judged s Unprotected v place a b room f =
      where_found _ place (cell_in reads s Unprotected) _ (framed_frame (cell_head Unprotected) place) ∙ cell-taken s Unprotected v place a b room f

  pub const_judged : (s : Content V) (v : V) (place : List ℕ) → s.code ≡ [] → length s.consts < 64 → form v ≡ Some place → judged reads s (const_head ++ (place ++ (41 ∷ []))) ≡ Ok (with_const s v)
  const_judged s v place no_code room f =
      where_found _ place (const_in reads s) _ (framed_frame const_head place)
      ∙ (cond-true _ _ _ (eq-eqb _ 0 (ap length no_code)) ∙ (ap (const_on s) (read_form law v place f) ∙ cond-true _ _ _ (lt-ltb _ 64 room)))

module _ {V : Type 0} (reads : List Tok → Result V Fault) where
  pub task-judged : (s : Content V) (n : ℕ) → n ≤ 255 → length s.code < 16 → judged reads s (task_head ++ (decimal n ++ (41 ∷ []))) ≡ Ok (with_task s n)
  task-judged s n small room =
      where_found _ (decimal n) (λ part. task_on s (numeral part)) _ (framed_frame task_head (decimal n))
      ∙ (ap (task_on s) (numeral_decimal n (omega arith)) ∙ (cond-true _ _ _ (le-leb n 255 small) ∙ cond-true _ _ _ (lt-ltb _ 16 room)))

  -- no operation's line looks like another item's
  op_alone : (s : Content V) (op : Op) → judged reads s (op_body op) ≡ op_in s (op_body op)
  op_alone s Finish = refl
  op_alone s (Read d c) = refl
  op_alone s (Write c r) = refl
  op_alone s (Constant d n) = refl
  op_alone s (Apply o d i j) = refl
  op_alone s (Jump n) = refl
  op_alone s (JumpIfFalse r n) = refl
  op_alone s (Await r) = refl
  op_alone s (Start t) = refl
  op_alone s Leave = refl
  op_alone s Enter = refl
  op_alone s (Protect c) = refl
  op_alone s (Unprotect c) = refl

  pub op_judged : (s : Content V) (op : Op) → given (length s.cells) (length s.consts) op ≡ true → Whole op → Low (numbers op) → 0 < length s.code → sum_by length s.code < 1024 → judged reads s (op_body op) ≡ Ok (with_op s op)
  op_judged s op g w h some room =
      op_alone s op
      ∙ (cond-false _ _ _ (ne_eqb (length s.code) 0 (λ e. omega arith)) ∙ (ap (op_on s) (own_line _ _ op g w h) ∙ cond-true _ _ _ (lt-ltb _ 1024 room)))
