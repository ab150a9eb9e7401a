-- Operations by their letters and numbers: each is read from its own, and from no others unless a number was cut down.
use Rattle.std.proofs.Common.{◌≡◌, ℕ, ◌<◌, ◌≤◌, min, Bool, true, false, cond, eqb, ltb, List, [], ◌∷◌, length, Some, None, Ok, Option, Result, sym, refl, ap, ◌∙◌, subst, arith, lit<, lit≤}
use Rattle.std.specs.List.{AllByRecursion}
use Rattle.std.proofs.lemmas.Bool.{cond-true, and_parts, eqb-true, ltb-true, leb-true}
use Rattle.std.proofs.lemmas.Bool.Decides.{nat_tests}
use Rattle.value.specs.Codes.{operation_number, operation_at}
use Rattle.value.specs.declared.codes.Fault.{Fault}
use Rattle.value.specs.declared.codes.Fault.TheVariants.{Bound}
use Rattle.value.specs.declared.codes.Operation.{Operation}
use Rattle.value.specs.declared.codes.Operation.TheVariants.{Sum, Difference, Smaller, Equal, Less, Quotient}
use Rattle.program.specs.declared.Op.{Op}
use Rattle.program.specs.declared.Op.TheVariants.{Finish, Read, Write, Constant, Apply, Jump, JumpIfFalse, Await, Start, Leave, Enter, Protect, Unprotect}
use Rattle.sheet.specs.Operations.{letter, numbers, register, target, started, bounded, applied, at, suits, operation}
use Rattle.sheet.specs.Ends.{lands}
use Rattle.sheet.specs.Laws.{given}
use Rattle.sheet.proofs.Answered.{same_answer, passed}

-- no number of the operation is one that numbers past it are cut down to
abbrev pub Whole : Op → Type 0
Whole Finish = Unit {0}
Whole (Read d c) = Unit {0}
Whole (Write c s) = Unit {0}
Whole (Constant d n) = Unit {0}
Whole (Apply o d i j) = Unit {0}
Whole (Jump n) = n < 65535
Whole (JumpIfFalse s n) = n < 65535
Whole (Await s) = Unit {0}
Whole (Start t) = t < 255
Whole Leave = Unit {0}
Whole Enter = Unit {0}
Whole (Protect c) = Unit {0}
Whole (Unprotect c) = Unit {0}

whole_min : (n k : ℕ) → n < k → min n k ≡ n
whole_min n k h = omega arith

min_whole : (n k : ℕ) → min n k < k → min n k ≡ n
min_whole n k h = omega arith

operation_at-number : (o : Operation) → operation_at (operation_number o) ≡ Some o
operation_at-number Sum = refl
operation_at-number Difference = refl
operation_at-number Smaller = refl
operation_at-number Equal = refl
operation_at-number Less = refl
operation_at-number Quotient = refl

pub own_operation : (cells consts : ℕ) (op : Op) → given cells consts op ≡ true → Whole op → operation cells consts (letter op) (numbers op) ≡ Ok op
own_operation cells consts Finish g w = refl
own_operation cells consts (Read d c) g w = cond-true _ _ _ g
own_operation cells consts (Write c s) g w = cond-true _ _ _ g
own_operation cells consts (Constant d n) g w = cond-true _ _ _ g
own_operation cells consts (Apply o d i j) g w = ap (λ x. applied x d i j) (operation_at-number o) ∙ cond-true _ _ _ g
own_operation cells consts (Jump n) g w = ap (λ k. Ok (Jump k)) (whole_min n 65535 w)
own_operation cells consts (JumpIfFalse s n) g w = cond-true _ _ _ g ∙ ap (λ k. Ok (JumpIfFalse s k)) (whole_min n 65535 w)
own_operation cells consts (Await s) g w = cond-true _ _ _ g
own_operation cells consts (Start t) g w = ap (λ k. Ok (Start k)) (whole_min t 255 w)
own_operation cells consts Leave g w = refl
own_operation cells consts Enter g w = refl
own_operation cells consts (Protect c) g w = cond-true _ _ _ g
own_operation cells consts (Unprotect c) g w = cond-true _ _ _ g

-- what the letter and the numbers of an operation that is read say of it
pub record From (cells consts l : ℕ) (args : List ℕ) (op : Op) : Type 0 where
  pub is_given : given cells consts op ≡ true
  pub same_letter : letter op ≡ l
  pub same_numbers : Whole op → numbers op ≡ args

suited : (l : ℕ) (args : List ℕ) (c n : ℕ) → suits l args c n ≡ true → (c ≡ l) × (length args ≡ n)
suited l args c n e = let p = and_parts (eqb l c) (eqb (length args) n) e in (sym (eqb-true l c p.0), eqb-true _ n p.1)

pub none_of : (xs : List ℕ) → length xs ≡ 0 → [] ≡ xs
none_of [] h = refl
none_of (x ∷ xs) h = absurd (omega arith)

pub one_of : (xs : List ℕ) → length xs ≡ 1 → at xs 0 ∷ [] ≡ xs
one_of [] h = absurd (omega arith)
one_of (x ∷ xs) h = ap (λ l. x ∷ l) (none_of xs (omega arith))

two_of : (xs : List ℕ) → length xs ≡ 2 → at xs 0 ∷ at xs 1 ∷ [] ≡ xs
two_of [] h = absurd (omega arith)
two_of (x ∷ xs) h = ap (λ l. x ∷ l) (one_of xs (omega arith))

four_of : (xs : List ℕ) → length xs ≡ 4 → at xs 0 ∷ at xs 1 ∷ at xs 2 ∷ at xs 3 ∷ [] ≡ xs
four_of [] h = absurd (omega arith)
four_of (x ∷ []) h = absurd (omega arith)
four_of (x ∷ y ∷ xs) h = ap (λ l. x ∷ y ∷ l) (two_of xs (omega arith))

-- the two ways of a test, where the answer is an operation
ways : {P : Type 0} (b : Bool) (x y : Result Op Fault) (op : Op) → (b ≡ true → x ≡ Ok op → P) → (y ≡ Ok op → P) → cond b x y ≡ Ok op → P
ways true x y op here on e = here refl e
ways false x y op here on e = on e

was_number : (n : ℕ) (o : Operation) → operation_at n ≡ Some o → operation_number o ≡ n
was_number n o e = grind (arith, nat_tests)

module _ (cells consts l : ℕ) (args : List ℕ) (op : Op) where
  -- an operation whose numbers are those that stand there
  plain : (o : Op) (n : ℕ) → suits l args (letter o) n ≡ true → (length args ≡ n → numbers o ≡ args) → given cells consts o ≡ true → o ≡ op → From cells consts l args op
  plain o n s same g e =
      let p = suited l args (letter o) n s in
      subst (From cells consts l args) e (record { is_given = g; same_letter = p.0; same_numbers = λ w. same p.1 })

  bound : (o : Op) (n : ℕ) → suits l args (letter o) n ≡ true → (length args ≡ n → numbers o ≡ args) → bounded (given cells consts o) o ≡ Ok op → From cells consts l args op
  bound o n s same e = let h = passed _ _ Bound op e in plain o n s same h.0 (same_answer o op h.1)

  apply_from : (o : Option Operation) → operation_at (at args 0) ≡ o → suits l args 97 4 ≡ true → applied o (at args 1) (at args 2) (at args 3) ≡ Ok op → From cells consts l args op
  apply_from None is s e = absurd (let z : ◌≡◌ {A = ℕ} 0 1 = cc in omega arith)
  apply_from (Some o) is s e =
      bound (Apply o (at args 1) (at args 2) (at args 3)) 4 s (λ h. ap (λ k. k ∷ at args 1 ∷ at args 2 ∷ at args 3 ∷ []) (was_number (at args 0) o is) ∙ four_of args h) e

  jump_from : suits l args 106 1 ≡ true → Jump (target (at args 0)) ≡ op → From cells consts l args op
  jump_from s e =
      let p = suited l args 106 1 s in
      subst (From cells consts l args) e (record { is_given = refl; same_letter = p.0; same_numbers = λ w. ap (λ k. k ∷ []) (min_whole (at args 0) 65535 w) ∙ one_of args p.1 })

  jump_if_from : suits l args 122 2 ≡ true → bounded (register (at args 0)) (JumpIfFalse (at args 0) (target (at args 1))) ≡ Ok op → From cells consts l args op
  jump_if_from s e =
      let p = suited l args 122 2 s in
      let h = passed _ _ Bound op e in
      subst (From cells consts l args) (same_answer (JumpIfFalse (at args 0) (target (at args 1))) op h.1) (record { is_given = h.0; same_letter = p.0; same_numbers = λ w. ap (λ k. at args 0 ∷ k ∷ []) (min_whole (at args 1) 65535 w) ∙ two_of args p.1 })

  start_from : suits l args 115 1 ≡ true → Start (started (at args 0)) ≡ op → From cells consts l args op
  start_from s e =
      let p = suited l args 115 1 s in
      subst (From cells consts l args) e (record { is_given = refl; same_letter = p.0; same_numbers = λ w. ap (λ k. k ∷ []) (min_whole (at args 0) 255 w) ∙ one_of args p.1 })

  pub operation_from : operation cells consts l args ≡ Ok op → From cells consts l args op
  operation_from =
      ways (suits l args 114 2) _ _ op (λ s e. bound (Read (at args 0) (at args 1)) 2 s (two_of args) e)
      (ways (suits l args 119 2) _ _ op (λ s e. bound (Write (at args 0) (at args 1)) 2 s (two_of args) e)
      (ways (suits l args 107 2) _ _ op (λ s e. bound (Constant (at args 0) (at args 1)) 2 s (two_of args) e)
      (ways (suits l args 97 4) _ _ op (λ s e. apply_from (operation_at (at args 0)) refl s e)
      (ways (suits l args 106 1) _ _ op (λ s e. jump_from s (same_answer _ op e))
      (ways (suits l args 122 2) _ _ op (λ s e. jump_if_from s e)
      (ways (suits l args 98 1) _ _ op (λ s e. bound (Await (at args 0)) 1 s (one_of args) e)
      (ways (suits l args 115 1) _ _ op (λ s e. start_from s (same_answer _ op e))
      (ways (suits l args 108 0) _ _ op (λ s e. plain Leave 0 s (none_of args) refl (same_answer _ op e))
      (ways (suits l args 101 0) _ _ op (λ s e. plain Enter 0 s (none_of args) refl (same_answer _ op e))
      (ways (suits l args 112 1) _ _ op (λ s e. bound (Protect (at args 0)) 1 s (one_of args) e)
      (ways (suits l args 117 1) _ _ op (λ s e. bound (Unprotect (at args 0)) 1 s (one_of args) e)
      (ways (suits l args 102 0) _ _ op (λ s e. plain Finish 0 s (none_of args) refl (same_answer _ op e))
      (λ e. absurd (let z : ◌≡◌ {A = ℕ} 0 1 = cc in omega arith))))))))))))))

-- where tasks are short and few, an operation that lands is whole
pub whole_from_lands : (len tasks : ℕ) → len ≤ 1024 → tasks ≤ 16 → (op : Op) → lands len tasks op ≡ true → Whole op
whole_from_lands len tasks a b Finish h = tt
whole_from_lands len tasks a b (Read d c) h = tt
whole_from_lands len tasks a b (Write c s) h = tt
whole_from_lands len tasks a b (Constant d n) h = tt
whole_from_lands len tasks a b (Apply o d i j) h = tt
whole_from_lands len tasks a b (Jump n) h = omega (arith, ltb-true n len h)
whole_from_lands len tasks a b (JumpIfFalse s n) h = omega (arith, ltb-true n len h)
whole_from_lands len tasks a b (Await s) h = tt
whole_from_lands len tasks a b (Start t) h = omega (arith, ltb-true t tasks h)
whole_from_lands len tasks a b Leave h = tt
whole_from_lands len tasks a b Enter h = tt
whole_from_lands len tasks a b (Protect c) h = tt
whole_from_lands len tasks a b (Unprotect c) h = tt

-- numbers of five digits at most
abbrev pub Low : List ℕ → Type 0
Low ns = AllByRecursion (λ n. n < 100000) ns

operation_number-low : (o : Operation) → operation_number o < 100000
operation_number-low Sum = lit< tt
operation_number-low Difference = lit< tt
operation_number-low Smaller = lit< tt
operation_number-low Equal = lit< tt
operation_number-low Less = lit< tt
operation_number-low Quotient = lit< tt

register-low : (n : ℕ) → register n ≡ true → n < 100000
register-low n h = omega (arith, leb-true n 3 h)

module _ (cells consts : ℕ) (few_cells : cells ≤ 64) (few_consts : consts ≤ 64) where
  cell-low : (n : ℕ) → ltb n cells ≡ true → n < 100000
  cell-low n h = omega (arith, ltb-true n cells h)

  const_low : (n : ℕ) → ltb n consts ≡ true → n < 100000
  const_low n h = omega (arith, ltb-true n consts h)

  pub low-numbers : (op : Op) → given cells consts op ≡ true → Whole op → Low (numbers op)
  low-numbers Finish g w = tt
  low-numbers (Read d c) g w = let p = and_parts (register d) _ g in (register-low d p.0, (cell-low c p.1, tt))
  low-numbers (Write c s) g w = let p = and_parts (ltb c cells) _ g in (cell-low c p.0, (register-low s p.1, tt))
  low-numbers (Constant d n) g w = let p = and_parts (register d) _ g in (register-low d p.0, (const_low n p.1, tt))
  low-numbers (Apply o d i j) g w =
      let p = and_parts (register d) _ g in
      let q = and_parts (register i) _ p.1 in
      (operation_number-low o, (register-low d p.0, (register-low i q.0, (register-low j q.1, tt))))
  low-numbers (Jump n) g w = (omega arith, tt)
  low-numbers (JumpIfFalse s n) g w = (register-low s g, (omega arith, tt))
  low-numbers (Await s) g w = (register-low s g, tt)
  low-numbers (Start t) g w = (omega arith, tt)
  low-numbers Leave g w = tt
  low-numbers Enter g w = tt
  low-numbers (Protect c) g w = (cell-low c g, tt)
  low-numbers (Unprotect c) g w = (cell-low c g, tt)

pub few-numbers : (op : Op) → length (numbers op) ≤ 4
few-numbers Finish = lit≤ tt
few-numbers (Read d c) = lit≤ tt
few-numbers (Write c s) = lit≤ tt
few-numbers (Constant d n) = lit≤ tt
few-numbers (Apply o d i j) = lit≤ tt
few-numbers (Jump n) = lit≤ tt
few-numbers (JumpIfFalse s n) = lit≤ tt
few-numbers (Await s) = lit≤ tt
few-numbers (Start t) = lit≤ tt
few-numbers Leave = lit≤ tt
few-numbers Enter = lit≤ tt
few-numbers (Protect c) = lit≤ tt
few-numbers (Unprotect c) = lit≤ tt
