-- An operation's line: what is read of it is the operation that writes it.
use Rattle.std.proofs.Common.{◌≡◌, ℕ, ◌≤◌, Bool, true, false, cond, eqb, List, [], ◌∷◌, ◌++◌, map, length, get_or, Some, None, Ok, Err, codes, decimal, Option, sym, refl, ap, ◌∙◌, append_assoc, arith, lit<, lit≤}
use Rattle.std.specs.List.{flat_map, AllByRecursion}
use Rattle.std.proofs.lemmas.Bool.{eqb-true}
use Rattle.value.specs.declared.codes.Fault.TheVariants.{Form}
use Rattle.program.specs.declared.Op.{Op}
use Rattle.program.specs.declared.Op.TheVariants.{Finish, Read, Write, Constant, Apply, Jump, JumpIfFalse, Await, Start, Leave, Enter, Protect, Unprotect}
use Rattle.text.specs.Cut.{cut}
use Rattle.text.specs.Frame.{framed}
use Rattle.text.specs.Number.{numeral}
use Rattle.sheet.specs.Operations.{letter, numbers, operation}
use Rattle.sheet.specs.Lines.{and_then, all_numbers, where_some, lettered, op_line}
use Rattle.sheet.specs.Writing.{spaced, op_text}
use Rattle.sheet.specs.Laws.{given}
use Rattle.sheet.proofs.Rejoined.{rejoined, Without, rejoined_cut, cut_rejoined}
use Rattle.sheet.proofs.Frames.{framed_frame, frame_from_framed}
use Rattle.sheet.proofs.Numbers.{numeral_decimal, decimal_from_numeral, decimal_without}
use Rattle.sheet.proofs.OpLetters.{Whole, Low, own_operation, operation_from, one_of}

-- numbers that are read from pieces are written as these
pieces_read : (p : List ℕ) (ps : List (List ℕ)) (ns : List ℕ) (o : Option ℕ) (os : Option (List ℕ)) → numeral p ≡ o → ((ms : List ℕ) → os ≡ Some ms → flat_map spaced ms ≡ flat_map (λ q. 32 ∷ q) ps) → and_then o os ≡ Some ns → flat_map spaced ns ≡ flat_map (λ q. 32 ∷ q) (p ∷ ps)
pieces_read p ps ns None os is rest e = absurd (let z : ◌≡◌ {A = ℕ} 0 1 = cc in omega arith)
pieces_read p ps ns (Some n) None is rest e = absurd (let z : ◌≡◌ {A = ℕ} 0 1 = cc in omega arith)
pieces_read p ps ns (Some n) (Some ms) is rest e =
    let all : ns ≡ n ∷ ms = cc in
    let front : decimal n ≡ p = sym (decimal_from_numeral p n is).0 in
    ap (flat_map spaced) all ∙ (λ i. 32 ∷ (front i ++ rest ms refl i))

numbers-read : (ps : List (List ℕ)) (ns : List ℕ) → all_numbers ps ≡ Some ns → flat_map spaced ns ≡ flat_map (λ q. 32 ∷ q) ps
numbers-read [] ns e = let none : ns ≡ [] = cc in ap (flat_map spaced) none
numbers-read (p ∷ ps) ns e = pieces_read p ps ns (numeral p) (all_numbers ps) refl (numbers-read ps) e

-- what is known of an operation read from a line
pub record OpRead (cells consts : ℕ) (line : List ℕ) (op : Op) : Type 0 where
  pub is_given : given cells consts op ≡ true
  pub text : Whole op → op_text op ≡ line ++ (10 ∷ [])

-- a line of a letter and what follows it, in brackets
framed_line : (c : ℕ) (js : List ℕ) → (40 ∷ c ∷ (js ++ (41 ∷ []))) ++ (10 ∷ []) ≡ 40 ∷ c ∷ (js ++ (41 ∷ 10 ∷ []))
framed_line c js = ap (λ l. 40 ∷ c ∷ l) (append_assoc js (41 ∷ []) (10 ∷ []))

numbered : (cells consts : ℕ) (op : Op) (line l : List ℕ) (ps : List (List ℕ)) → line ≡ 40 ∷ (rejoined 32 (l ∷ ps) ++ (41 ∷ [])) → (o : Option (List ℕ)) → all_numbers ps ≡ o → (b : Bool) → eqb (length l) 1 ≡ b → cond b (where_some o (operation cells consts (get_or l 0 0)) (Err Form)) (Err Form) ≡ Ok op → OpRead cells consts line op
numbered cells consts op line l ps is o e false one h = absurd (let z : ◌≡◌ {A = ℕ} 0 1 = cc in omega arith)
numbered cells consts op line l ps is None e true one h = absurd (let z : ◌≡◌ {A = ℕ} 0 1 = cc in omega arith)
numbered cells consts op line l ps is (Some ns) e true one h =
    let f = operation_from cells consts (get_or l 0 0) ns op h in
    let front : get_or l 0 0 ∷ [] ≡ l = one_of l (eqb-true _ 1 one) in
    record {
      is_given = f.is_given;
      text = λ w. (λ i. 40 ∷ f.same_letter i ∷ ((ap (flat_map spaced) (f.same_numbers w) ∙ numbers-read ps ns e) i ++ (41 ∷ 10 ∷ [])))
          ∙ (sym (framed_line (get_or l 0 0) (flat_map (λ q. 32 ∷ q) ps)) ∙ (ap (λ x. (40 ∷ ((x ++ flat_map (λ q. 32 ∷ q) ps) ++ (41 ∷ []))) ++ (10 ∷ [])) front ∙ ap (λ x. x ++ (10 ∷ [])) (sym is)));
    }

in_pieces : (cells consts : ℕ) (op : Op) (line : List ℕ) (ps : List (List ℕ)) → line ≡ 40 ∷ (rejoined 32 ps ++ (41 ∷ [])) → lettered cells consts ps ≡ Ok op → OpRead cells consts line op
in_pieces cells consts op line [] is h = absurd (let z : ◌≡◌ {A = ℕ} 0 1 = cc in omega arith)
in_pieces cells consts op line (l ∷ ps) is h = numbered cells consts op line l ps is (all_numbers ps) refl (eqb (length l) 1) refl h

in_frame : (cells consts : ℕ) (op : Op) (line : List ℕ) (o : Option (List ℕ)) → framed (codes "(") line ≡ o → where_some o (λ inside. lettered cells consts (cut 32 inside)) (Err Form) ≡ Ok op → OpRead cells consts line op
in_frame cells consts op line None is h = absurd (let z : ◌≡◌ {A = ℕ} 0 1 = cc in omega arith)
in_frame cells consts op line (Some inside) is h =
    in_pieces cells consts op line (cut 32 inside) (frame_from_framed (codes "(") line inside is ∙ ap (λ l. 40 ∷ (l ++ (41 ∷ []))) (sym (rejoined_cut 32 inside))) h

pub op_read : (cells consts : ℕ) (op : Op) (line : List ℕ) → op_line cells consts line ≡ Ok op → OpRead cells consts line op
op_read cells consts op line h = in_frame cells consts op line (framed (codes "(") line) refl h

-- an operation's line without its line feed
abbrev pub op_body : Op → List ℕ
op_body op = 40 ∷ letter op ∷ (flat_map spaced (numbers op) ++ (41 ∷ []))

pub op_text_body : (op : Op) → op_body op ++ (10 ∷ []) ≡ op_text op
op_text_body op = framed_line (letter op) (flat_map spaced (numbers op))

pub letter-low : (op : Op) → 97 ≤ letter op
letter-low Finish = lit≤ tt
letter-low (Read d c) = lit≤ tt
letter-low (Write c s) = lit≤ tt
letter-low (Constant d n) = lit≤ tt
letter-low (Apply o d i j) = lit≤ tt
letter-low (Jump n) = lit≤ tt
letter-low (JumpIfFalse s n) = lit≤ tt
letter-low (Await s) = lit≤ tt
letter-low (Start t) = lit≤ tt
letter-low Leave = lit≤ tt
letter-low Enter = lit≤ tt
letter-low (Protect c) = lit≤ tt
letter-low (Unprotect c) = lit≤ tt

all_decimals : (ns : List ℕ) → Low ns → all_numbers (map decimal ns) ≡ Some ns
all_decimals [] h = refl
all_decimals (n ∷ ns) h = (λ i. and_then (numeral_decimal n (omega (arith, h.0)) i) (all_decimals ns h.1 i))

spaced_pieces : (ns : List ℕ) → flat_map (λ q. 32 ∷ q) (map decimal ns) ≡ flat_map spaced ns
spaced_pieces [] = refl
spaced_pieces (n ∷ ns) = ap (λ l. spaced n ++ l) (spaced_pieces ns)

no_spaces : (ns : List ℕ) → Low ns → AllByRecursion (Without 32) (map decimal ns)
no_spaces [] h = tt
no_spaces (n ∷ ns) h = (decimal_without 32 (lit< tt) n (omega (arith, h.0)), no_spaces ns h.1)

cut_body : (op : Op) → Low (numbers op) → cut 32 (letter op ∷ flat_map spaced (numbers op)) ≡ (letter op ∷ []) ∷ map decimal (numbers op)
cut_body op h =
    ap (λ l. cut 32 (letter op ∷ l)) (sym (spaced_pieces (numbers op)))
    ∙ cut_rejoined 32 (letter op ∷ []) (map decimal (numbers op)) ((λ e. omega (arith, letter-low op)), tt) (no_spaces (numbers op) h)

pub own_line : (cells consts : ℕ) (op : Op) → given cells consts op ≡ true → Whole op → Low (numbers op) → op_line cells consts (op_body op) ≡ Ok op
own_line cells consts op g w h =
    ap (λ o. where_some o (λ inside. lettered cells consts (cut 32 inside)) (Err Form)) (framed_frame (codes "(") (letter op ∷ flat_map spaced (numbers op)))
    ∙ (ap (lettered cells consts) (cut_body op h)
    ∙ (ap (λ o. where_some o (operation cells consts (letter op)) (Err Form)) (all_decimals (numbers op) h) ∙ own_operation cells consts op g w))
