-- The numbers of an operation's line, one after another.
use Rattle.std.proofs.Common.{◌≡◌, ℕ, zero, suc, ◌<◌, cond, eqb, List, [], ◌∷◌, ◌++◌, length, get_or, Some, None, Option, sym, refl, ap, ◌∙◌, arith}
use Rattle.std.specs.List.{slice_split, onto_first}
use Rattle.text.specs.Cut.{onto, cut}
use Rattle.text.specs.Number.{numeral}
use Rattle.sheet.specs.Lines.{and_then, all_numbers}

onto_same : (b : ℕ) (ps : List (List ℕ)) → onto b ps ≡ onto_first b ps
onto_same b [] = refl
onto_same b (p ∷ ps) = refl

-- the pieces that std's `split` gives
pub split_cut : (d : ℕ) (bs : List ℕ) → slice_split (λ b. eqb b d) bs ≡ cut d bs
split_cut d [] = refl
split_cut d (b ∷ bs) =
    (λ i. cond (eqb b d) ([] ∷ split_cut d bs i) (onto_first b (split_cut d bs i)))
    ∙ ap (cond (eqb b d) ([] ∷ cut d bs)) (sym (onto_same b (cut d bs)))

none_right : (a : Option ℕ) → and_then a None ≡ None
none_right None = refl
none_right (Some n) = refl

-- a piece that is no number
pub none_all : (ps : List (List ℕ)) (i : ℕ) (p : List ℕ) → i < length ps → p ≡ get_or ps i p → numeral p ≡ None → all_numbers ps ≡ None
none_all [] i p h at e = absurd (omega arith)
none_all (q ∷ ps) zero p h at e = ap (λ x. and_then (numeral x) (all_numbers ps)) (sym at) ∙ ap (λ a. and_then a (all_numbers ps)) e
none_all (q ∷ ps) (suc i) p h at e = ap (and_then (numeral q)) (none_all ps i p (omega arith) at e) ∙ none_right (numeral q)

length_step : (a : Option ℕ) (m : Option (List ℕ)) (k : ℕ) → ((ms : List ℕ) → m ≡ Some ms → length ms ≡ k) → (ns : List ℕ) → and_then a m ≡ Some ns → length ns ≡ suc k
length_step None m k rest ns e = absurd (let z : ◌≡◌ {A = ℕ} 0 1 = cc in omega arith)
length_step (Some n) None k rest ns e = absurd (let z : ◌≡◌ {A = ℕ} 0 1 = cc in omega arith)
length_step (Some n) (Some ms) k rest ns e = let f : n ∷ ms ≡ ns = cc in sym (ap length f) ∙ ap suc (rest ms refl)

pub length_all : (ps : List (List ℕ)) (ns : List ℕ) → all_numbers ps ≡ Some ns → length ns ≡ length ps
length_all [] ns e = let f : [] ≡ ns = cc in sym (ap length f)
length_all (p ∷ ps) ns e = length_step (numeral p) (all_numbers ps) (length ps) (length_all ps) ns e

more_step : (a : Option ℕ) (m k : Option (List ℕ)) (n : ℕ) → ((ms : List ℕ) → m ≡ Some ms → k ≡ Some (ms ++ (n ∷ []))) → (ns : List ℕ) → and_then a m ≡ Some ns → and_then a k ≡ Some (ns ++ (n ∷ []))
more_step None m k n rest ns e = absurd (let z : ◌≡◌ {A = ℕ} 0 1 = cc in omega arith)
more_step (Some x) None k n rest ns e = absurd (let z : ◌≡◌ {A = ℕ} 0 1 = cc in omega arith)
more_step (Some x) (Some ms) k n rest ns e = let f : x ∷ ms ≡ ns = cc in ap (and_then (Some x)) (rest ms refl) ∙ ap (λ l. Some (l ++ (n ∷ []))) f

-- one number more
pub more_all : (ps : List (List ℕ)) (p : List ℕ) (n : ℕ) → numeral p ≡ Some n → (ns : List ℕ) → all_numbers ps ≡ Some ns → all_numbers (ps ++ (p ∷ [])) ≡ Some (ns ++ (n ∷ []))
more_all [] p n is ns e = let f : [] ≡ ns = cc in ap (λ a. and_then a (Some [])) is ∙ ap (λ l. Some (l ++ (n ∷ []))) f
more_all (q ∷ ps) p n is ns e = more_step (numeral q) (all_numbers ps) (all_numbers (ps ++ (p ∷ []))) n (more_all ps p n is) ns e
