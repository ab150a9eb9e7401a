-- Frames of lines: the front and the closing bracket, as the library strips them.
use Rattle.std.proofs.Common.{◌≡◌, ℕ, ◌+◌, ◌-◌, true, false, ◌&&◌, eqb, ltb, List, [], ◌∷◌, length, get_or, take, drop, Option, None, Some, MatchOption, Bor, refl, ap, ◌∙◌, arith}
use Rattle.std.specs.Cmp.Lexicographic.{pointwise}
use Rattle.std.specs.Option.{option_map}
use Rattle.std.proofs.lemmas.List.{drop_more, drop_all, get_or-drop}
use Rattle.std.proofs.lemmas.Bool.Decides.{nat_tests}
use Rattle.text.specs.Frame.{begins, framed}

begins_stripped : (hs line : List ℕ) → begins hs line ≡ pointwise eqb (take (length hs) line) hs
begins_stripped [] line = refl
begins_stripped (h ∷ hs) [] = refl
begins_stripped (h ∷ hs) (b ∷ bs) = grind (arith, nat_tests, begins_stripped hs bs)

-- whether a bracket closes what stands after the front
closes : (head line rest : List ℕ) → rest ≡ drop (length head) line → length rest + length head ≡ length line → pointwise eqb (drop (length rest - 1) rest) (41 ∷ []) ≡ (ltb (length head) (length line) && eqb (get_or line (length line - 1) 0) 41)
closes head line [] is l = grind (arith, nat_tests)
closes head line (b ∷ bs) is l =
    let at : length (b ∷ bs) - 1 ≡ length bs = omega arith in
    let last : drop (length bs) (b ∷ bs) ≡ get_or (b ∷ bs) (length bs) 0 ∷ [] = drop_more (b ∷ bs) (length bs) 0 (omega arith) ∙ ap (λ l. get_or (b ∷ bs) (length bs) 0 ∷ l) (drop_all (length bs + 1) (b ∷ bs) (omega arith)) in
    let same : get_or (b ∷ bs) (length bs) 0 ≡ get_or line (length line - 1) 0 = ap (λ l. get_or l (length bs) 0) is ∙ (get_or-drop (length head) line (length bs) 0 ∙ ap (λ i. get_or line i 0) (omega arith)) in
    ap (λ k. pointwise eqb (drop k (b ∷ bs)) (41 ∷ [])) at ∙ (ap (λ l. pointwise eqb l (41 ∷ [])) last ∙ grind (arith, nat_tests))

pub unframed : (head line : List ℕ) → pointwise eqb (take (length head) line) head ≡ false → None ≡ framed head line
unframed head line e = grind (arith, nat_tests, begins_stripped head line)

pub closed : (head line rest : List ℕ) (r : Option (Bor (List ℕ)))
    → (pointwise eqb (take (length head) line) head ≡ true) × (rest ≡ drop (length head) line) × (length rest + length head ≡ length line)
    → MatchOption r (pointwise eqb (drop (length rest - 1) rest) (41 ∷ []) ≡ false) (λ x. (pointwise eqb (drop (length rest - 1) rest) (41 ∷ []) ≡ true) × (x.now ≡ take (length rest - 1) rest) × (length x.now + 1 ≡ length rest))
    → option_map (λ x. x.now) r ≡ framed head line
closed head line rest None h m = grind (arith, nat_tests, begins_stripped head line, closes head line rest h.1 h.2)
closed head line rest (Some x) h m = grind (arith, nat_tests, begins_stripped head line, closes head line rest h.1 h.2)
