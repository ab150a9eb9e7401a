-- Frames of lines: what stands in a frame is found there, and a line in which it is found is that frame.
use Rattle.std.proofs.Common.{◌≡◌, ℕ, suc, ◌+◌, ◌-◌, ◌<◌, true, ◌&&◌, eqb, ltb, List, [], ◌∷◌, ◌++◌, length, get_or, take, drop, Some, sym, refl, ap, ◌∙◌, append_assoc, arith}
use Rattle.std.proofs.lemmas.List.{length-append, take_at, drop_at, get_or_at, length-drop, get_or-drop, get_or-append-add}
use Rattle.std.proofs.lemmas.Bool.{cond-true, and_from, and_parts, eq-eqb, eqb-true, lt-ltb, ltb-true}
use Rattle.text.specs.Frame.{begins, framed}
use Rattle.sheet.proofs.Answered.{found}

begins_front : (hs bs : List ℕ) → begins hs (hs ++ bs) ≡ true
begins_front [] bs = refl
begins_front (h ∷ hs) bs = and_from _ _ (eq-eqb h h refl) (begins_front hs bs)

front_from_begins : (hs line : List ℕ) → begins hs line ≡ true → line ≡ hs ++ drop (length hs) line
front_from_begins [] line e = refl
front_from_begins (h ∷ hs) [] e = absurd (grind arith)
front_from_begins (h ∷ hs) (b ∷ bs) e =
    let p = and_parts (eqb h b) (begins hs bs) e in
    λ i. sym (eqb-true h b p.0) i ∷ front_from_begins hs bs p.1 i

-- a list that ends with b
ended_with : (xs : List ℕ) (b : ℕ) → 0 < length xs → get_or xs (length xs - 1) 0 ≡ b → xs ≡ take (length xs - 1) xs ++ (b ∷ [])
ended_with [] b h e = absurd (omega arith)
ended_with (x ∷ []) b h e = ap (λ y. y ∷ []) e
ended_with (x ∷ y ∷ xs) b h e =
    let n : length (x ∷ y ∷ xs) - 1 ≡ suc (length (y ∷ xs) - 1) = omega arith in
    let f : get_or (y ∷ xs) (length (y ∷ xs) - 1) 0 ≡ b = ap (λ k. get_or (x ∷ y ∷ xs) k 0) (sym n) ∙ e in
    ap (λ l. x ∷ l) (ended_with (y ∷ xs) b (omega arith) f) ∙ ap (λ k. take k (x ∷ y ∷ xs) ++ (b ∷ [])) (sym n)

last_index : (a b n : ℕ) → n ≡ a + (b + 1) → n - 1 ≡ a + b
last_index a b n e = omega arith

pub framed_frame : (head mid : List ℕ) → framed head (head ++ (mid ++ (41 ∷ []))) ≡ Some mid
framed_frame head mid =
    let len : length (head ++ (mid ++ (41 ∷ []))) ≡ length head + (length mid + 1) = length-append head (mid ++ (41 ∷ [])) ∙ ap (λ k. length head + k) (length-append mid (41 ∷ [])) in
    let last : get_or (head ++ (mid ++ (41 ∷ []))) (length (head ++ (mid ++ (41 ∷ []))) - 1) 0 ≡ 41 = ap (λ k. get_or (head ++ (mid ++ (41 ∷ []))) k 0) (last_index (length head) (length mid) _ len) ∙ (get_or-append-add head (mid ++ (41 ∷ [])) (length mid) 0 ∙ get_or_at mid 41 [] 0 (length mid) refl) in
    cond-true _ _ _ (and_from _ _ (begins_front head (mid ++ (41 ∷ []))) (and_from _ _ (lt-ltb _ _ (omega arith)) (eq-eqb _ 41 last)))
    ∙ (ap (λ l. Some (take (length (head ++ (mid ++ (41 ∷ []))) - 1 - length head) l)) (drop_at head (mid ++ (41 ∷ [])) (length head) refl)
    ∙ ap Some (take_at mid (41 ∷ []) (length (head ++ (mid ++ (41 ∷ []))) - 1 - length head) (omega arith)))

pub frame_from_framed : (head line mid : List ℕ) → framed head line ≡ Some mid → line ≡ head ++ (mid ++ (41 ∷ []))
frame_from_framed head line mid e =
    let h = found (begins head line && (ltb (length head) (length line) && eqb (get_or line (length line - 1) 0) 41)) _ mid e in
    let p = and_parts (begins head line) _ h.0 in
    let q = and_parts (ltb (length head) (length line)) _ p.1 in
    let more : length head < length line = ltb-true _ _ q.0 in
    let len : length (drop (length head) line) ≡ length line - length head = length-drop (length head) line in
    let place : length head + (length (drop (length head) line) - 1) ≡ length line - 1 = omega arith in
    let last : get_or (drop (length head) line) (length (drop (length head) line) - 1) 0 ≡ 41 = get_or-drop (length head) line _ 0 ∙ (ap (λ k. get_or line k 0) place ∙ eqb-true _ 41 q.1) in
    let size : length (drop (length head) line) - 1 ≡ length line - 1 - length head = omega arith in
    front_from_begins head line p.0
    ∙ ap (λ l. head ++ l) (ended_with (drop (length head) line) 41 (omega arith) last ∙ ap (λ l. l ++ (41 ∷ [])) (ap (λ k. take k (drop (length head) line)) size ∙ h.1))

-- a line in its frame, with its line feed
pub framed-text : (head mid : List ℕ) → head ++ (mid ++ (41 ∷ 10 ∷ [])) ≡ (head ++ (mid ++ (41 ∷ []))) ++ (10 ∷ [])
framed-text head mid = sym (append_assoc head (mid ++ (41 ∷ [])) (10 ∷ []) ∙ ap (λ l. head ++ l) (append_assoc mid (41 ∷ []) (10 ∷ [])))
