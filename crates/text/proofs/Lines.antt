-- Lines to be written: what stands after one byte more, and after several.
use Rattle.std.proofs.Common.{◌≡◌, ℕ, zero, suc, ◌+◌, ◌<◌, ◌≤◌, List, [], ◌∷◌, ◌++◌, length, get_or, take, set, sym, refl, ap, ◌∙◌, append_assoc, append-nil, arith}
use Rattle.std.proofs.lemmas.List.{take_more_set, take_all, take_at, length-take-le, length_push, take_more}
use Rattle.text.specs.declared.output.Line.{Line}
use Rattle.text.specs.Line.{spelt, added}

pub push_room : (bytes : List ℕ) (n b : ℕ) → n < 32 → length bytes ≡ 32 → take (n + 1) (set bytes n b) ≡ added (take n bytes) (b ∷ [])
push_room bytes n b h l =
    let k = length-take-le n bytes (omega arith) in
    let m = length_push (take n bytes) b in
    take_more_set bytes n b (omega arith) ∙ sym (take_all 32 (take n bytes ++ (b ∷ [])) (omega arith))

pub push_full : (bytes : List ℕ) (n b : ℕ) → n ≤ 32 → 32 ≤ n → length bytes ≡ 32 → take n bytes ≡ added (take n bytes) (b ∷ [])
push_full bytes n b h g l = sym (take_at (take n bytes) (b ∷ []) 32 (length-take-le n bytes (omega arith) ∙ omega arith))

pub take_again : (n : ℕ) (xs ys : List ℕ) → take n (take n xs ++ ys) ≡ take n (xs ++ ys)
take_again zero xs ys = refl
take_again (suc n) [] ys = refl
take_again (suc n) (x ∷ xs) ys = ap (λ l. x ∷ l) (take_again n xs ys)

pub added_more : (was a b : List ℕ) → added (added was a) b ≡ added was (a ++ b)
added_more was a b = take_again 32 (was ++ a) b ∙ ap (take 32) (append_assoc was a b)

pub added_none : (was : List ℕ) → length was ≤ 32 → added was [] ≡ was
added_none was h = take_all 32 (was ++ []) (omega (arith, ap length (append-nil was))) ∙ append-nil was

pub held : (l : Line) → added (spelt l) [] ≡ spelt l
held l = added_none (spelt l) (omega (arith, length-take-le l.len l.bytes (omega (arith, l.ok.0, l.ok.1)), l.ok.0))

-- one turn of the loop that adds bytes one by one
pub extend_more : (start was now more : List ℕ) (i : ℕ) → i < length more → was ≡ added start (take i more) → now ≡ added was (get_or more i 0 ∷ []) → now ≡ added start (take (i + 1) more)
extend_more start was now more i h e f =
    f ∙ (ap (λ l. added l (get_or more i 0 ∷ [])) e ∙ (added_more start (take i more) (get_or more i 0 ∷ []) ∙ ap (added start) (sym (take_more more i 0 h))))
