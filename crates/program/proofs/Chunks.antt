-- A table cut into pieces: one piece more, one element more of the last, and where an element stands.
use Rattle.std.proofs.Common.{◌≡◌, ℕ, zero, suc, ◌+◌, ◌<◌, ◌≤◌, List, [], ◌∷◌, ◌++◌, length, get_or, take, drop, sum_by, sum, sym, refl, ap, ◌∙◌, arith}
use Rattle.std.proofs.lemmas.List.{take_all, take-append-le, drop-append-le, length-drop, length_push, length-take-le, drop-drop}
use Rattle.std.proofs.lemmas.List.Sums.{sum_by-cons}
use Rattle.program.specs.Code.{on_last, chunks}

sum_cons : (n : ℕ) (ns : List ℕ) → sum (n ∷ ns) ≡ n + sum ns
sum_cons n ns = sum_by-cons (λ x. x) n ns

module _ {X : Type 0} where
  pub length-chunks : (ns : List ℕ) (xs : List X) → length (chunks ns xs) ≡ length ns
  length-chunks [] xs = refl
  length-chunks (n ∷ ns) xs = ap suc (length-chunks ns (drop n xs))

  pub chunks_push : (ns : List ℕ) (xs : List X) → chunks (ns ++ (0 ∷ [])) xs ≡ chunks ns xs ++ ([] ∷ [])
  chunks_push [] xs = refl
  chunks_push (n ∷ ns) xs = ap (λ l. take n xs ∷ l) (chunks_push ns (drop n xs))

  pub sum-chunks : (ns : List ℕ) (xs : List X) → sum ns ≡ length xs → sum_by length (chunks ns xs) ≡ length xs
  sum-chunks [] xs e = e
  sum-chunks (n ∷ ns) xs e =
      let s = sum_cons n ns in
      let d = length-drop n xs in
      let t = length-take-le n xs (omega arith) in
      let r = sum-chunks ns (drop n xs) (omega arith) in
      let w = sum_by-cons length (take n xs) (chunks ns (drop n xs)) in
      omega arith

  on_last_cons : (c : List X) (ds : List (List X)) (x : X) → 0 < length ds → on_last (c ∷ ds) x ≡ c ∷ on_last ds x
  on_last_cons c [] x h = absurd (omega arith)
  on_last_cons c (d ∷ ds) x h = refl

  pub chunks_grow : (ns : List ℕ) (k : ℕ) (xs : List X) (x : X) → sum (ns ++ (k ∷ [])) ≡ length xs → chunks (ns ++ ((k + 1) ∷ [])) (xs ++ (x ∷ [])) ≡ on_last (chunks (ns ++ (k ∷ [])) xs) x
  chunks_grow [] k xs x e =
      let l = length_push xs x in
      let s = sum_cons k [] in
      let a : take (k + 1) (xs ++ (x ∷ [])) ≡ xs ++ (x ∷ []) = take_all (k + 1) _ (omega arith) in
      let b : take k xs ≡ xs = take_all k xs (omega arith) in
      ap (λ l. l ∷ []) (a ∙ ap (λ l. l ++ (x ∷ [])) (sym b))
  chunks_grow (n ∷ ns) k xs x e =
      let s = sum_cons n (ns ++ (k ∷ [])) in
      let d = length-drop n xs in
      let fits : n ≤ length xs = omega arith in
      let some : 0 < length (chunks (ns ++ (k ∷ [])) (drop n xs)) = omega (arith, length-chunks (ns ++ (k ∷ [])) (drop n xs), length_push ns k) in
      (λ i. take-append-le n xs (x ∷ []) fits i ∷ chunks (ns ++ ((k + 1) ∷ [])) (drop-append-le n xs (x ∷ []) fits i))
      ∙ (ap (λ l. take n xs ∷ l) (chunks_grow ns k (drop n xs) x (omega arith)) ∙ sym (on_last_cons (take n xs) _ x some))

  pub get_or-chunks : (ns : List ℕ) (xs : List X) (t : ℕ) → t < length ns → get_or (chunks ns xs) t [] ≡ take (get_or ns t 0) (drop (sum (take t ns)) xs)
  get_or-chunks [] xs t h = absurd (omega arith)
  get_or-chunks (n ∷ ns) xs zero h = refl
  get_or-chunks (n ∷ ns) xs (suc t) h =
      get_or-chunks ns (drop n xs) t (omega arith)
      ∙ ap (take (get_or ns t 0)) (drop-drop (sum (take t ns)) n xs ∙ ap (λ m. drop m xs) (sym (sum_cons n (take t ns))))

-- each piece ends within the whole
pub ends-within : (ns : List ℕ) (t : ℕ) → t < length ns → sum (take t ns) + get_or ns t 0 ≤ sum ns
ends-within [] t h = absurd (omega arith)
ends-within (n ∷ ns) zero h = omega (arith, sum_cons n ns)
ends-within (n ∷ ns) (suc t) h = omega (arith, sum_cons n ns, sum_cons n (take t ns), ends-within ns t (omega arith))
