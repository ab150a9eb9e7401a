-- One element more that is laid, and places that are blanked.
use Rattle.std.proofs.Common.{◌≡◌, ℕ, zero, suc, ◌+◌, ◌-◌, ◌<◌, ◌≤◌, List, [], ◌∷◌, ◌++◌, length, get_or, take, drop, set, replicate, sym, refl, ap, ◌∙◌, append_assoc, add-zero, add-one, arith}
use Rattle.std.proofs.lemmas.List.{set_past, take_all, length-replicate, drop-set, drop-set-add, set-append_right}
use Rattle.std.proofs.lemmas.Grind.{replicate_next}
use Rattle.board.specs.Laying.{blanked, laid}

module _ {X Y : Type 0} (f : X → Y) (d : X) where
  pub laid_more : (at i : ℕ) (xs : List X) (ys : List Y) → i < length xs → laid f at (take (i + 1) xs) ys ≡ set (laid f at (take i xs) ys) (at + i) (f (get_or xs i d))
  laid_more at i [] ys h = absurd (omega arith)
  laid_more at zero (x ∷ xs) ys h = rw add-zero refl
  laid_more at (suc i) (x ∷ xs) ys h =
      let lt : i < length xs = omega arith in
      let e : suc i + 1 ≡ suc (i + 1) = omega arith in
      let m : at + 1 + i ≡ at + suc i = omega arith in
      ap (λ n. laid f at (take n (x ∷ xs)) ys) e
      ∙ (laid_more (at + 1) i xs (set ys at (f x)) lt ∙ ap (λ n. set (laid f (at + 1) (take i xs) (set ys at (f x))) n (f (get_or xs i d))) m)

module _ {X Y : Type 0} (f : X → Y) where
  -- after a turn that has written f of the next element
  pub laid_put : (at i : ℕ) (xs : List X) (ys zs : List Y) (x : X) → i < length xs → x ≡ get_or xs i x → zs ≡ laid f at (take i xs) ys → set zs (at + i) (f x) ≡ laid f at (take (i + 1) xs) ys
  laid_put at i xs ys zs x h is e =
      ap (λ l. set l (at + i) (f x)) e ∙ (ap (λ y. set (laid f at (take i xs) ys) (at + i) (f y)) is ∙ sym (laid_more f x at i xs ys h))

  -- after a turn whose place lies past the end
  pub laid_past : (at i : ℕ) (xs : List X) (ys zs : List Y) → i < length xs → length zs ≤ at + i → zs ≡ laid f at (take i xs) ys → zs ≡ laid f at (take (i + 1) xs) ys
  laid_past at i [] ys zs h past e = absurd (omega arith)
  laid_past at i (x ∷ xs) ys zs h past e =
      sym (set_past zs (at + i) (f (get_or (x ∷ xs) i x)) past)
      ∙ (ap (λ l. set l (at + i) (f (get_or (x ∷ xs) i x))) e ∙ sym (laid_more f x at i (x ∷ xs) ys h))

  pub laid_all : (at i : ℕ) (xs : List X) (ys zs : List Y) → length xs ≤ i → zs ≡ laid f at (take i xs) ys → zs ≡ laid f at xs ys
  laid_all at i xs ys zs h e = e ∙ ap (λ l. laid f at l ys) (take_all i xs h)

pub blanked_is : {X : Type 0} (v : X) (xs : List X) (n : ℕ) → n ≤ length xs → replicate n v ++ drop n xs ≡ blanked v xs n
unfolding blanked
blanked_is v xs zero h = refl
blanked_is v xs (suc n) h =
    let room : n < length xs = omega arith in
    let first : set (drop n xs) 0 v ≡ v ∷ drop (suc n) xs = sym (drop-set-add n xs 0 v) ∙ (ap (λ i. drop n (set xs i v)) (add-zero n) ∙ (drop-set xs n v room ∙ ap (λ i. v ∷ drop i xs) (add-one n))) in
    let joined : replicate (suc n) v ++ drop (suc n) xs ≡ replicate n v ++ (v ∷ drop (suc n) xs) =
    ap (λ i. replicate i v ++ drop (suc n) xs) (sym (add-one n)) ∙ (ap (λ l. l ++ drop (suc n) xs) (replicate_next n v) ∙ append_assoc (replicate n v) (v ∷ []) (drop (suc n) xs)) in
    let here : n - n ≡ 0 = omega arith in
    joined ∙ (ap (λ l. replicate n v ++ l) (sym first) ∙ (ap (λ i. replicate n v ++ set (drop n xs) i v) (sym here)
    ∙ (sym (set-append_right (replicate n v) (drop n xs) n n v (length-replicate n v) (omega arith)) ∙ ap (λ l. set l n v) (blanked_is v xs n (omega arith)))))
