-- Pieces between the bytes d: put together again they are the bytes, and a piece in front is cut off.
use Rattle.std.proofs.Common.{◌≡◌, ℕ, ◌<◌, Bool, true, not, ◌&&◌, eqb, List, [], ◌∷◌, ◌++◌, length, sym, refl, ap, ◌∙◌, ⊎_elim, append-nil, arith}
use Rattle.std.specs.List.{flat_map, AllByRecursion}
use Rattle.std.proofs.lemmas.Bool.{cond-true, cond-false, eqb-true, eqb-false, eq-eqb, ne_eqb, cases_Bool, and_parts, not-true}
use Rattle.text.specs.Cut.{onto, cut}

-- pieces with a d between each two
abbrev pub rejoined : ℕ → List (List ℕ) → List ℕ
rejoined d [] = []
rejoined d (p ∷ ps) = p ++ flat_map (λ q. d ∷ q) ps

rejoined_onto : (d b : ℕ) (ps : List (List ℕ)) → rejoined d (onto b ps) ≡ b ∷ rejoined d ps
rejoined_onto d b [] = refl
rejoined_onto d b (p ∷ ps) = refl

onto_some : (b : ℕ) (ps : List (List ℕ)) → 0 < length (onto b ps)
onto_some b [] = omega arith
onto_some b (p ∷ ps) = omega arith

pub cut_some : (d : ℕ) (bs : List ℕ) → 0 < length (cut d bs)
cut_some d [] = omega arith
cut_some d (b ∷ bs) =
    ⊎_elim
    (λ t. omega (arith, ap length (cond-true (eqb b d) ([] ∷ cut d bs) (onto b (cut d bs)) t)))
    (λ f. omega (arith, ap length (cond-false (eqb b d) ([] ∷ cut d bs) (onto b (cut d bs)) f), onto_some b (cut d bs)))
    (cases_Bool (eqb b d))

rejoined_more : (d : ℕ) (ps : List (List ℕ)) → 0 < length ps → rejoined d ([] ∷ ps) ≡ d ∷ rejoined d ps
rejoined_more d [] h = absurd (omega arith)
rejoined_more d (p ∷ ps) h = refl

pub rejoined_cut : (d : ℕ) (bs : List ℕ) → rejoined d (cut d bs) ≡ bs
rejoined_cut d [] = refl
rejoined_cut d (b ∷ bs) =
    ⊎_elim
    (λ t. ap (rejoined d) (cond-true (eqb b d) ([] ∷ cut d bs) (onto b (cut d bs)) t)
    ∙ (rejoined_more d (cut d bs) (cut_some d bs) ∙ (λ i. sym (eqb-true b d t) i ∷ rejoined_cut d bs i)))
    (λ f. ap (rejoined d) (cond-false (eqb b d) ([] ∷ cut d bs) (onto b (cut d bs)) f)
    ∙ (rejoined_onto d b (cut d bs) ∙ ap (λ l. b ∷ l) (rejoined_cut d bs)))
    (cases_Bool (eqb b d))

-- no byte is d
abbrev pub Without : ℕ → List ℕ → Type 0
Without d bs = AllByRecursion (λ b. b ≡ d → ⊥) bs

pub cut_front : (d : ℕ) (p bs : List ℕ) → Without d p → cut d (p ++ (d ∷ bs)) ≡ p ∷ cut d bs
cut_front d [] bs h = cond-true (eqb d d) ([] ∷ cut d bs) (onto d (cut d bs)) (eq-eqb d d refl)
cut_front d (b ∷ p) bs h =
    cond-false (eqb b d) ([] ∷ cut d (p ++ (d ∷ bs))) (onto b (cut d (p ++ (d ∷ bs)))) (ne_eqb b d h.0) ∙ ap (onto b) (cut_front d p bs h.1)

pub cut_last : (d : ℕ) (p : List ℕ) → Without d p → cut d p ≡ p ∷ []
cut_last d [] h = refl
cut_last d (b ∷ p) h = cond-false (eqb b d) ([] ∷ cut d p) (onto b (cut d p)) (ne_eqb b d h.0) ∙ ap (onto b) (cut_last d p h.1)

-- pieces that have no d are cut apart again
pub cut_rejoined : (d : ℕ) (p : List ℕ) (ps : List (List ℕ)) → Without d p → AllByRecursion (Without d) ps → cut d (rejoined d (p ∷ ps)) ≡ p ∷ ps
cut_rejoined d p [] h hs = ap (cut d) (append-nil p) ∙ cut_last d p h
cut_rejoined d p (q ∷ ps) h hs = cut_front d p (rejoined d (q ∷ ps)) h ∙ ap (λ l. p ∷ l) (cut_rejoined d q ps hs.0 hs.1)

-- whether no byte is d, to be computed
abbrev lacks : ℕ → List ℕ → Bool
lacks d [] = true
lacks d (b ∷ bs) = not (eqb b d) && lacks d bs

pub without_from_lacks : (d : ℕ) (bs : List ℕ) → lacks d bs ≡ true → Without d bs
without_from_lacks d [] e = tt
without_from_lacks d (b ∷ bs) e =
    let p = and_parts (not (eqb b d)) (lacks d bs) e in (eqb-false b d (not-true (eqb b d) p.0), without_from_lacks d bs p.1)
