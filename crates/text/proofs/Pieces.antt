-- Bytes cut into pieces: the first piece, by how many bytes stand before the first cut.
use Rattle.std.proofs.Common.{◌≡◌, ℕ, zero, suc, ◌+◌, ◌-◌, ◌<◌, Bool, not, eqb, List, [], ◌∷◌, length, take, drop, sym, refl, ap, ◌∙◌, add-one, arith}
use Rattle.std.specs.List.{prefix_len}
use Rattle.std.proofs.lemmas.List.{take_rest}
use Rattle.std.proofs.lemmas.Bool.Decides.{nat_tests}
use Rattle.text.specs.Cut.{onto, cut}

abbrev pub other : ℕ → ℕ → Bool
other d b = not (eqb b d)

pub cut_first : (d : ℕ) (bs : List ℕ) (n : ℕ) → prefix_len (other d) bs ≡ n → n < length bs → cut d bs ≡ take n bs ∷ cut d (drop (suc n) bs)
cut_first d [] n e h = absurd (omega arith)
cut_first d (b ∷ bs) zero e h = grind (arith, nat_tests)
cut_first d (b ∷ bs) (suc n) e h = grind (arith, nat_tests, cut_first d bs n)

pub cut_last : (d : ℕ) (bs : List ℕ) → prefix_len (other d) bs ≡ length bs → cut d bs ≡ bs ∷ []
cut_last d [] h = refl
cut_last d (b ∷ bs) h = grind (arith, nat_tests, cut_last d bs)

some_onto : (b : ℕ) (ps : List (List ℕ)) → 0 < length (onto b ps)
some_onto b [] = omega arith
some_onto b (p ∷ ps) = omega arith

-- there is always a piece
pub cut_some : (d : ℕ) (bs : List ℕ) → 0 < length (cut d bs)
cut_some d [] = omega arith
cut_some d (b ∷ bs) = grind (arith, nat_tests, some_onto b (cut d bs))

-- the same, with what follows the cut as a slice of it is
pub piece_first : (d : ℕ) (bs : List ℕ) (n : ℕ) → n ≡ prefix_len (other d) bs → n < length bs → cut d bs ≡ take n bs ∷ cut d (take (length bs - (n + 1)) (drop (n + 1) bs))
piece_first d bs n e h =
    cut_first d bs n (sym e) h ∙ (λ i. take n bs ∷ cut d ((ap (λ m. drop m bs) (sym (add-one n)) ∙ sym (take_rest bs (n + 1))) i))
