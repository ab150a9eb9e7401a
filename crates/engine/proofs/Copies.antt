-- What the library's methods do to four places, place by place.
use Rattle.std.proofs.Common.{◌≡◌, ℕ, zero, suc, ◌+◌, ◌-◌, ◌<◌, ◌≤◌, ◌≢◌, ◌⊎◌, List, length, get_or, set, drop, replicate, refl, sym, ap, ◌∙◌, arith, length-drop, get_or-set_other}
use Rattle.std.proofs.Math.Seq.{paste, paste-zero, paste-suc}
use Rattle.std.proofs.lemmas.List.{get_or-drop, get_or-replicate}
use Rattle.std.proofs.lemmas.Slice.{put_mid-paste}
use borrow.Rule.Slice.PartMut.{put_mid}
use Rattle.std.specs.List.{copy_within}
use Rattle.engine.specs.Layout.{copied}

module _ {V : Type 0} (z : V) (xs : List V) (i j : ℕ) where
  -- n places from j on take what stands from i on
  abbrev run_copied : ℕ → List V
  run_copied zero = xs
  run_copied (suc n) = copied z (run_copied n) (i + n) (j + n)

  untouched : (n k : ℕ) → (k < j) ⊎ (j + n ≤ k) → get_or (run_copied n) k z ≡ get_or xs k z
  untouched zero k out = refl
  untouched (suc n) k out =
      let ne : k ≢ j + n = omega arith in
      let before : (k < j) ⊎ (j + n ≤ k) = grind arith in
      rw get_or-set_other (untouched n k before)

  pasted : (n : ℕ) → n ≤ 4 → (i + 4 ≤ j) ⊎ (j + 4 ≤ i) → i + 4 ≤ length xs → j + 4 ≤ length xs → run_copied n ≡ paste xs j (drop i xs) n
  pasted zero h apart a b = paste-zero xs j (drop i xs)
  pasted (suc n) h apart a b =
      let out : (i + n < j) ⊎ (j + n ≤ i + n) = grind arith in
      let long = length-drop i xs in
      ap (set (run_copied n) (j + n)) (untouched n (i + n) out ∙ sym (get_or-drop i xs n z))
      ∙ ap (λ l. set l (j + n) (get_or (drop i xs) n z)) (pasted n (omega arith) apart a b)
      ∙ paste-suc xs j (drop i xs) n z (omega arith) (omega (arith, long))

  -- where the two pieces lie apart
  pub four_within : (i + 4 ≤ j) ⊎ (j + 4 ≤ i) → i + 4 ≤ length xs → j + 4 ≤ length xs → copy_within xs i (i + 4) j ≡ run_copied 4
  four_within apart a b =
      let four : i + 4 - i ≡ 4 = omega arith in
      ap (paste xs j (drop i xs)) four ∙ sym (pasted 4 (omega arith) apart a b)

module _ {V : Type 0} (z : V) (xs : List V) (i : ℕ) where
  -- n places from i on become z
  abbrev run_filled : ℕ → List V
  run_filled zero = xs
  run_filled (suc n) = set (run_filled n) (i + n) z

  filled : (n : ℕ) → n ≤ 4 → i + 4 ≤ length xs → run_filled n ≡ paste xs i (replicate 4 z) n
  filled zero h a = paste-zero xs i (replicate 4 z)
  filled (suc n) h a =
      ap (λ l. set l (i + n) z) (filled n (omega arith) a)
      ∙ ap (set (paste xs i (replicate 4 z) n) (i + n)) (sym (get_or-replicate 4 n z z (omega arith)))
      ∙ paste-suc xs i (replicate 4 z) n z (omega arith) (omega arith)

  pub four_filled : (k : ℕ) (ys : List V) → k ≡ 4 → ys ≡ replicate 4 z → i + 4 ≤ length xs → put_mid i k xs ys ≡ run_filled 4
  four_filled k ys four e a = put_mid-paste i k xs ys (replicate 4 z) 4 e (sym four) refl ∙ sym (filled 4 (omega arith) a)
