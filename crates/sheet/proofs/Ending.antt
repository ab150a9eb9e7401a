-- The first operation that leads nowhere, by its place in the task.
use Rattle.std.proofs.Common.{◌≡◌, ℕ, ◌+◌, Bool, true, false, cond, not, List, [], ◌∷◌, Some, Option, sym, refl, ap, ◌∙◌, add-zero, arith}
use Rattle.std.specs.List.{position, position_from}
use Rattle.std.specs.Option.{option_map}
use Rattle.std.proofs.lemmas.Iterator.Adapters.{position_from-zero}
use Rattle.program.specs.declared.Op.{Op}
use Rattle.sheet.specs.Ends.{lands, stray_in}

swapped : (b : Bool) (n i : ℕ) (x r : Option ℕ) → x ≡ option_map (λ p. n + p) r → cond b x (Some (n + i)) ≡ option_map (λ p. n + p) (cond (not b) (Some i) r)
swapped true n i x r e = e
swapped false n i x r e = refl

module _ (len tasks : ℕ) where
  abbrev pub strays : Op → Bool
  strays op = not (lands len tasks op)

  stray_from : (n i : ℕ) (ops : List Op) → stray_in len tasks (n + i) ops ≡ option_map (λ p. n + p) (position_from strays i ops)
  stray_from n i [] = refl
  stray_from n i (op ∷ ops) =
      let e : n + i + 1 ≡ n + (i + 1) = omega arith in
      swapped (lands len tasks op) n i (stray_in len tasks (n + i + 1) ops) (position_from strays (i + 1) ops) (ap (λ m. stray_in len tasks m ops) e ∙ stray_from n (i + 1) ops)

  -- its line
  pub stray_at : (n : ℕ) (ops : List Op) (r : Option ℕ) → r ≡ position strays ops → stray_in len tasks n ops ≡ option_map (λ p. n + p) r
  stray_at n ops r e =
      ap (λ m. stray_in len tasks m ops) (sym (add-zero n)) ∙ (stray_from n 0 ops ∙ ap (option_map (λ p. n + p)) (sym (e ∙ position_from-zero strays ops)))
