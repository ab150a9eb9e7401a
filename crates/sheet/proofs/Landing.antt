-- Where every operation lands, each has what landing gives; there no number was cut down.
use Rattle.std.proofs.Common.{◌≡◌, ℕ, ◌+◌, ◌≤◌, List, [], ◌∷◌, length, Some, None, sum_by, Option, refl, arith}
use Rattle.std.specs.List.{AllByRecursion}
use Rattle.std.proofs.lemmas.List.Sums.{sum_by-cons}
use Rattle.program.specs.declared.Op.{Op}
use Rattle.sheet.specs.Ends.{lands, stray_in, or_else, first_stray}
use Rattle.sheet.proofs.Answered.{none_found}
use Rattle.sheet.proofs.OpLetters.{Whole, whole_from_lands}

pub both_none : (x y : Option ℕ) → or_else x y ≡ None → (x ≡ None) × (y ≡ None)
both_none None y e = (refl, e)
both_none (Some n) y e = absurd (let z : ◌≡◌ {A = ℕ} 0 1 = cc in omega arith)

whole_in : (len tasks n : ℕ) → len ≤ 1024 → tasks ≤ 16 → (ops : List Op) → stray_in len tasks n ops ≡ None → AllByRecursion Whole ops
whole_in len tasks n short few [] e = tt
whole_in len tasks n short few (op ∷ ops) e =
    let p = none_found (lands len tasks op) _ n e in (whole_from_lands len tasks short few op p.0, whole_in len tasks (n + 1) short few ops p.1)

pub all_whole : (tasks n : ℕ) → tasks ≤ 16 → (cs : List (List Op)) → sum_by length cs ≤ 1024 → first_stray tasks n cs ≡ None → AllByRecursion (AllByRecursion Whole) cs
all_whole tasks n few [] short e = tt
all_whole tasks n few (c ∷ cs) short e =
    let p = both_none (stray_in (length c) tasks (n + 1) c) _ e in
    let l = sum_by-cons length c cs in
    (whole_in (length c) tasks (n + 1) (omega arith) few c p.0, all_whole tasks (n + 1 + length c) few cs (omega arith) p.1)
