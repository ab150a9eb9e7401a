-- The table of a sheet that is sound: its tasks are closed, and its operations are in bounds.
use Rattle.std.proofs.Common.{◌≡◌, ℕ, zero, suc, ◌+◌, ◌<◌, true, List, [], ◌∷◌, length, get_or, None, refl, arith}
use Rattle.std.specs.List.{AllByRecursion}
use Rattle.std.proofs.lemmas.Bool.{and_from}
use Rattle.program.specs.declared.Op.{Op}
use Rattle.program.specs.declared.Op.TheVariants.{Finish}
use Rattle.sheet.specs.Content.{Content}
use Rattle.sheet.specs.Ends.{closed, first_open, lands, stray_in, first_stray}
use Rattle.sheet.specs.Laws.{given, Sound}
use Rattle.sheet.specs.Reading.{first_task}
use Rattle.sheet.proofs.Answered.{none_found}
use Rattle.sheet.proofs.Landing.{both_none}
use Rattle.station.specs.Rules.{ops_of, op_of}
use Rattle.station.specs.Kept.{KeptTable}

-- what holds of every item, and of what is read past the end, holds at each index
at_each : {X : Type 0} (P : X → Type 0) (d : X) → P d → (xs : List X) → AllByRecursion P xs → (i : ℕ) → P (get_or xs i d)
at_each P d end [] all i = end
at_each P d end (x ∷ xs) all zero = all.0
at_each P d end (x ∷ xs) all (suc i) = at_each P d end xs all.1 i

-- where no task is found open, all are closed
closed_at : (n : ℕ) (cs : List (List Op)) → first_open n cs ≡ None → (t : ℕ) → t < length cs → closed (ops_of cs t) ≡ true
closed_at n [] e t h = absurd (omega arith)
closed_at n (c ∷ cs) e zero h = (none_found (closed c) _ n e).0
closed_at n (c ∷ cs) e (suc t) h = closed_at (n + 1 + length c) cs (none_found (closed c) _ n e).1 t (omega arith)

lands_in : (len tasks n : ℕ) (ops : List Op) → stray_in len tasks n ops ≡ None → (p : ℕ) → lands len tasks (get_or ops p Finish) ≡ true
lands_in len tasks n [] e p = refl
lands_in len tasks n (op ∷ ops) e zero = (none_found (lands len tasks op) _ n e).0
lands_in len tasks n (op ∷ ops) e (suc p) = lands_in len tasks (n + 1) ops (none_found (lands len tasks op) _ n e).1 p

-- where no operation is found astray, all land
lands_at : (tasks n : ℕ) (cs : List (List Op)) → first_stray tasks n cs ≡ None → (t p : ℕ) → lands (length (ops_of cs t)) tasks (op_of cs t p) ≡ true
lands_at tasks n [] e t p = refl
lands_at tasks n (c ∷ cs) e zero p = lands_in (length c) tasks (n + 1) c (both_none _ _ e).0 p
lands_at tasks n (c ∷ cs) e (suc t) p = lands_at tasks (n + 1 + length c) cs (both_none (stray_in (length c) tasks (n + 1) c) _ e).1 t p

pub sound_table : {V : Type 0} (s : Content V) → Sound s → KeptTable s.code (length s.cells) (length s.consts)
sound_table s sound = record {
  sizes = (sound.few_cells, sound.few_consts, sound.few_tasks, sound.few_ops);
  in_bounds = λ t p. and_from _ _
      (at_each (λ op. given (length s.cells) (length s.consts) op ≡ true) Finish refl (ops_of s.code t) (at_each (AllByRecursion _) [] tt s.code sound.ops_given t) p)
      (lands_at (length s.code) (first_task s) s.code sound.jumps_land t p);
  tasks_closed = closed_at (first_task s) s.code sound.tasks_closed;
}
