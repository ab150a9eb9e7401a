-- How long a sheet is at most: its cells, constants, tasks and operations are few, and the line of each is short.
use Rattle.std.proofs.Common.{◌≡◌, ℕ, ◌+◌, ◌*◌, ◌≤◌, true, List, [], ◌∷◌, ◌++◌, length, Some, None, decimal, sum_by, Option, Result, unwrap_or, refl, mul-suc, arith, lit<, lit≤}
use Rattle.std.specs.List.{flat_map, AllByRecursion}
use Rattle.std.proofs.lemmas.List.{length-append}
use Rattle.std.proofs.lemmas.List.Sums.{sum_by-cons}
use Rattle.text.specs.Tokens.{Tok}
use Rattle.value.specs.declared.codes.Fault.{Fault}
use Rattle.program.specs.declared.Mode.{Mode}
use Rattle.program.specs.declared.Mode.TheVariants.{Protected, Unprotected}
use Rattle.program.specs.declared.Op.{Op}
use Rattle.sheet.specs.declared.parts.Cell.{Cell}
use Rattle.sheet.specs.Content.{Content}
use Rattle.sheet.specs.Operations.{numbers}
use Rattle.sheet.specs.Lines.{cell_head}
use Rattle.sheet.specs.Writing.{spaced, line_end, task_text, op_text, tasks_text, cell_text, const_text, written}
use Rattle.sheet.specs.Laws.{given, Sound}
use Rattle.sheet.proofs.Numbers.{decimal-short}
use Rattle.sheet.proofs.OpLetters.{Whole, Low, low-numbers, few-numbers}
use Rattle.sheet.proofs.Places.{LawfulKind}

all_of : {X : Type 0} (P : X → Type 0) → ((x : X) → P x) → (xs : List X) → AllByRecursion P xs
all_of P h [] = tt
all_of P h (x ∷ xs) = (h x, all_of P h xs)

joined_short : {X : Type 0} (f : X → List ℕ) (k : ℕ) (xs : List X) → AllByRecursion (λ x. length (f x) ≤ k) xs → length (flat_map f xs) ≤ k * length xs
joined_short f k [] h = omega arith
joined_short f k (x ∷ xs) h = rw (length-append, mul-suc) (omega (arith, h.0, joined_short f k xs h.1))

spaced-short : (ns : List ℕ) → Low ns → AllByRecursion (λ n. length (spaced n) ≤ 6) ns
spaced-short [] h = tt
spaced-short (n ∷ ns) h = (omega (arith, decimal-short 5 n (lit< tt) h.0 (omega (arith, h.0))), spaced-short ns h.1)

op_short : (op : Op) → Low (numbers op) → length (op_text op) ≤ 28
op_short op h =
    omega (arith, length-append (flat_map spaced (numbers op)) line_end, joined_short spaced 6 (numbers op) (spaced-short (numbers op) h), few-numbers op)

task-short : (n : ℕ) → n ≤ 255 → length (task_text n) ≤ 11
task-short n h = omega (arith, length-append (decimal n) line_end, decimal-short 3 n (lit< tt) (omega arith) (omega arith))

module _ (cells consts : ℕ) (few_cells : cells ≤ 64) (few_consts : consts ≤ 64) where
  ops_short : (ops : List Op) → AllByRecursion (λ op. given cells consts op ≡ true) ops → AllByRecursion Whole ops → AllByRecursion (λ op. length (op_text op) ≤ 28) ops
  ops_short [] g w = tt
  ops_short (op ∷ ops) g w = (op_short op (low-numbers cells consts few_cells few_consts op g.0 w.0), ops_short ops g.1 w.1)

  tasks-short : (os : List ℕ) (cs : List (List Op)) → AllByRecursion (λ n. n ≤ 255) os → AllByRecursion (AllByRecursion (λ op. given cells consts op ≡ true)) cs → AllByRecursion (AllByRecursion Whole) cs → length (tasks_text os cs) ≤ 11 * length cs + 28 * sum_by length cs
  tasks-short [] cs o g w = omega arith
  tasks-short (n ∷ os) [] o g w = omega arith
  tasks-short (n ∷ os) (c ∷ cs) o g w =
      omega (arith, length-append (task_text n) (flat_map op_text c ++ tasks_text os cs), length-append (flat_map op_text c) (tasks_text os cs), task-short n o.0, joined_short op_text 28 c (ops_short c g.0 w.0), sum_by-cons length c cs, tasks-short os cs o.1 g.1 w.1)

head_short : (m : Mode) → length (cell_head m) ≤ 8
head_short Protected = lit≤ tt
head_short Unprotected = lit≤ tt

module _ {V : Type 0} {form : V → Option (List ℕ)} {reads : List Tok → Result V Fault} (law : LawfulKind form reads) where
  place_short : (v : V) (o : Option (List ℕ)) → form v ≡ o → length (unwrap_or o []) ≤ 16
  place_short v None is = omega arith
  place_short v (Some place) is = law.short v place is

  cell-short : (c : Cell V) → length (cell_text form c) ≤ 26
  cell-short c =
      omega (arith, length-append (cell_head c.mode) (unwrap_or (form c.value) [] ++ line_end), length-append (unwrap_or (form c.value) []) line_end, head_short c.mode, place_short c.value (form c.value) refl)

  const_short : (v : V) → length (const_text form v) ≤ 25
  const_short v = omega (arith, length-append (unwrap_or (form v) []) line_end, place_short v (form v) refl)

  pub written-short : (s : Content V) → Sound s → AllByRecursion (AllByRecursion Whole) s.code → length (written form s) ≤ 65536
  written-short s h w =
      omega (
        arith,
        h.few_cells,
        h.few_consts,
        h.few_tasks,
        h.few_ops,
        length-append (flat_map (cell_text form) s.cells) (flat_map (const_text form) s.consts ++ tasks_text s.owed s.code),
        length-append (flat_map (const_text form) s.consts) (tasks_text s.owed s.code),
        joined_short (cell_text form) 26 s.cells (all_of _ cell-short s.cells),
        joined_short (const_text form) 25 s.consts (all_of _ const_short s.consts),
        tasks-short (length s.cells) (length s.consts) h.few_cells h.few_consts s.owed s.code h.owed_small h.ops_given w,
      )
