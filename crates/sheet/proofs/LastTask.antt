-- One operation more of the last task, and one task more: what holds of all, how many there are, and their text.
use Rattle.std.proofs.Common.{◌≡◌, ℕ, ◌+◌, ◌<◌, ◌≤◌, List, [], ◌∷◌, ◌++◌, length, sum_by, sym, refl, ap, ◌∙◌, append_assoc, append-nil, arith}
use Rattle.std.specs.List.{flat_map, AllByRecursion}
use Rattle.std.proofs.lemmas.List.{length_push, flat_map_more, nil_from_length}
use Rattle.std.proofs.ByRecursion.{All-push}
use Rattle.std.proofs.lemmas.List.Sums.{sum_by-cons}
use Rattle.program.specs.Code.{on_last}
use Rattle.program.specs.declared.Op.{Op}
use Rattle.sheet.specs.Writing.{task_text, op_text, tasks_text}

pub all_front : {X : Type 0} (P : X → Type 0) (xs ys : List X) → AllByRecursion P (xs ++ ys) → AllByRecursion P xs
all_front P [] ys h = tt
all_front P (x ∷ xs) ys h = (h.0, all_front P xs ys h.1)

pub all_back : {X : Type 0} (P : X → Type 0) (xs ys : List X) → AllByRecursion P (xs ++ ys) → AllByRecursion P ys
all_back P [] ys h = h
all_back P (x ∷ xs) ys h = all_back P xs ys h.1

module _ {X : Type 0} (P : X → Type 0) where
  pub all_on_last : (cs : List (List X)) (x : X) → AllByRecursion (AllByRecursion P) cs → P x → AllByRecursion (AllByRecursion P) (on_last cs x)
  all_on_last [] x h p = tt
  all_on_last (c ∷ []) x h p = (All-push P c x h.0 p, tt)
  all_on_last (c ∷ d ∷ ds) x h p = (h.0, all_on_last (d ∷ ds) x h.1 p)

  pub all_but_last : (cs : List (List X)) (x : X) → AllByRecursion (AllByRecursion P) (on_last cs x) → AllByRecursion (AllByRecursion P) cs
  all_but_last [] x h = tt
  all_but_last (c ∷ []) x h = (all_front P c (x ∷ []) h.0, tt)
  all_but_last (c ∷ d ∷ ds) x h = (h.0, all_but_last (d ∷ ds) x h.1)

  pub holds_of_last : (cs : List (List X)) (x : X) → 0 < length cs → AllByRecursion (AllByRecursion P) (on_last cs x) → P x
  holds_of_last [] x some h = absurd (omega arith)
  holds_of_last (c ∷ []) x some h = (all_back P c (x ∷ []) h.0).0
  holds_of_last (c ∷ d ∷ ds) x some h = holds_of_last (d ∷ ds) x (omega arith) h.1

pub length-on_last : {X : Type 0} (cs : List (List X)) (x : X) → length (on_last cs x) ≡ length cs
length-on_last [] x = refl
length-on_last (c ∷ []) x = refl
length-on_last (c ∷ d ∷ ds) x = omega (arith, length-on_last (d ∷ ds) x)

pub sum-on_last : {X : Type 0} (cs : List (List X)) (x : X) → sum_by length (on_last cs x) ≤ sum_by length cs + 1
sum-on_last [] x = omega arith
sum-on_last (c ∷ []) x = omega (arith, sum_by-cons length (c ++ (x ∷ [])) [], sum_by-cons length c [], length_push c x)
sum-on_last (c ∷ d ∷ ds) x = omega (arith, sum_by-cons length c (on_last (d ∷ ds) x), sum_by-cons length c (d ∷ ds), sum-on_last (d ∷ ds) x)

pub on_last_at : {X : Type 0} (cs : List (List X)) (c : List X) (x : X) → on_last (cs ++ (c ∷ [])) x ≡ cs ++ ((c ++ (x ∷ [])) ∷ [])
on_last_at [] c x = refl
on_last_at (b ∷ []) c x = refl
on_last_at (b ∷ d ∷ ds) c x = ap (λ l. b ∷ l) (on_last_at (d ∷ ds) c x)

pub no_tasks_text : (os : List ℕ) → tasks_text os [] ≡ []
no_tasks_text [] = refl
no_tasks_text (o ∷ os) = refl

pub task_more_text : (os : List ℕ) (cs : List (List Op)) (n : ℕ) → length os ≡ length cs → tasks_text (os ++ (n ∷ [])) (cs ++ ([] ∷ [])) ≡ tasks_text os cs ++ task_text n
task_more_text [] [] n e = append-nil (task_text n)
task_more_text [] (c ∷ cs) n e = absurd (omega arith)
task_more_text (o ∷ os) [] n e = absurd (omega arith)
task_more_text (o ∷ os) (c ∷ cs) n e =
    ap (λ l. task_text o ++ (flat_map op_text c ++ l)) (task_more_text os cs n (omega arith))
    ∙ sym (append_assoc (task_text o) (flat_map op_text c ++ tasks_text os cs) (task_text n) ∙ ap (λ l. task_text o ++ l) (append_assoc (flat_map op_text c) (tasks_text os cs) (task_text n)))

last_text : (o : ℕ) (os : List ℕ) (c : List Op) (op : Op) → os ≡ [] → tasks_text (o ∷ os) ((c ++ (op ∷ [])) ∷ []) ≡ tasks_text (o ∷ os) (c ∷ []) ++ op_text op
last_text o os c op none =
    ap (λ k. task_text o ++ (flat_map op_text (c ++ (op ∷ [])) ++ tasks_text k [])) none
    ∙ (ap (λ l. task_text o ++ l) (append-nil (flat_map op_text (c ++ (op ∷ []))) ∙ (sym (flat_map_more op_text [] c op) ∙ ap (λ l. l ++ op_text op) (sym (append-nil (flat_map op_text c)))))
    ∙ (sym (append_assoc (task_text o) (flat_map op_text c ++ []) (op_text op)) ∙ ap (λ k. (task_text o ++ (flat_map op_text c ++ tasks_text k [])) ++ op_text op) (sym none)))

pub op_more_text : (os : List ℕ) (cs : List (List Op)) (op : Op) → length os ≡ length cs → 0 < length cs → tasks_text os (on_last cs op) ≡ tasks_text os cs ++ op_text op
op_more_text os [] op e some = absurd (omega arith)
op_more_text [] (c ∷ cs) op e some = absurd (omega arith)
op_more_text (o ∷ os) (c ∷ []) op e some = last_text o os c op (nil_from_length os (omega arith))
op_more_text (o ∷ os) (c ∷ d ∷ ds) op e some =
    ap (λ l. task_text o ++ (flat_map op_text c ++ l)) (op_more_text os (d ∷ ds) op (omega arith) (omega arith))
    ∙ sym (append_assoc (task_text o) (flat_map op_text c ++ tasks_text os (d ∷ ds)) (op_text op) ∙ ap (λ l. task_text o ++ l) (append_assoc (flat_map op_text c) (tasks_text os (d ∷ ds)) (op_text op)))
