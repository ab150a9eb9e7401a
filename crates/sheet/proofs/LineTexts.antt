-- One line: a sheet that takes it stays within its limits, and is written as before with that line at the end.
use Rattle.std.proofs.Common.{◌≡◌, ℕ, ◌<◌, ◌≤◌, Bool, true, ◌&&◌, eqb, ltb, leb, List, [], ◌∷◌, ◌++◌, length, is_some, Some, None, Ok, Err, decimal, sum_by, Option, Result, unwrap_or, sym, refl, ap, ◌∙◌, subst, append_assoc, append-nil, arith}
use Rattle.std.specs.List.{flat_map, list_all, AllByRecursion}
use Rattle.std.proofs.ByRecursion.{All-push}
use Rattle.std.proofs.lemmas.List.{length_push, flat_map_more, nil_from_length}
use Rattle.std.proofs.lemmas.List.Sums.{sum_by_push}
use Rattle.std.proofs.lemmas.Bool.{and_from, and_parts, eqb-true, eqb-false, leb-true, ltb-true}
use Rattle.text.specs.Frame.{framed}
use Rattle.text.specs.Number.{numeral}
use Rattle.text.specs.Tokens.{Tok, tokens}
use Rattle.value.specs.declared.codes.Fault.{Fault}
use Rattle.program.specs.Code.{on_last}
use Rattle.program.specs.declared.Mode.{Mode}
use Rattle.program.specs.declared.Mode.TheVariants.{Protected, Unprotected}
use Rattle.program.specs.declared.Op.{Op}
use Rattle.sheet.specs.declared.parts.LineFault.TheVariants.{BadForm, PastBound, TooMany}
use Rattle.sheet.specs.Content.{Content, with_cell, with_const, with_task, with_op}
use Rattle.sheet.specs.Lines.{cell_head, const_head, task_head, where_some, op_line, cell_on, cell_in, const_on, const_in, task_on, op_on, op_in, judged}
use Rattle.sheet.specs.Writing.{tasks_text, cell_text, const_text, written}
use Rattle.sheet.specs.Laws.{given}
use Rattle.sheet.proofs.Answered.{same_answer, passed, failed}
use Rattle.sheet.proofs.Frames.{frame_from_framed, framed-text}
use Rattle.sheet.proofs.Numbers.{decimal_from_numeral}
use Rattle.sheet.proofs.OpLetters.{Whole}
use Rattle.sheet.proofs.OpTexts.{OpRead, op_read}
use Rattle.sheet.proofs.LastTask.{all_front, all_on_last, all_but_last, holds_of_last, length-on_last, sum-on_last, no_tasks_text, task_more_text, op_more_text}
use Rattle.sheet.proofs.Places.{LawfulKind, form_read}

all_none : {X : Type 0} (P : X → Type 0) (xs : List X) → xs ≡ [] → AllByRecursion P xs
all_none P xs e = subst (λ l. AllByRecursion P l) (sym e) tt

all_push : {X : Type 0} (p : X → Bool) (xs : List X) (x : X) → list_all p xs ≡ true → p x ≡ true → list_all p (xs ++ (x ∷ [])) ≡ true
all_push p [] x h e = and_from _ _ e refl
all_push p (y ∷ xs) x h e = let q = and_parts (p y) (list_all p xs) h in and_from _ _ q.0 (all_push p xs x q.1 e)

module _ {V : Type 0} (form : V → Option (List ℕ)) where
  -- what a sheet keeps from line to line
  pub record Kept (s : Content V) : Type 0 where
    pub few_cells : length s.cells ≤ 64
    pub few_consts : length s.consts ≤ 64
    pub few_tasks : length s.code ≤ 16
    pub few_ops : sum_by length s.code ≤ 1024
    pub owed_each : length s.owed ≡ length s.code
    pub owed_small : AllByRecursion (λ n. n ≤ 255) s.owed
    pub ops_given : AllByRecursion (AllByRecursion (λ op. given (length s.cells) (length s.consts) op ≡ true)) s.code
    pub cells-lawful : list_all (λ c. is_some (form c.value)) s.cells ≡ true
    pub consts-lawful : list_all (λ v. is_some (form v)) s.consts ≡ true

  -- u is s with the line l. The text is told where no operation of u was cut down.
  pub record Added (s : Content V) (l : List ℕ) (u : Content V) : Type 0 where
    pub keeps : Kept s → Kept u
    pub less : AllByRecursion (AllByRecursion Whole) u.code → AllByRecursion (AllByRecursion Whole) s.code
    pub text : Kept s → AllByRecursion (AllByRecursion Whole) u.code → written form u ≡ written form s ++ (l ++ (10 ∷ []))

  cell-added : (s : Content V) (m : Mode) (v : V) (place : List ℕ) → s.consts ≡ [] → s.code ≡ [] → length s.cells < 64 → form v ≡ Some place → Added s (cell_head m ++ (place ++ (41 ∷ []))) (with_cell s m v)
  cell-added s m v place no-consts no_code room f =
      let nil : flat_map (const_text form) s.consts ++ tasks_text s.owed s.code ≡ [] = (λ i. flat_map (const_text form) (no-consts i) ++ tasks_text s.owed (no_code i)) ∙ no_tasks_text s.owed in
      record {
        keeps = λ k. record {
          few_cells = omega (arith, length_push s.cells (record { mode = m; value = v }), room);
          few_consts = k.few_consts;
          few_tasks = k.few_tasks;
          few_ops = k.few_ops;
          owed_each = k.owed_each;
          owed_small = k.owed_small;
          ops_given = all_none _ s.code no_code;
          cells-lawful = all_push (λ c. is_some (form c.value)) s.cells (record { mode = m; value = v }) k.cells-lawful (ap is_some f);
          consts-lawful = k.consts-lawful;
        };
        less = λ h. h;
        text = λ k h. ap (λ l. flat_map (cell_text form) (s.cells ++ (record { mode = m; value = v } ∷ [])) ++ l) nil
            ∙ (append-nil (flat_map (cell_text form) (s.cells ++ (record { mode = m; value = v } ∷ [])))
            ∙ (sym (flat_map_more (cell_text form) [] s.cells (record { mode = m; value = v }))
            ∙ ((λ i. sym (append-nil (flat_map (cell_text form) s.cells)) i ++ (ap (λ o. cell_head m ++ (unwrap_or o [] ++ (41 ∷ 10 ∷ []))) f ∙ framed-text (cell_head m) place) i)
            ∙ ap (λ l. (flat_map (cell_text form) s.cells ++ l) ++ ((cell_head m ++ (place ++ (41 ∷ []))) ++ (10 ∷ []))) (sym nil))));
      }

  const_added : (s : Content V) (v : V) (place : List ℕ) → s.code ≡ [] → length s.consts < 64 → form v ≡ Some place → Added s (const_head ++ (place ++ (41 ∷ []))) (with_const s v)
  const_added s v place no_code room f =
      let nil : tasks_text s.owed s.code ≡ [] = ap (tasks_text s.owed) no_code ∙ no_tasks_text s.owed in
      record {
        keeps = λ k. record {
          few_cells = k.few_cells;
          few_consts = omega (arith, length_push s.consts v, room);
          few_tasks = k.few_tasks;
          few_ops = k.few_ops;
          owed_each = k.owed_each;
          owed_small = k.owed_small;
          ops_given = all_none _ s.code no_code;
          cells-lawful = k.cells-lawful;
          consts-lawful = all_push (λ v. is_some (form v)) s.consts v k.consts-lawful (ap is_some f);
        };
        less = λ h. h;
        text = λ k h. ap (λ l. flat_map (cell_text form) s.cells ++ (flat_map (const_text form) (s.consts ++ (v ∷ [])) ++ l)) nil
            ∙ (ap (λ l. flat_map (cell_text form) s.cells ++ l) (append-nil (flat_map (const_text form) (s.consts ++ (v ∷ [])))
            ∙ (sym (flat_map_more (const_text form) [] s.consts v)
            ∙ (λ i. sym (append-nil (flat_map (const_text form) s.consts)) i ++ (ap (λ o. const_head ++ (unwrap_or o [] ++ (41 ∷ 10 ∷ []))) f ∙ framed-text const_head place) i)))
            ∙ (sym (append_assoc (flat_map (cell_text form) s.cells) (flat_map (const_text form) s.consts ++ []) ((const_head ++ (place ++ (41 ∷ []))) ++ (10 ∷ [])))
            ∙ ap (λ l. (flat_map (cell_text form) s.cells ++ (flat_map (const_text form) s.consts ++ l)) ++ ((const_head ++ (place ++ (41 ∷ []))) ++ (10 ∷ []))) (sym nil)));
      }

  -- what is added to the text of the tasks is added to that of the sheet
  tasks_more : (s : Content V) (ts line : List ℕ) → ts ≡ tasks_text s.owed s.code ++ line → flat_map (cell_text form) s.cells ++ (flat_map (const_text form) s.consts ++ ts) ≡ written form s ++ line
  tasks_more s ts line e =
      ap (λ l. flat_map (cell_text form) s.cells ++ (flat_map (const_text form) s.consts ++ l)) e
      ∙ sym (append_assoc (flat_map (cell_text form) s.cells) (flat_map (const_text form) s.consts ++ tasks_text s.owed s.code) line ∙ ap (λ l. flat_map (cell_text form) s.cells ++ l) (append_assoc (flat_map (const_text form) s.consts) (tasks_text s.owed s.code) line))

  task-added : (s : Content V) (n : ℕ) (part : List ℕ) → n ≤ 255 → length s.code < 16 → part ≡ decimal n → Added s (task_head ++ (part ++ (41 ∷ []))) (with_task s n)
  task-added s n part small room is =
      record {
        keeps = λ k. record {
          few_cells = k.few_cells;
          few_consts = k.few_consts;
          few_tasks = omega (arith, length_push s.code [], room);
          few_ops = omega (arith, sum_by_push length s.code [], k.few_ops);
          owed_each = omega (arith, length_push s.code [], length_push s.owed n, k.owed_each);
          owed_small = All-push (λ n. n ≤ 255) s.owed n k.owed_small small;
          ops_given = All-push _ s.code [] k.ops_given tt;
          cells-lawful = k.cells-lawful;
          consts-lawful = k.consts-lawful;
        };
        less = λ h. all_front (AllByRecursion Whole) s.code ([] ∷ []) h;
        text = λ k h. tasks_more s (tasks_text (s.owed ++ (n ∷ [])) (s.code ++ ([] ∷ []))) _ (task_more_text s.owed s.code n k.owed_each ∙ ap (λ l. tasks_text s.owed s.code ++ l) (framed-text task_head (decimal n) ∙ ap (λ p. (task_head ++ (p ++ (41 ∷ []))) ++ (10 ∷ [])) (sym is)));
      }

  op_added : (s : Content V) (op : Op) (line : List ℕ) → 0 < length s.code → sum_by length s.code < 1024 → OpRead (length s.cells) (length s.consts) line op → Added s line (with_op s op)
  op_added s op line some room r =
      record {
        keeps = λ k. record {
          few_cells = k.few_cells;
          few_consts = k.few_consts;
          few_tasks = omega (arith, length-on_last s.code op, k.few_tasks);
          few_ops = omega (arith, sum-on_last s.code op, room);
          owed_each = k.owed_each ∙ sym (length-on_last s.code op);
          owed_small = k.owed_small;
          ops_given = all_on_last _ s.code op k.ops_given r.is_given;
          cells-lawful = k.cells-lawful;
          consts-lawful = k.consts-lawful;
        };
        less = all_but_last Whole s.code op;
        text = λ k h. tasks_more s (tasks_text s.owed (on_last s.code op)) _ (op_more_text s.owed s.code op k.owed_each some ∙ ap (λ l. tasks_text s.owed s.code ++ l) (r.text (holds_of_last Whole s.code op some h)));
      }

-- the ways of a frame that is there or not
either_way : {A : Type 0} (o : Option (List ℕ)) (f : List ℕ → A) (y u : A) (P : Type 0) → ((x : List ℕ) → o ≡ Some x → f x ≡ u → P) → (y ≡ u → P) → where_some o f y ≡ u → P
either_way None f y u P here on e = on e
either_way (Some x) f y u P here on e = here x refl e

module _ {V : Type 0} (form : V → Option (List ℕ)) (reads : List Tok → Result V Fault) (k : LawfulKind form reads) where
  cell_ways : (s u : Content V) (m : Mode) (place : List ℕ) → s.consts ≡ [] → s.code ≡ [] → (r : Result V Fault) → reads (tokens place) ≡ r → cell_on s m r ≡ Ok u → Added form s (cell_head m ++ (place ++ (41 ∷ []))) u
  cell_ways s u m place a b (Err f) is e = absurd (let z : ◌≡◌ {A = ℕ} 0 1 = cc in omega arith)
  cell_ways s u m place a b (Ok v) is e =
      let p = passed (ltb (length s.cells) 64) (Ok (with_cell s m v)) TooMany u e in
      subst (Added form s (cell_head m ++ (place ++ (41 ∷ [])))) (same_answer _ u p.1) (cell-added form s m v place a b (ltb-true _ 64 p.0) (form_read k v place is))

  cell_line : (s u : Content V) (m : Mode) (place l : List ℕ) → framed (cell_head m) l ≡ Some place → cell_in reads s m place ≡ Ok u → Added form s l u
  cell_line s u m place l is e =
      let p = passed (eqb (length s.consts) 0 && eqb (length s.code) 0) _ BadForm u e in
      let q = and_parts (eqb (length s.consts) 0) _ p.0 in
      subst (λ x. Added form s x u) (sym (frame_from_framed (cell_head m) l place is)) (cell_ways s u m place (nil_from_length _ (eqb-true _ 0 q.0)) (nil_from_length _ (eqb-true _ 0 q.1)) (reads (tokens place)) refl p.1)

  const_ways : (s u : Content V) (place : List ℕ) → s.code ≡ [] → (r : Result V Fault) → reads (tokens place) ≡ r → const_on s r ≡ Ok u → Added form s (const_head ++ (place ++ (41 ∷ []))) u
  const_ways s u place b (Err f) is e = absurd (let z : ◌≡◌ {A = ℕ} 0 1 = cc in omega arith)
  const_ways s u place b (Ok v) is e =
      let p = passed (ltb (length s.consts) 64) (Ok (with_const s v)) TooMany u e in
      subst (Added form s (const_head ++ (place ++ (41 ∷ [])))) (same_answer _ u p.1) (const_added form s v place b (ltb-true _ 64 p.0) (form_read k v place is))

  const_line : (s u : Content V) (place l : List ℕ) → framed const_head l ≡ Some place → const_in reads s place ≡ Ok u → Added form s l u
  const_line s u place l is e =
      let p = passed (eqb (length s.code) 0) _ BadForm u e in
      subst (λ x. Added form s x u) (sym (frame_from_framed const_head l place is)) (const_ways s u place (nil_from_length _ (eqb-true _ 0 p.0)) (reads (tokens place)) refl p.1)

  task_ways : (s u : Content V) (part : List ℕ) (o : Option ℕ) → numeral part ≡ o → task_on s o ≡ Ok u → Added form s (task_head ++ (part ++ (41 ∷ []))) u
  task_ways s u part None is e = absurd (let z : ◌≡◌ {A = ℕ} 0 1 = cc in omega arith)
  task_ways s u part (Some n) is e =
      let p = passed (leb n 255) _ PastBound u e in
      let q = passed (ltb (length s.code) 16) (Ok (with_task s n)) TooMany u p.1 in
      subst (Added form s (task_head ++ (part ++ (41 ∷ [])))) (same_answer _ u q.1) (task-added form s n part (leb-true n 255 p.0) (ltb-true _ 16 q.0) (decimal_from_numeral part n is).0)

  task_line : (s u : Content V) (part l : List ℕ) → framed task_head l ≡ Some part → task_on s (numeral part) ≡ Ok u → Added form s l u
  task_line s u part l is e = subst (λ x. Added form s x u) (sym (frame_from_framed task_head l part is)) (task_ways s u part (numeral part) refl e)

  op_ways : (s u : Content V) (l : List ℕ) → 0 < length s.code → (r : Result Op Fault) → op_line (length s.cells) (length s.consts) l ≡ r → op_on s r ≡ Ok u → Added form s l u
  op_ways s u l some (Err f) is e = absurd (let z : ◌≡◌ {A = ℕ} 0 1 = cc in omega arith)
  op_ways s u l some (Ok op) is e =
      let p = passed (ltb (sum_by length s.code) 1024) (Ok (with_op s op)) TooMany u e in
      subst (Added form s l) (same_answer _ u p.1) (op_added form s op l some (ltb-true _ 1024 p.0) (op_read _ _ op l is))

  op_line-added : (s u : Content V) (l : List ℕ) → op_in s l ≡ Ok u → Added form s l u
  op_line-added s u l e =
      let p = failed (eqb (length s.code) 0) _ BadForm u e in
      let some : 0 < length s.code = omega (arith, eqb-false _ 0 p.0) in
      op_ways s u l some (op_line (length s.cells) (length s.consts) l) refl p.1

  pub line_added : (s u : Content V) (l : List ℕ) → judged reads s l ≡ Ok u → Added form s l u
  line_added s u l =
      either_way (framed (cell_head Protected) l) _ _ (Ok u) (Added form s l u) (λ x. cell_line s u Protected x l)
      (either_way (framed (cell_head Unprotected) l) _ _ (Ok u) (Added form s l u) (λ x. cell_line s u Unprotected x l)
      (either_way (framed const_head l) _ _ (Ok u) (Added form s l u) (λ x. const_line s u x l)
      (either_way (framed task_head l) _ _ (Ok u) (Added form s l u) (λ x. task_line s u x l)
      (op_line-added s u l))))
