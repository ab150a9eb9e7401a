-- All lines: what is read is sound, may be written, and writes back to the same bytes.
use Rattle.std.proofs.Common.{◌≡◌, ℕ, ◌+◌, eqb, ltb, List, [], ◌∷◌, ◌++◌, length, Some, None, Ok, Err, Option, Result, sym, refl, ap, ◌∙◌, subst, append_assoc, append-nil, arith, lit≤}
use Rattle.std.specs.List.{AllByRecursion}
use Rattle.std.proofs.lemmas.List.{nil_from_length}
use Rattle.std.proofs.lemmas.Bool.{and_from, eqb-true}
use Rattle.text.specs.Cut.{cut}
use Rattle.text.specs.Tokens.{Tok}
use Rattle.value.specs.declared.codes.Fault.{Fault}
use Rattle.sheet.specs.declared.parts.LineFault.{LineFault}
use Rattle.sheet.specs.declared.parts.LineFault.TheVariants.{BadForm}
use Rattle.sheet.specs.declared.parts.Refusal.{Refusal}
use Rattle.sheet.specs.declared.parts.Refusal.TheVariants.{TooLong, Line}
use Rattle.sheet.specs.Content.{Content, nothing}
use Rattle.sheet.specs.Lines.{judged}
use Rattle.sheet.specs.Ends.{first_open, first_stray}
use Rattle.sheet.specs.Reading.{first_task, landed, ended, settled, read_lines}
use Rattle.sheet.specs.Writing.{written}
use Rattle.sheet.specs.Laws.{ReadWritesBack}
use Rattle.sheet.proofs.Answered.{same_answer, passed, failed}
use Rattle.sheet.proofs.Rejoined.{rejoined, rejoined_cut}
use Rattle.sheet.proofs.OpLetters.{Whole}
use Rattle.sheet.proofs.Places.{LawfulKind}
use Rattle.sheet.proofs.LineTexts.{Kept, Added, line_added}
use Rattle.sheet.proofs.Landing.{all_whole}

-- what the looks after the last line have found
pub record Settled {V : Type 0} (s : Content V) : Type 0 where
  pub tasks_closed : first_open (first_task s) s.code ≡ None
  pub jumps_land : first_stray (length s.code) (first_task s) s.code ≡ None

landed_ways : {V : Type 0} (s w : Content V) (y : Option ℕ) → first_open (first_task s) s.code ≡ None → first_stray (length s.code) (first_task s) s.code ≡ y → landed s y ≡ Ok w → Settled s × (s ≡ w)
landed_ways s w None is to e = (record { tasks_closed = is; jumps_land = to }, same_answer s w e)
landed_ways s w (Some n) is to e = absurd (let z : ◌≡◌ {A = ℕ} 0 1 = cc in omega arith)

settled_ways : {V : Type 0} (s w : Content V) (x : Option ℕ) → first_open (first_task s) s.code ≡ x → ended s x ≡ Ok w → Settled s × (s ≡ w)
settled_ways s w None is e = landed_ways s w (first_stray (length s.code) (first_task s) s.code) is refl e
settled_ways s w (Some n) is e = absurd (let z : ◌≡◌ {A = ℕ} 0 1 = cc in omega arith)

module _ {V : Type 0} (form : V → Option (List ℕ)) where
  -- from s, the lines ls are read as w
  record Went (s : Content V) (ls : List (List ℕ)) (w : Content V) : Type 0 where
    kept : Kept form w
    ends : Settled w
    less : AllByRecursion (AllByRecursion Whole) w.code → AllByRecursion (AllByRecursion Whole) s.code
    text : AllByRecursion (AllByRecursion Whole) w.code → written form w ≡ written form s ++ rejoined 10 ls

  went_none : (s w : Content V) (ls : List (List ℕ)) → Kept form s → rejoined 10 ls ≡ [] → settled s ≡ Ok w → Went s ls w
  went_none s w ls k none e =
      let h = settled_ways s w (first_open (first_task s) s.code) refl e in
      subst (Went s ls) h.1 (record { kept = k; ends = h.0; less = λ x. x; text = λ x. sym (ap (λ l. written form s ++ l) none ∙ append-nil (written form s)) })

  went_more : (s u w : Content V) (l m : List ℕ) (ms : List (List ℕ)) → Kept form s → Added form s l u → Went u (m ∷ ms) w → Went s (l ∷ m ∷ ms) w
  went_more s u w l m ms k a r =
      record {
        kept = r.kept;
        ends = r.ends;
        less = λ h. a.less (r.less h);
        text = λ h. r.text h
            ∙ (ap (λ x. x ++ rejoined 10 (m ∷ ms)) (a.text k (r.less h))
            ∙ (append_assoc (written form s) (l ++ (10 ∷ [])) (rejoined 10 (m ∷ ms)) ∙ ap (λ x. written form s ++ x) (append_assoc l (10 ∷ []) (rejoined 10 (m ∷ ms)))));
      }

module _ {V : Type 0} (form : V → Option (List ℕ)) (reads : List Tok → Result V Fault) (law : LawfulKind form reads) where
  line_ways : (n : ℕ) (s w : Content V) (l m : List ℕ) (ms : List (List ℕ)) (x : Result (Content V) LineFault) (on : (u : Content V) → Kept form u → read_lines reads (n + 1) u (m ∷ ms) ≡ Ok w → Went form u (m ∷ ms) w) → Kept form s → judged reads s l ≡ x → elim x as (λ _. Result (Content V) Refusal) [ Ok u ↦ read_lines reads (n + 1) u (m ∷ ms) | Err f ↦ Err (Line f n) ] ≡ Ok w → Went form s (l ∷ m ∷ ms) w
  line_ways n s w l m ms (Ok u) on k is e = let a = line_added form reads law s u l is in went_more form s u w l m ms k a (on u (a.keeps k) e)
  line_ways n s w l m ms (Err f) on k is e = absurd (let z : ◌≡◌ {A = ℕ} 0 1 = cc in omega arith)

  lines_read : (ls : List (List ℕ)) (n : ℕ) (s w : Content V) → Kept form s → read_lines reads n s ls ≡ Ok w → Went form s ls w
  lines_read [] n s w k e = went_none form s w [] k refl e
  lines_read (l ∷ []) n s w k e =
      let p = passed (eqb (length l) 0) (settled s) (Line BadForm n) w e in
      went_none form s w (l ∷ []) k (append-nil l ∙ nil_from_length l (eqb-true _ 0 p.0)) p.1
  lines_read (l ∷ m ∷ ms) n s w k e = line_ways n s w l m ms (judged reads s l) (λ u. lines_read (m ∷ ms) (n + 1) u w) k refl e

  kept-nothing : Kept form nothing
  kept-nothing =
      record { few_cells = lit≤ tt; few_consts = lit≤ tt; few_tasks = lit≤ tt; few_ops = lit≤ tt; owed_each = refl; owed_small = tt; ops_given = tt; cells-lawful = refl; consts-lawful = refl }

  pub read-writes-back : ReadWritesBack form reads
  read-writes-back bs s e =
      let p = failed (ltb 65536 (length bs)) (read_lines reads 1 nothing (cut 10 bs)) TooLong s e in
      let r = lines_read (cut 10 bs) 1 nothing s kept-nothing p.1 in
      let k : Kept form s = r.kept in
      let whole : AllByRecursion (AllByRecursion Whole) s.code = all_whole (length s.code) (first_task s) k.few_tasks s.code k.few_ops r.ends.jumps_land in (
        record {
          few_cells = k.few_cells;
          few_consts = k.few_consts;
          few_tasks = k.few_tasks;
          few_ops = k.few_ops;
          owed_each = k.owed_each;
          owed_small = k.owed_small;
          ops_given = k.ops_given;
          tasks_closed = r.ends.tasks_closed;
          jumps_land = r.ends.jumps_land;
        },
        and_from _ _ k.cells-lawful k.consts-lawful,
        r.text whole ∙ rejoined_cut 10 bs,
      )
