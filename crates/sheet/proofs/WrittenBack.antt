-- All lines: what is written of a sound sheet is read as the same sheet.
use Rattle.std.proofs.Common.{◌≡◌, ℕ, ◌+◌, ◌<◌, ◌≤◌, true, ltb, List, [], ◌∷◌, ◌++◌, length, is_some, Some, None, Ok, Err, decimal, sum_by, Option, Result, unwrap_or, sym, refl, ap, ◌∙◌, append_assoc, append-nil, arith, lit<}
use Rattle.std.specs.List.{flat_map, list_all, AllByRecursion}
use Rattle.std.proofs.lemmas.List.{length_push}
use Rattle.std.proofs.lemmas.List.Sums.{sum_by_push, sum_by-cons}
use Rattle.std.proofs.lemmas.Bool.{cond-false, and_parts, le-ltb}
use Rattle.text.specs.Cut.{cut}
use Rattle.text.specs.Tokens.{Tok}
use Rattle.value.specs.declared.codes.Fault.{Fault}
use Rattle.program.specs.Code.{on_last}
use Rattle.program.specs.declared.Op.{Op}
use Rattle.sheet.specs.declared.parts.Cell.{Cell}
use Rattle.sheet.specs.declared.parts.Refusal.{Refusal}
use Rattle.sheet.specs.declared.parts.Refusal.TheVariants.{Line}
use Rattle.sheet.specs.Content.{Content, nothing, with_cell, with_const, with_task}
use Rattle.sheet.specs.Operations.{numbers}
use Rattle.sheet.specs.Lines.{cell_head, const_head, task_head, judged}
use Rattle.sheet.specs.Reading.{first_task, landed, ended, settled, read_lines}
use Rattle.sheet.specs.Writing.{task_text, op_text, tasks_text, cell_text, const_text, written}
use Rattle.sheet.specs.Laws.{given, Sound, WrittenReadsBack}
use Rattle.sheet.proofs.Rejoined.{Without, cut_some, cut_front, without_from_lacks}
use Rattle.sheet.proofs.Frames.{framed-text}
use Rattle.sheet.proofs.Numbers.{decimal_without}
use Rattle.sheet.proofs.OpLetters.{Whole, Low, low-numbers}
use Rattle.sheet.proofs.OpTexts.{op_body, op_text_body}
use Rattle.sheet.proofs.LastTask.{on_last_at}
use Rattle.sheet.proofs.Landing.{all_whole}
use Rattle.sheet.proofs.Lengths.{written-short}
use Rattle.sheet.proofs.Places.{LawfulKind}
use Rattle.sheet.proofs.OwnLines.{bracketed_without, framed_without, head_without, body_without, cell-judged, const_judged, task-judged, op_judged}

some_of : {A : Type 0} (o : Option A) → is_some o ≡ true → (x : A) × (o ≡ Some x)
some_of None e = absurd (let z : ◌≡◌ {A = ℕ} 0 1 = cc in omega arith)
some_of (Some x) e = (x, refl)

module _ {V : Type 0} (form : V → Option (List ℕ)) (reads : List Tok → Result V Fault) (law : LawfulKind form reads) where
  -- a line that is taken, and the lines after it
  line_on : (n : ℕ) (s u : Content V) (l : List ℕ) (ms : List (List ℕ)) → 0 < length ms → judged reads s l ≡ Ok u → read_lines reads n s (l ∷ ms) ≡ read_lines reads (n + 1) u ms
  line_on n s u l [] some e = absurd (omega arith)
  line_on n s u l (m ∷ ms) some e = ap (λ x. elim x as (λ _. Result (Content V) Refusal) [ Ok w ↦ read_lines reads (n + 1) w (m ∷ ms) | Err f ↦ Err (Line f n) ]) e

  text_on : (n : ℕ) (s u : Content V) (text l bs : List ℕ) → text ≡ l ++ (10 ∷ []) → Without 10 l → judged reads s l ≡ Ok u → read_lines reads n s (cut 10 (text ++ bs)) ≡ read_lines reads (n + 1) u (cut 10 bs)
  text_on n s u text l bs is clear e =
      ap (λ x. read_lines reads n s (cut 10 x)) (ap (λ x. x ++ bs) is ∙ append_assoc l (10 ∷ []) bs)
      ∙ (ap (read_lines reads n s) (cut_front 10 l bs clear) ∙ line_on n s u l (cut 10 bs) (cut_some 10 bs) e)

  cells_on : (cs : List (Cell V)) (n : ℕ) (s w : Content V) (bs : List ℕ) → s.consts ≡ [] → s.code ≡ [] → length s.cells + length cs ≤ 64 → list_all (λ c. is_some (form c.value)) cs ≡ true → ((m : ℕ) → read_lines reads m (record { cells = s.cells ++ cs; consts = s.consts; owed = s.owed; code = s.code }) (cut 10 bs) ≡ Ok w) → read_lines reads n s (cut 10 (flat_map (cell_text form) cs ++ bs)) ≡ Ok w
  cells_on [] n s w bs a b room ok go = ap (λ l. read_lines reads n (record { cells = l; consts = s.consts; owed = s.owed; code = s.code }) (cut 10 bs)) (sym (append-nil s.cells)) ∙ go n
  cells_on (c ∷ cs) n s w bs a b room ok go =
      let p = and_parts (is_some (form c.value)) _ ok in
      let f = some_of (form c.value) p.0 in
      ap (λ l. read_lines reads n s (cut 10 l)) (append_assoc (cell_text form c) (flat_map (cell_text form) cs) bs)
      ∙ (text_on n s (with_cell s c.mode c.value) (cell_text form c) (cell_head c.mode ++ (f.0 ++ (41 ∷ []))) (flat_map (cell_text form) cs ++ bs) (ap (λ o. cell_head c.mode ++ (unwrap_or o [] ++ (41 ∷ 10 ∷ []))) f.1 ∙ framed-text (cell_head c.mode) f.0) (framed_without (cell_head c.mode) f.0 (head_without c.mode) (bracketed_without f.0 (law.bracketed c.value f.0 f.1))) (cell-judged law s c.mode c.value f.0 a b (omega arith) f.1)
      ∙ cells_on cs (n + 1) (with_cell s c.mode c.value) w bs a b (omega (arith, length_push s.cells c)) p.1 (λ m. ap (λ l. read_lines reads m (record { cells = l; consts = s.consts; owed = s.owed; code = s.code }) (cut 10 bs)) (append_assoc s.cells (c ∷ []) cs) ∙ go m))

  consts_on : (vs : List V) (n : ℕ) (s w : Content V) (bs : List ℕ) → s.code ≡ [] → length s.consts + length vs ≤ 64 → list_all (λ v. is_some (form v)) vs ≡ true → ((m : ℕ) → read_lines reads m (record { cells = s.cells; consts = s.consts ++ vs; owed = s.owed; code = s.code }) (cut 10 bs) ≡ Ok w) → read_lines reads n s (cut 10 (flat_map (const_text form) vs ++ bs)) ≡ Ok w
  consts_on [] n s w bs b room ok go = ap (λ l. read_lines reads n (record { cells = s.cells; consts = l; owed = s.owed; code = s.code }) (cut 10 bs)) (sym (append-nil s.consts)) ∙ go n
  consts_on (v ∷ vs) n s w bs b room ok go =
      let p = and_parts (is_some (form v)) _ ok in
      let f = some_of (form v) p.0 in
      ap (λ l. read_lines reads n s (cut 10 l)) (append_assoc (const_text form v) (flat_map (const_text form) vs) bs)
      ∙ (text_on n s (with_const s v) (const_text form v) (const_head ++ (f.0 ++ (41 ∷ []))) (flat_map (const_text form) vs ++ bs) (ap (λ o. const_head ++ (unwrap_or o [] ++ (41 ∷ 10 ∷ []))) f.1 ∙ framed-text const_head f.0) (framed_without const_head f.0 (without_from_lacks 10 const_head refl) (bracketed_without f.0 (law.bracketed v f.0 f.1))) (const_judged law s v f.0 b (omega arith) f.1)
      ∙ consts_on vs (n + 1) (with_const s v) w bs b (omega (arith, length_push s.consts v)) p.1 (λ m. ap (λ l. read_lines reads m (record { cells = s.cells; consts = l; owed = s.owed; code = s.code }) (cut 10 bs)) (append_assoc s.consts (v ∷ []) vs) ∙ go m))

  module _ (cells : List (Cell V)) (consts : List V) (few_cells : length cells ≤ 64) (few_consts : length consts ≤ 64) where
    -- a sheet with these cells and constants
    abbrev on : List ℕ → List (List Op) → Content V
    on owed code = record { cells = cells; consts = consts; owed = owed; code = code }

    ops_on : (ops : List Op) (n : ℕ) (w : Content V) (owed : List ℕ) (front : List (List Op)) (c : List Op) (bs : List ℕ) → AllByRecursion (λ op. given (length cells) (length consts) op ≡ true) ops → AllByRecursion Whole ops → sum_by length front + length c + length ops ≤ 1024 → ((m : ℕ) → read_lines reads m (on owed (front ++ ((c ++ ops) ∷ []))) (cut 10 bs) ≡ Ok w) → read_lines reads n (on owed (front ++ (c ∷ []))) (cut 10 (flat_map op_text ops ++ bs)) ≡ Ok w
    ops_on [] n w owed front c bs g h room go = ap (λ l. read_lines reads n (on owed (front ++ (l ∷ []))) (cut 10 bs)) (sym (append-nil c)) ∙ go n
    ops_on (op ∷ ops) n w owed front c bs g h room go =
        let low : Low (numbers op) = low-numbers (length cells) (length consts) few_cells few_consts op g.0 h.0 in
        let some : 0 < length (front ++ (c ∷ [])) = omega (arith, length_push front c) in
        let less : sum_by length (front ++ (c ∷ [])) < 1024 = omega (arith, sum_by_push length front c) in
        ap (λ l. read_lines reads n (on owed (front ++ (c ∷ []))) (cut 10 l)) (append_assoc (op_text op) (flat_map op_text ops) bs)
        ∙ (text_on n (on owed (front ++ (c ∷ []))) (on owed (on_last (front ++ (c ∷ [])) op)) (op_text op) (op_body op) (flat_map op_text ops ++ bs) (sym (op_text_body op)) (body_without op low) (op_judged reads (on owed (front ++ (c ∷ []))) op g.0 h.0 low some less)
        ∙ (ap (λ l. read_lines reads (n + 1) (on owed l) (cut 10 (flat_map op_text ops ++ bs))) (on_last_at front c op)
        ∙ ops_on ops (n + 1) w owed front (c ++ (op ∷ [])) bs g.1 h.1 (omega (arith, length_push c op)) (λ m. ap (λ l. read_lines reads m (on owed (front ++ (l ∷ []))) (cut 10 bs)) (append_assoc c (op ∷ []) ops) ∙ go m)))

    tasks_on : (os : List ℕ) (cs : List (List Op)) (n : ℕ) (w : Content V) (owed : List ℕ) (front : List (List Op)) → length os ≡ length cs → AllByRecursion (λ n. n ≤ 255) os → AllByRecursion (AllByRecursion (λ op. given (length cells) (length consts) op ≡ true)) cs → AllByRecursion (AllByRecursion Whole) cs → length front + length cs ≤ 16 → sum_by length front + sum_by length cs ≤ 1024 → ((m : ℕ) → read_lines reads m (on (owed ++ os) (front ++ cs)) (cut 10 []) ≡ Ok w) → read_lines reads n (on owed front) (cut 10 (tasks_text os cs)) ≡ Ok w
    tasks_on [] [] n w owed front e o g h few room go = (λ i. read_lines reads n (on (sym (append-nil owed) i) (sym (append-nil front) i)) (cut 10 [])) ∙ go n
    tasks_on [] (c ∷ cs) n w owed front e o g h few room go = absurd (omega arith)
    tasks_on (k ∷ os) [] n w owed front e o g h few room go = absurd (omega arith)
    tasks_on (k ∷ os) (c ∷ cs) n w owed front e o g h few room go =
        let sum = sum_by-cons length c cs in
        text_on n (on owed front) (with_task (on owed front) k) (task_text k) (task_head ++ (decimal k ++ (41 ∷ []))) (flat_map op_text c ++ tasks_text os cs) (framed-text task_head (decimal k)) (framed_without task_head (decimal k) (without_from_lacks 10 task_head refl) (decimal_without 10 (lit< tt) k (omega (arith, o.0)))) (task-judged reads (on owed front) k o.0 (omega arith))
        ∙ ops_on c (n + 1) w (owed ++ (k ∷ [])) front [] (tasks_text os cs) g.0 h.0 (omega arith) (λ m. tasks_on os cs m w (owed ++ (k ∷ [])) (front ++ (c ∷ [])) (omega arith) o.1 g.1 h.1 (omega (arith, length_push front c)) (omega (arith, sum_by_push length front c)) (λ i. (λ j. read_lines reads i (on (append_assoc owed (k ∷ []) os j) (append_assoc front (c ∷ []) cs j)) (cut 10 [])) ∙ go i))

  settled_sound : (s : Content V) → Sound s → settled s ≡ Ok s
  settled_sound s h = ap (ended s) h.tasks_closed ∙ ap (landed s) h.jumps_land

  pub written-reads-back : WrittenReadsBack form reads
  written-reads-back s h ok =
      let whole = all_whole (length s.code) (first_task s) h.few_tasks s.code h.few_ops h.jumps_land in
      let p = and_parts (list_all (λ c. is_some (form c.value)) s.cells) _ ok in
      cond-false (ltb 65536 (length (written form s))) _ _ (le-ltb 65536 _ (written-short law s h whole))
      ∙ cells_on s.cells 1 nothing s (flat_map (const_text form) s.consts ++ tasks_text s.owed s.code) refl refl (omega (arith, h.few_cells)) p.0 (λ m.
      consts_on s.consts m (record { cells = s.cells; consts = []; owed = []; code = [] }) s (tasks_text s.owed s.code) refl (omega (arith, h.few_consts)) p.1 (λ i.
      tasks_on s.cells s.consts h.few_cells h.few_consts s.owed s.code i s [] [] h.owed_each h.owed_small h.ops_given whole (omega (arith, h.few_tasks)) (omega (arith, h.few_ops)) (λ j. settled_sound s h)))
