-- One task or one operation more, in a sheet's parts and in its content.
use Rattle.std.proofs.Common.{◌≡◌, ℕ, ◌+◌, ◌<◌, ◌≤◌, true, ltb, List, [], ◌∷◌, ◌++◌, length, take, set, Some, Ok, sum_by, sym, ap, ◌∙◌, arith}
use Rattle.std.proofs.lemmas.List.{take_more_set, length_push}
use Rattle.std.proofs.lemmas.Bool.{cond-true, lt-ltb, le-leb}
use Rattle.program.specs.Code.{on_last}
use Rattle.program.specs.declared.Op.{Op}
use Rattle.sheet.specs.Content.{Content}
use Rattle.sheet.specs.Lines.{task_on, op_on}
use Rattle.sheet.proofs.LastTask.{length-on_last}

module _ {V : Type 0} (s : Content V) where
  -- a task more: the program took it, and its calls owed stand in their place
  pub task_more : (owed : List ℕ) (code : List (List Op)) (n : ℕ) → s.owed ≡ take (length s.code) owed → length owed ≡ 16 → n ≤ 255 → length s.code < 16 → code ≡ s.code ++ ([] ∷ []) → task_on s (Some n) ≡ Ok (record { cells = s.cells; consts = s.consts; owed = take (length code) (set owed (length s.code) n); code = code })
  task_more owed code n is l small room e =
      let len : length code ≡ length s.code + 1 = ap length e ∙ length_push s.code [] in
      cond-true _ _ _ (le-leb n 255 small)
      ∙ (cond-true _ _ _ (lt-ltb (length s.code) 16 room)
      ∙ (λ i. Ok (record {
        cells = s.cells;
        consts = s.consts;
        owed = (ap (λ o. o ++ (n ∷ [])) is ∙ (sym (take_more_set owed (length s.code) n (omega arith)) ∙ ap (λ m. take m (set owed (length s.code) n)) (sym len))) i;
        code = sym e i;
      })))

  pub op_more : (owed : List ℕ) (code : List (List Op)) (op : Op) → s.owed ≡ take (length s.code) owed → ltb (sum_by length s.code) 1024 ≡ true → code ≡ on_last s.code op → op_on s (Ok op) ≡ Ok (record { cells = s.cells; consts = s.consts; owed = take (length code) owed; code = code })
  op_more owed code op is room e =
      cond-true _ _ _ room
      ∙ (λ i. Ok (record {
        cells = s.cells;
        consts = s.consts;
        owed = (is ∙ ap (λ m. take m owed) (sym (ap length e ∙ length-on_last s.code op))) i;
        code = sym e i;
      }))
