-- What any bytes are read as: a sheet's content, or the refusal with the line that it names.
use Rattle.std.specs.Prelude.{ℕ, ◌+◌, cond, List, [], ◌∷◌, length, Some, None, Ok, Err, Option, Result, ◌==◌, nat_lt}
use Rattle.text.specs.Cut.{cut}
use Rattle.text.specs.Tokens.{Tok}
use Rattle.value.specs.declared.codes.Fault.{Fault}
use Rattle.sheet.specs.declared.parts.LineFault.TheVariants.{BadForm}
use Rattle.sheet.specs.declared.parts.Refusal.{Refusal}
use Rattle.sheet.specs.declared.parts.Refusal.TheVariants.{TooLong, Line, OpenTask, StrayTarget}
use Rattle.sheet.specs.Content.{Content, nothing}
use Rattle.sheet.specs.Lines.{judged}
use Rattle.sheet.specs.Ends.{first_open, first_stray}

-- every line is one item, so the first task's line follows from what stands before it
abbrev pub first_task : {V : Type 0} → Content V → ℕ
first_task s = length s.cells + length s.consts + 1

abbrev pub landed : {V : Type 0} → Content V → Option ℕ → Result (Content V) Refusal
landed s None = Ok s
landed s (Some n) = Err (StrayTarget n)

-- every task is looked at for its end before any operation is looked at for where it leads
abbrev pub ended : {V : Type 0} → Content V → Option ℕ → Result (Content V) Refusal
ended s None = landed s (first_stray (length s.code) (first_task s) s.code)
ended s (Some n) = Err (OpenTask n)

abbrev pub settled : {V : Type 0} → Content V → Result (Content V) Refusal
settled s = ended s (first_open (first_task s) s.code)

module _ {V : Type 0} (reads : List Tok → Result V Fault) where
  -- the lines from number n on; the last piece is what no line feed ends
  abbrev pub read_lines : ℕ → Content V → List (List ℕ) → Result (Content V) Refusal
  read_lines n s [] = settled s
  read_lines n s (l ∷ []) = cond (length l == 0) (settled s) (Err (Line BadForm n))
  read_lines n s (l ∷ m ∷ ms) = elim (judged reads s l) [ Ok w ↦ read_lines (n + 1) w (m ∷ ms) | Err f ↦ Err (Line f n) ]

  abbrev pub read_text : List ℕ → Result (Content V) Refusal
  read_text bs = cond (nat_lt 65536 (length bs)) (Err TooLong) (read_lines 1 nothing (cut 10 bs))
