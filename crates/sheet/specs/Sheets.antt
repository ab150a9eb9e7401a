-- The content that a sheet holds, and what a method that changes it promises.
use Rattle.std.specs.Prelude.{◌≡◌, ℕ, List, length, take, Ok, Err, Result, MatchResult}
use Rattle.program.specs.Program.{code}
use Rattle.program.specs.declared.Op.{Op}
use Rattle.sheet.specs.declared.kept.Sheet.{Sheet}
use Rattle.sheet.specs.declared.parts.Cell.{Cell}
use Rattle.sheet.specs.Content.{Content}

-- the first n cells, the first m constants, and what each task is owed
abbrev pub of_parts : {V : Type 0} → List (Cell V) → ℕ → List V → ℕ → List ℕ → List (List Op) → Content V
of_parts cells n consts m owed code = record { cells = take n cells; consts = take m consts; owed = take (length code) owed; code = code }

abbrev pub content : {V : Type 0} → Sheet V → Content V
content s = of_parts s.cells.items s.cells.len s.consts.items s.consts.len s.owed (code s.program)

-- the answer is the one that is due, and what the sheet holds then is too
abbrev pub Answers : {A E V : Type 0} → Result A E → Result (Content V) E → Content V → Type 0
Answers r due held = MatchResult r (λ _. due ≡ Ok held) (λ e. due ≡ Err e)
