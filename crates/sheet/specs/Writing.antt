-- The bytes of a sheet: one bracketed form a line, single spaces, a line feed at each end.
use Rattle.std.specs.Prelude.{ℕ, Bool, cond, ◌&&◌, List, [], ◌∷◌, ◌++◌, length, drop, is_some, Ok, Err, codes, decimal, Option, Result, nat_le}
use Rattle.std.specs.List.{flat_map, list_all}
use Rattle.std.specs.Option.{unwrap_or}
use Rattle.program.specs.declared.Op.{Op}
use Rattle.sheet.specs.declared.parts.Cell.{Cell}
use Rattle.sheet.specs.declared.parts.Refusal.{Refusal}
use Rattle.sheet.specs.declared.parts.Refusal.TheVariants.{Unlawful, OutputShort}
use Rattle.sheet.specs.Content.{Content}
use Rattle.sheet.specs.Lines.{cell_head, const_head, task_head}
use Rattle.sheet.specs.Operations.{letter, numbers}

abbrev pub line_end : List ℕ
line_end = codes ")\n"

-- a value's line, from the text in front of it and its form
abbrev pub value_text : List ℕ → List ℕ → List ℕ
value_text head form = head ++ (form ++ line_end)

abbrev pub task_text : ℕ → List ℕ
task_text owed = task_head ++ (decimal owed ++ line_end)

abbrev pub spaced : ℕ → List ℕ
spaced n = 32 ∷ decimal n

-- `(`, a letter, numbers after single spaces, `)` and a line feed
abbrev pub op_words : ℕ → List ℕ → List ℕ
op_words l ns = 40 ∷ l ∷ (flat_map spaced ns ++ line_end)

abbrev pub op_text : Op → List ℕ
op_text op = op_words (letter op) (numbers op)

abbrev pub tasks_text : List ℕ → List (List Op) → List ℕ
tasks_text [] cs = []
tasks_text (o ∷ os) [] = []
tasks_text (o ∷ os) (c ∷ cs) = task_text o ++ (flat_map op_text c ++ tasks_text os cs)

module _ {V : Type 0} (form : V → Option (List ℕ)) where
  abbrev pub cell_text : Cell V → List ℕ
  cell_text c = value_text (cell_head c.mode) (unwrap_or (form c.value) [])

  abbrev pub const_text : V → List ℕ
  const_text v = value_text const_head (unwrap_or (form v) [])

  abbrev pub written : Content V → List ℕ
  written s = flat_map cell_text s.cells ++ (flat_map const_text s.consts ++ tasks_text s.owed s.code)

  -- each value is one that a sheet may hold
  abbrev pub lawful : Content V → Bool
  lawful s = list_all (λ c. is_some (form c.value)) s.cells && list_all (λ v. is_some (form v)) s.consts

  -- what writing into an output slice answers
  abbrev pub write_answer : Content V → List ℕ → Result ℕ Refusal
  write_answer s out =
      cond (lawful s) (cond (nat_le (length (written s)) (length out)) (Ok (length (written s))) (Err OutputShort)) (Err Unlawful)

  -- and what the slice holds then: later output stays, and a refusal leaves all
  abbrev pub write_out : Content V → List ℕ → List ℕ
  write_out s out =
      cond (lawful s && nat_le (length (written s)) (length out)) (written s ++ drop (length (written s)) out) out
