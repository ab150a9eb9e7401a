-- Where the tasks' operations begin in the table, and how many there are of each.
use Rattle.std.specs.Prelude.{ℕ, List, map}
use Rattle.program.specs.declared.table.Span.{Span}

abbrev pub firsts : List Span → List ℕ
firsts = map (λ (s : Span). s.first)

abbrev pub lens : List Span → List ℕ
lens = map (λ (s : Span). s.len)
