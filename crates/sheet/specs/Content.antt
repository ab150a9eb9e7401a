-- What a sheet says: cells with their modes, constants, and each task's calls owed and operations.
use Rattle.std.specs.Prelude.{ℕ, List, [], ◌∷◌, ◌++◌}
use Rattle.program.specs.Code.{on_last}
use Rattle.program.specs.declared.Mode.{Mode}
use Rattle.program.specs.declared.Op.{Op}
use Rattle.sheet.specs.declared.parts.Cell.{Cell}

-- owed and code have an entry for each task
pub record Content (V : Type 0) : Type 0 where
  pub cells : List (Cell V)
  pub consts : List V
  pub owed : List ℕ
  pub code : List (List Op)

-- the sheet with no line
abbrev pub nothing : {V : Type 0} → Content V
nothing = record { cells = []; consts = []; owed = []; code = [] }

abbrev pub with_cell : {V : Type 0} → Content V → Mode → V → Content V
with_cell s m v = record { cells = s.cells ++ (record { mode = m; value = v } ∷ []); consts = s.consts; owed = s.owed; code = s.code }

abbrev pub with_const : {V : Type 0} → Content V → V → Content V
with_const s v = record { cells = s.cells; consts = s.consts ++ (v ∷ []); owed = s.owed; code = s.code }

-- a task more, with no operation yet
abbrev pub with_task : {V : Type 0} → Content V → ℕ → Content V
with_task s n = record { cells = s.cells; consts = s.consts; owed = s.owed ++ (n ∷ []); code = s.code ++ ([] ∷ []) }

-- an operation more of the last task
abbrev pub with_op : {V : Type 0} → Content V → Op → Content V
with_op s op = record { cells = s.cells; consts = s.consts; owed = s.owed; code = on_last s.code op }
