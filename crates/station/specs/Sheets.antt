-- The station that a sheet sets up, and the sheet that a station is written to.
use Rattle.std.specs.Prelude.{ℕ, cond, ◌&&◌, List, length, replicate, Some, None, Ok, Err, Option, Result, nat_le, nat_lt, slice_index_or}
use Rattle.text.specs.Tokens.{Tok}
use Rattle.value.specs.declared.codes.Fault.{Fault}
use Rattle.book.specs.Seen.{rested, full}
use Rattle.program.specs.declared.Mode.{Mode}
use Rattle.program.specs.declared.Mode.TheVariants.{Protected}
use Rattle.sheet.specs.declared.parts.Cell.{Cell}
use Rattle.sheet.specs.declared.parts.Refusal.{Refusal as SheetRefusal}
use Rattle.sheet.specs.Content.{Content}
use Rattle.sheet.specs.Reading.{read_text}
use Rattle.sheet.specs.Sheets.{of_parts}
use Rattle.sheet.specs.Writing.{write_answer, write_out}
use Rattle.board.specs.declared.Board.{Board}
use Rattle.faults.specs.declared.Refusal.{Refusal}
use Rattle.faults.specs.declared.Refusal.TheVariants.{ShortSlice, NotIdle}
use Rattle.board.specs.Boards.{idle_row, row_at, mode_of}
use Rattle.board.specs.Loops.{at_work}
use Rattle.faults.specs.Faults.{faulted, of_sheet}
use Rattle.engine.specs.Layout.{constant_place}
use Rattle.board.specs.Laying.{blanked, laid, itself, tabulated}
use Rattle.engine.specs.World.{World, After, refuses}

abbrev pub cell_mode : {V : Type 0} → Cell V → Mode
cell_mode c = c.mode

abbrev pub cell_value : {V : Type 0} → Cell V → V
cell_value c = c.value

-- modes and owed calls as the sheet says; nobody owns a cell, and every task is idle
abbrev pub fresh_board : {V : Type 0} → List (Cell V) → List ℕ → Board
fresh_board cells owed =
    record { modes = laid cell_mode 0 cells (replicate 64 Protected); owners = replicate 64 None; rows = laid idle_row 0 owed (replicate 16 (idle_row 0)) }

-- the board of a station that has read nothing
abbrev pub no_board : Board
no_board = record { modes = replicate 64 Protected; owners = replicate 64 None; rows = replicate 16 (idle_row 0) }

module _ {V : Type 0} (nought : V) where
  -- cells and constants at their places, zero in the rest of the 320 places; later places stay
  abbrev pub fresh_slice : List (Cell V) → List V → List V → List V
  fresh_slice cells consts xs = laid itself 256 consts (laid cell_value 0 cells (blanked nought xs 320))

  abbrev pub sets_up : World V → Content V → After (Result ℕ Refusal) V
  sets_up w s = record {
    answer = Ok (length s.code);
    world = record { board = fresh_board s.cells s.owed; slice = fresh_slice s.cells s.consts w.slice; seen = rested; code = s.code; cells = length s.cells; consts = length s.consts };
    spends = full;
  }

  abbrev pub sets_up_if : World V → Result (Content V) SheetRefusal → After (Result ℕ Refusal) V
  sets_up_if w (Ok s) = sets_up w s
  sets_up_if w (Err e) = refuses w (of_sheet e)

  -- a sheet is read into a station in any state, and replaces it whole
  abbrev pub reads_sheet : (List Tok → Result V Fault) → List ℕ → World V → After (Result ℕ Refusal) V
  reads_sheet reads bs w = cond (nat_lt (length w.slice) 320) (refuses w (ShortSlice 0)) (sets_up_if w (read_text reads bs))

  -- cell c with its mode, and constant n
  abbrev pub cell_in : Board → List V → ℕ → Cell V
  cell_in b xs c = record { mode = mode_of b c; value = slice_index_or xs c nought }

  -- cell c, if it is given
  abbrev pub cell_of : World V → ℕ → Option (Cell V)
  cell_of w c =
      cond (nat_le 320 (length w.slice) && (nat_lt c w.cells && nat_lt c 64)) (Some (cell_in w.board w.slice c)) None

  abbrev pub constant_in : List V → ℕ → V
  constant_in xs n = slice_index_or xs (constant_place n) nought

  -- what a sheet would say of the station
  abbrev pub sheet_of : World V → Content V
  sheet_of w = of_parts (tabulated (cell_in w.board w.slice) 64) w.cells (tabulated (constant_in w.slice) 64) w.consts (tabulated (λ t. (row_at w.board t).owed) 16) w.code

module _ {V : Type 0} (nought : V) (form : V → Option (List ℕ)) (w : World V) where
  abbrev pub writes_answer : List ℕ → Result ℕ Refusal
  writes_answer out =
      cond (nat_lt (length w.slice) 320) (Err (ShortSlice 0)) (cond (at_work w.board) (Err NotIdle) (faulted of_sheet (write_answer form (sheet_of nought w) out)))

  -- later output stays, and a refusal leaves all of it
  abbrev pub writes_out : List ℕ → List ℕ
  writes_out out = cond (nat_lt (length w.slice) 320) out (cond (at_work w.board) out (write_out form (sheet_of nought w) out))
