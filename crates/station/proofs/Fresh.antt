-- A station that a sheet has set up, and one that has read nothing, have what every station keeps.
use Rattle.std.proofs.Common.{◌≡◌, ℕ, ltb, List, [], ◌∷◌, length, get_or, replicate, None, Ok, Err, Option, Result, refl, ◌∙◌, arith}
use Rattle.std.proofs.lemmas.List.{length-replicate}
use Rattle.std.proofs.lemmas.Grind.{common_steps}
use Rattle.text.specs.Tokens.{Tok}
use Rattle.value.specs.declared.codes.Fault.{Fault}
use Rattle.program.specs.declared.Mode.TheVariants.{Protected}
use Rattle.program.specs.declared.Op.{Op}
use Rattle.sheet.specs.declared.parts.Cell.{Cell}
use Rattle.sheet.specs.declared.parts.Refusal.{Refusal as SheetRefusal}
use Rattle.sheet.specs.Content.{Content}
use Rattle.sheet.specs.Laws.{Sound, ReadWritesBack}
use Rattle.sheet.specs.Reading.{read_text}
use Rattle.board.specs.Boards.{no_row, idle_row}
use Rattle.board.specs.Laying.{laid}
use Rattle.board.proofs.Places.{length-laid, get_or-laid}
use Rattle.station.specs.Sheets.{cell_mode, fresh_board, sets_up, sets_up_if}
use Rattle.engine.specs.World.{World}
use Rattle.station.specs.Kept.{KeptBoard, Kept, NewKeeps, ReadingsKeep}
use Rattle.station.proofs.Steps.{either_keeps}
use Rattle.station.proofs.Tables.{sound_table}

-- however many cells are laid, 64 modes stand
modes_long : {V : Type 0} (cells : List (Cell V)) → length (laid cell_mode 0 cells (replicate 64 Protected)) ≡ 64
modes_long [] = length-replicate 64 Protected
modes_long (c ∷ cells) = length-laid cell_mode c Protected 0 (c ∷ cells) (replicate 64 Protected) ∙ length-replicate 64 Protected

-- nobody owns a cell, past the last one too
pub unowned : (n c : ℕ) → get_or {A = Option ℕ} (replicate n None) c None ≡ None
unowned n c = grind (arith, common_steps)

-- Nobody owns a cell, and every task is idle.
fresh_keeps : {V : Type 0} (code : List (List Op)) (cells : List (Cell V)) (owed : List ℕ) → KeptBoard code (fresh_board cells owed)
fresh_keeps code cells owed =
    let modes = modes_long cells in
    let rows = length-laid idle_row 0 no_row 0 owed (replicate 16 (idle_row 0)) in
    record {
      sizes = grind (arith, common_steps);
      row_sizes = λ t h. let e = get_or-laid idle_row 0 no_row 16 owed t h in grind (arith, common_steps);
      owned_well = λ c. let e = unowned 64 c in cc;
      stands_well = λ t. grind (arith, common_steps, get_or-laid idle_row 0 no_row 16 owed t);
    }

-- What a sound sheet sets up.
pub set_up_keeps : {V : Type 0} (nought : V) (w : World V) (s : Content V) → Sound s → Kept (sets_up nought w s).world
set_up_keeps nought w s sound = record { table = sound_table s sound; board = fresh_keeps s.code s.cells s.owed }

module _ {V : Type 0} (nought : V) (form : V → Option (List ℕ)) (reads : List Tok → Result V Fault) (back : ReadWritesBack form reads) where
  set_up_if_keeps : (bs : List ℕ) (w : World V) → Kept w → (r : Result (Content V) SheetRefusal) → read_text reads bs ≡ r → Kept (sets_up_if nought w r).world
  set_up_if_keeps bs w kept (Ok s) e = set_up_keeps nought w s (back bs s e).0
  set_up_if_keeps bs w kept (Err f) e = kept

  -- Every reading, accepted or refused: what is read is sound.
  pub readings_keep : ReadingsKeep nought reads
  readings_keep bs w kept =
      either_keeps (ltb (length w.slice) 320) _ _ kept (set_up_if_keeps bs w kept (read_text reads bs) refl)

-- A station that has read nothing.
pub new_keeps : {V : Type 0} → NewKeeps V
new_keeps {V} xs m = record {
  table = record { sizes = omega arith; in_bounds = λ t p. refl; tasks_closed = λ t h. absurd (omega arith) };
  board = fresh_keeps {V = V} [] [] [];
}
