-- The two ways between bytes and sheets, for every kind of value.
use Rattle.std.specs.Prelude.{◌≡◌, ℕ, ◌≤◌, Bool, true, ◌&&◌, List, length, None, Ok, sum_by, Option, Result, nat_lt}
use Rattle.std.specs.List.{AllByRecursion}
use Rattle.text.specs.Tokens.{Tok}
use Rattle.value.specs.declared.codes.Fault.{Fault}
use Rattle.program.specs.declared.Op.{Op}
use Rattle.program.specs.declared.Op.TheVariants.{Finish, Read, Write, Constant, Apply, Jump, JumpIfFalse, Await, Start, Leave, Enter, Protect, Unprotect}
use Rattle.sheet.specs.Content.{Content}
use Rattle.sheet.specs.Operations.{register}
use Rattle.sheet.specs.Ends.{first_open, first_stray}
use Rattle.sheet.specs.Reading.{first_task, read_text}
use Rattle.sheet.specs.Writing.{written, lawful}

-- registers, cells and constants that are given
abbrev pub given : ℕ → ℕ → Op → Bool
given cells consts Finish = true
given cells consts (Read d c) = register d && nat_lt c cells
given cells consts (Write c s) = nat_lt c cells && register s
given cells consts (Constant d n) = register d && nat_lt n consts
given cells consts (Apply o d i j) = register d && (register i && register j)
given cells consts (Jump n) = true
given cells consts (JumpIfFalse s n) = register s
given cells consts (Await s) = register s
given cells consts (Start t) = true
given cells consts Leave = true
given cells consts Enter = true
given cells consts (Protect c) = nat_lt c cells
given cells consts (Unprotect c) = nat_lt c cells

-- what every sheet keeps
pub record Sound {V : Type 0} (s : Content V) : Type 0 where
  pub few_cells : length s.cells ≤ 64
  pub few_consts : length s.consts ≤ 64
  pub few_tasks : length s.code ≤ 16
  pub few_ops : sum_by length s.code ≤ 1024
  pub owed_each : length s.owed ≡ length s.code
  pub owed_small : AllByRecursion (λ n. n ≤ 255) s.owed
  pub ops_given : AllByRecursion (AllByRecursion (λ op. given (length s.cells) (length s.consts) op ≡ true)) s.code
  pub tasks_closed : first_open (first_task s) s.code ≡ None
  pub jumps_land : first_stray (length s.code) (first_task s) s.code ≡ None

-- the content is sound, may be written, and is written as the bytes
abbrev pub WritesBack : {V : Type 0} → (V → Option (List ℕ)) → List ℕ → Content V → Type 0
WritesBack form bs s = Sound s × (lawful form s ≡ true) × (written form s ≡ bs)

-- the bytes are read as the content, if it is sound
abbrev pub ReadsBack : {V : Type 0} → (List Tok → Result V Fault) → Content V → List ℕ → Type 0
ReadsBack reads s bs = Sound s → read_text reads bs ≡ Ok s

module _ {V : Type 0} (form : V → Option (List ℕ)) (reads : List Tok → Result V Fault) where
  -- what is read writes back to the same bytes
  abbrev pub ReadWritesBack : Type 0
  ReadWritesBack = (bs : List ℕ) (s : Content V) → read_text reads bs ≡ Ok s → WritesBack form bs s

  -- what is written is read as the same sheet
  abbrev pub WrittenReadsBack : Type 0
  WrittenReadsBack = (s : Content V) → Sound s → lawful form s ≡ true → read_text reads (written form s) ≡ Ok s
