-- A private run: what one fragment does alone, over the cells that stand when it opens. No other task, mode or owed count occurs in it.
use Rattle.std.specs.Prelude.{◌≡◌, ℕ, ◌+◌, Bool, true, false, Some, None, Option}
use Rattle.std.specs.Option.{is_some, unwrap_or}
use Rattle.machine.specs.Update.{upd, one_more}
use Rattle.machine.specs.Effect.{Meaning, Program, Local, next, loaded, goes, reads, writes, starts, asked}
use Rattle.machine.specs.Strong.{Phase, ready, State, given, quiet}

-- What a run leaves behind: what it last wrote to each cell, which cells it read, how often it started each task.
pub record Footprint (V : Type 0) : Type 0 where
  pub log : ℕ → Option V
  pub noted : ℕ → Bool
  pub calls : ℕ → ℕ

module _ {V : Type 0} where
  -- the run wrote this cell
  abbrev pub wrote : Footprint V → ℕ → Bool
  wrote f c = is_some (f.log c)

  -- the cells' values after the run
  abbrev pub values : (ℕ → V) → Footprint V → ℕ → V
  values cells f c = unwrap_or (f.log c) (cells c)

  abbrev pub untouched : Footprint V
  untouched = record { log = λ _. None; noted = λ _. false; calls = λ _. 0 }

  abbrev pub noting : Footprint V → ℕ → Footprint V
  noting f c = record f { noted = upd f.noted c true }

  abbrev pub logging : Footprint V → ℕ → V → Footprint V
  logging f c v = record f { log = upd f.log c (Some v) }

  abbrev pub calling : Footprint V → ℕ → Footprint V
  calling f u = record f { calls = one_more f.calls u }

  -- the strong state s, with what a run of task t did and the phase that the task has come to
  abbrev pub after : State V → ℕ → Footprint V → Phase V → State V
  after s t f phase = record { cell = values s.cell f; mode = s.mode; owed = λ u. s.owed u + f.calls u; phase = upd s.phase t phase }

module _ {V : Type 0} (k : Meaning V) (p : Program V) (t : ℕ) where
  -- from these cells and this start, task t comes to a place and registers with this footprint
  pub data Run (cells : ℕ → V) (start : Local V) : Local V → Footprint V → Type 0 where
    begin : Run cells start start untouched
    go : {l : Local V} {f : Footprint V} (to : Local V) → Run cells start l f → asked k p t l ≡ goes to → Run cells start to f
    read : {l : Local V} {f : Footprint V} (to c : ℕ) → Run cells start l f → asked k p t l ≡ reads to c
        → Run cells start (loaded l to (values cells f c)) (noting f c)
    write : {l : Local V} {f : Footprint V} (c : ℕ) (v : V) → Run cells start l f → asked k p t l ≡ writes c v
        → Run cells start (next l) (logging f c v)
    call : {l : Local V} {f : Footprint V} (u : ℕ) → Run cells start l f → asked k p t l ≡ starts u
        → Run cells start (next l) (calling f u)

  -- in s no task is active and t is ready, and its private run comes to l with footprint f
  pub record Alone (s : State V) (l : Local V) (f : Footprint V) : Type 0 where
    pub still : quiet p s ≡ true
    pub known : given p t ≡ true
    pub start : Local V
    pub begins : s.phase t ≡ ready start
    pub run : Run s.cell start l f
