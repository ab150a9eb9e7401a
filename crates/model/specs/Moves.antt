-- What an accepted call does to the engine's state, and how the undone state moves.
use Rattle.std.specs.Prelude.{◌≡◌, ℕ, suc, ◌+◌, true, false, cond, Some, None, Option, ◌==◌}
use Rattle.std.specs.Option.{is_some}
use Rattle.program.specs.declared.Mode.{Mode}
use Rattle.program.specs.declared.Mode.TheVariants.{Protected}
use Rattle.book.specs.Seen.{Seen, begun, noting, finished, rested, a_task, a_cell}
use Rattle.machine.specs.Update.{upd, one_more}
use Rattle.machine.specs.Effect.{Meaning, Program, Local, next, loaded, goes, reads, writes, starts, leaves, enters, sets, finishes, asked}
use Rattle.machine.specs.Strong.{idle, outside, State, Event, first, given, event}
use Rattle.machine.specs.Fragment.{Footprint, after, Alone}
use Rattle.board.specs.Boards.{mine, another}
use Rattle.model.specs.Model.{Stage, off, waiting, inside, out, Model, is_inside}

-- the owner, once t has let go
abbrev pub freed : ℕ → Option ℕ → Option ℕ
freed t None = None
freed t (Some u) = cond (u == t) None (Some u)

module _ {V : Type 0} where
  -- task t has come to another stage
  abbrev pub moved : Model V → ℕ → Stage V → Model V
  moved m t st = record m { stage = upd m.stage t st }

  abbrev pub told : Model V → Seen → Model V
  told m s = record m { seen = s }

  abbrev pub stored : Model V → ℕ → V → Model V
  stored m c v = record m { cell = upd m.cell c v }

  -- task t owns the cell, and its value is saved
  abbrev pub taken : Model V → ℕ → ℕ → Model V
  taken m t c = record m { owner = upd m.owner c (Some t); saved = upd m.saved c (m.cell c) }

  abbrev pub guarded : Model V → ℕ → Mode → Model V
  guarded m c d = record m { mode = upd m.mode c d }

  abbrev pub owing : Model V → (ℕ → ℕ) → Model V
  owing m f = record m { owed = f }

  abbrev pub counting : Model V → ℕ → (ℕ → ℕ) → Model V
  counting m t f = record m { own = upd m.own t f }

  abbrev pub released : Model V → ℕ → Model V
  released m t = record m { owner = λ c. freed t (m.owner c) }

  abbrev pub restored : Model V → ℕ → Model V
  restored m t = record m { cell = λ c. cond (mine t (m.owner c)) (m.saved c) (m.cell c) }

  -- what t's transaction did takes effect, and the task goes on
  abbrev pub committed : Model V → ℕ → Stage V → Model V
  committed m t st =
      moved (told (released (owing m (λ u. m.owed u + m.own t u)) t) (finished t (λ c. mine t (m.owner c)) m.seen)) t st

  module _ (k : Meaning V) (p : Program V) where
    -- an accepted call leads from one state to the other
    pub data Move (m : Model V) : Model V → Type 0 where
      admit : (t n : ℕ) → given p t ≡ true → a_task t ≡ true → m.stage t ≡ off → m.owed t ≡ suc n
          → Move m (moved (owing m (upd m.owed t n)) t (waiting (first k)))
      open_up : (t : ℕ) (l : Local V) → m.stage t ≡ waiting l
          → Move m (moved (counting (told m (begun t m.seen)) t (λ _. 0)) t (inside l l))
      -- inside
      go_in : (t : ℕ) (l o to : Local V) → m.stage t ≡ inside l o → asked k p t l ≡ goes to
          → Move m (moved m t (inside to o))
      read_in : (t : ℕ) (l o : Local V) (d c : ℕ) → m.stage t ≡ inside l o → asked k p t l ≡ reads d c → a_cell c ≡ true
          → Move m (moved (told m (noting t c (another t (m.owner c)) m.seen)) t (inside (loaded l d (m.cell c)) o))
      take_in : (t : ℕ) (l o : Local V) (c : ℕ) (v : V) → m.stage t ≡ inside l o → asked k p t l ≡ writes c v → a_cell c ≡ true
          → m.owner c ≡ None → m.mode c ≡ Protected
          → Move m (moved (stored (taken m t c) c v) t (inside (next l) o))
      write_in : (t : ℕ) (l o : Local V) (c : ℕ) (v : V) → m.stage t ≡ inside l o → asked k p t l ≡ writes c v
          → mine t (m.owner c) ≡ true
          → Move m (moved (stored m c v) t (inside (next l) o))
      start_in : (t : ℕ) (l o : Local V) (u : ℕ) → m.stage t ≡ inside l o → asked k p t l ≡ starts u
          → Move m (moved (counting m t (one_more (m.own t) u)) t (inside (next l) o))
      -- outside
      go_out : (t : ℕ) (l to : Local V) → m.stage t ≡ out l → asked k p t l ≡ goes to
          → Move m (moved m t (out to))
      read_out : (t : ℕ) (l : Local V) (d c : ℕ) → m.stage t ≡ out l → asked k p t l ≡ reads d c
          → Move m (moved m t (out (loaded l d (m.cell c))))
      write_out : (t : ℕ) (l : Local V) (c : ℕ) (v : V) → m.stage t ≡ out l → asked k p t l ≡ writes c v
          → Move m (moved (stored m c v) t (out (next l)))
      start_out : (t : ℕ) (l : Local V) (u : ℕ) → m.stage t ≡ out l → asked k p t l ≡ starts u
          → Move m (moved (owing m (one_more m.owed u)) t (out (next l)))
      enter : (t : ℕ) (l : Local V) → m.stage t ≡ out l → asked k p t l ≡ enters
          → Move m (moved m t (waiting (next l)))
      set_mode : (t : ℕ) (l : Local V) (c : ℕ) (d : Mode) → m.stage t ≡ out l → asked k p t l ≡ sets c d
          → (is_some (m.owner c) ≡ true → d ≡ Protected)
          → Move m (moved (guarded m c d) t (out (next l)))
      finish_out : (t : ℕ) (l : Local V) → m.stage t ≡ out l → asked k p t l ≡ finishes
          → Move m (moved m t off)
      -- the ends of a transaction
      leave_in : (t : ℕ) (l o : Local V) → m.stage t ≡ inside l o → asked k p t l ≡ leaves → m.seen.stale t ≡ false
          → Move m (committed m t (out (next l)))
      finish_in : (t : ℕ) (l o : Local V) → m.stage t ≡ inside l o → asked k p t l ≡ finishes → m.seen.stale t ≡ false
          → Move m (committed m t off)
      undo : (t : ℕ) (l o : Local V) → m.stage t ≡ inside l o
          → Move m (moved (released (restored (told m (begun t m.seen)) t) t) t (waiting o))
      -- the last transaction has ended
      rest : ((t : ℕ) → is_inside (m.stage t) ≡ false) → Move m (told m rested)

    -- how the undone state moves: not at all, by one event, or by one whole fragment
    pub data Shift (s : State V) : State V → Type 0 where
      still : Shift s s
      once : {n : State V} (e : Event) → event k p e s ≡ Some n → Shift s n
      left : (t : ℕ) (l : Local V) (f : Footprint V) → Alone k p t s l f → asked k p t l ≡ leaves → Shift s (after s t f (outside (next l)))
      ended : (t : ℕ) (l : Local V) (f : Footprint V) → Alone k p t s l f → asked k p t l ≡ finishes → Shift s (after s t f idle)
