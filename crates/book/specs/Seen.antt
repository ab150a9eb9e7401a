-- What a book means: which cells each task has noted and which tasks are stale, how each call changes that, and the bounds on the commits that a cell has left.
use Rattle.std.specs.Prelude.{◌≡◌, ℕ, zero, suc, ◌+◌, ◌<◌, ◌≤◌, Bool, true, false, cond, ◌&&◌, ◌||◌, ◌==◌, nat_lt}

-- f with v at k
abbrev pub upd : {A : Type 0} → (ℕ → A) → ℕ → A → ℕ → A
upd f k v i = cond (i == k) v (f i)

-- f holds of some number below n
unfoldable pub any : (ℕ → Bool) → ℕ → Bool
any f zero = false
any f (suc n) = f n || any f n

-- a station has the tasks 0 to 15 and the cells 0 to 63
abbrev pub a_task : ℕ → Bool
a_task t = nat_lt t 16

abbrev pub a_cell : ℕ → Bool
a_cell c = nat_lt c 64

pub record Seen : Type 0 where
  pub noted : ℕ → ℕ → Bool
  pub stale : ℕ → Bool

-- task t has noted nothing and is not stale
abbrev pub begun : ℕ → Seen → Seen
begun t m = cond (a_task t) (record { noted = upd m.noted t (λ _. false); stale = upd m.stale t false }) m

-- task t has noted cell c, and is stale if another task holds it
abbrev pub noting : ℕ → ℕ → Bool → Seen → Seen
noting t c held m = cond (a_task t && a_cell c) (record { noted = upd m.noted t (upd (m.noted t) c true); stale = upd m.stale t (m.stale t || held) }) m

-- one of the noted cells is in the set
abbrev pub meets : (ℕ → Bool) → (ℕ → Bool) → Bool
meets noted set = any (λ c. set c && noted c) 64

-- every other task that noted a cell of the set is stale, and task t is as after it began
abbrev pub finished : ℕ → (ℕ → Bool) → Seen → Seen
finished t set m = cond (a_task t) (record { noted = upd m.noted t (λ _. false); stale = upd (λ u. m.stale u || meets (m.noted u) set) t false }) m

-- nothing is noted, and nobody is stale
abbrev pub rested : Seen
rested = record { noted = λ _ _. false; stale = λ _. false }

-- a task that no station has is not stale
abbrev pub stale_of : ℕ → Seen → Bool
stale_of t m = a_task t && m.stale t

-- a cell that no station has has nothing left
abbrev pub left_at : ℕ → (ℕ → ℕ) → ℕ
left_at c l = cond (a_cell c) (l c) 0

-- what a call may do to the commits that cells have left
pub data Spending : Type 0 where
  same : Spending
  less : (ℕ → Bool) → Spending
  full : Spending

-- from l to k: all stay; each falls by one at most, and only in the set; each cell has 200 at least
abbrev pub Lines : Spending → (ℕ → ℕ) → (ℕ → ℕ) → Type 0
Lines same l k = k ≡ l
Lines (less set) l k = (c : ℕ) → (k c ≤ l c) × (l c ≤ k c + cond (set c) 1 0)
Lines full l k = (c : ℕ) → c < 64 → 200 ≤ k c

-- what the finish of task t with a set of cells may spend
abbrev pub spending : ℕ → (ℕ → Bool) → Spending
spending t set = cond (a_task t) (less set) same
