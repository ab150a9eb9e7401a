-- What counts show of a task, place by place, after each call. Assumes nothing.
use Rattle.std.proofs.Common.{◌≡◌, ℕ, zero, suc, ◌+◌, ◌-◌, ◌<◌, ◌≤◌, min, Bool, true, false, cond, not, ◌&&◌, ◌||◌, eqb, ltb, leb, List, length, get_or, set, replicate, is_some, Some, None, Option, sym, refl, ap, ◌∙◌, subst, arith}
use mir.Val.{bool_byte}
use mathlib.Core.Path.{fun_ext}
use Rattle.std.proofs.Math.Bool.{or_assoc, or_comm, or-false}
use Rattle.std.proofs.lemmas.Bool.{eq-eqb, eqb-true, not_from_true, or_from, and_right}
use Rattle.std.proofs.lemmas.Bool.Decides.{nat_tests}
use Rattle.book.specs.declared.counts.tasks.Task.{Task}
use Rattle.book.specs.Seen.{any, meets}
use Rattle.book.specs.Tasks.{fresh, no_task, task_at, first_note, flagging}
use Rattle.book.specs.Counted.{moved, outdated, worn, risen}
use Rattle.book.proofs.Any.{any_not, any_or}
use Rattle.book.proofs.Tables.{get_or-set, all_in}

never : (x : Option ℕ) (n : ℕ) {P : Type 0} → x ≡ None → x ≡ Some n → P
never x n e f = let z : ◌≡◌ {A = ℕ} 0 1 = cc in absurd (omega arith)

-- ---- a task that has noted nothing, and tasks that all are so

record IsBlank (k : Task) : Type 0 where
  flag : k.flag ≡ false
  none : (c : ℕ) → get_or k.first c None ≡ None

blank_stale : (k : Task) (commits : List ℕ) → IsBlank k → (k.flag || outdated k.first commits) ≡ false
blank_stale k commits blank = or_from _ _ blank.flag (any_not _ 64 (λ c. ap (λ (x : Option ℕ). moved x (get_or commits c 0)) (blank.none c)))

module _ (new : Task) (is : new ≡ fresh) where
  fresh_blank : IsBlank new
  fresh_blank = subst IsBlank (sym is) (record { flag = refl; none = all_in None 64 })

  rest_blank : (n u : ℕ) → IsBlank (task_at (replicate n new) u)
  rest_blank zero u = record { flag = refl; none = λ c. refl }
  rest_blank (suc n) zero = fresh_blank
  rest_blank (suc n) (suc u) = rest_blank n u

  pub none_noted : (u c : ℕ) → is_some (first_note (replicate 16 new) u c) ≡ false
  none_noted u c = ap (is_some {T = ℕ}) ((rest_blank 16 u).none c)

  pub none_stale : (u : ℕ) → ((task_at (replicate 16 new) u).flag || outdated (task_at (replicate 16 new) u).first (replicate 64 0)) ≡ false
  none_stale u = blank_stale _ (replicate 64 0) (rest_blank 16 u)

  pub none_first : (u c n : ℕ) {P : Type 0} → first_note (replicate 16 new) u c ≡ Some n → P
  none_first u c n e = never _ n ((rest_blank 16 u).none c) e

  module _ (ts : List Task) (t u : ℕ) (h : t < length ts) where
    begun_at : task_at (set ts t new) u ≡ cond (eqb u t) new (task_at ts u)
    begun_at = get_or-set ts t new u no_task h

    pub begun-noted : (c : ℕ) → is_some (first_note (set ts t new) u c) ≡ cond (eqb u t) false (is_some (first_note ts u c))
    begun-noted c = ap (λ (k : Task). is_some (get_or k.first c None)) begun_at ∙ go (eqb u t)
      where
        go : (b : Bool) → is_some (get_or (cond b new (task_at ts u)).first c None) ≡ cond b false (is_some (first_note ts u c))
        go true = ap (is_some {T = ℕ}) (fresh_blank.none c)
        go false = refl

    pub begun-stale : (commits : List ℕ) → ((task_at (set ts t new) u).flag || outdated (task_at (set ts t new) u).first commits) ≡ cond (eqb u t) false ((task_at ts u).flag || outdated (task_at ts u).first commits)
    begun-stale commits = ap (λ (k : Task). k.flag || outdated k.first commits) begun_at ∙ go (eqb u t)
      where
        go : (b : Bool) → ((cond b new (task_at ts u)).flag || outdated (cond b new (task_at ts u)).first commits) ≡ cond b false ((task_at ts u).flag || outdated (task_at ts u).first commits)
        go true = blank_stale new commits fresh_blank
        go false = refl

    pub begun_first : (c n : ℕ) → first_note (set ts t new) u c ≡ Some n → first_note ts u c ≡ Some n
    begun_first c n e = go (eqb u t) (sym (ap (λ (k : Task). get_or k.first c None) begun_at) ∙ e)
      where
        go : (b : Bool) → get_or (cond b new (task_at ts u)).first c None ≡ Some n → first_note ts u c ≡ Some n
        go true f = never _ n (fresh_blank.none c) f
        go false f = f

-- ---- a task notes a cell: a test whether task and cell are those of the call, the entry before (x), and that of the call (y)

kept_once : (n : ℕ) (x : Option ℕ) → is_some (cond (not (is_some x)) (Some n) x) ≡ true
kept_once n None = refl
kept_once n (Some m) = refl

noted_at : (a b : Bool) (n : ℕ) (x y : Option ℕ) → (a ≡ true → b ≡ true → y ≡ x) → is_some (cond (a && (b && not (is_some y))) (Some n) x) ≡ cond (a && b) true (is_some x)
noted_at true true n x y h = ap (λ (z : Option ℕ). is_some (cond (not (is_some z)) (Some n) x)) (h refl refl) ∙ kept_once n x
noted_at true false n x y h = refl
noted_at false b n x y h = refl

unmoved : (n k : ℕ) (x : Option ℕ) → n ≡ k → moved (cond (not (is_some x)) (Some n) x) k ≡ moved x k
unmoved n k None e = not_from_true (eqb n k) (eq-eqb n k e)
unmoved n k (Some m) e = refl

moved_at : (a b : Bool) (n k : ℕ) (x y : Option ℕ) → (a ≡ true → b ≡ true → y ≡ x) → (b ≡ true → n ≡ k) → moved (cond (a && (b && not (is_some y))) (Some n) x) k ≡ moved x k
moved_at true true n k x y h e = ap (λ (z : Option ℕ). moved (cond (not (is_some z)) (Some n) x) k) (h refl refl) ∙ unmoved n k x (e refl)
moved_at true false n k x y h e = refl
moved_at false b n k x y h e = refl

module _ (ts : List Task) (commits : List ℕ) (new : Task) (t c : ℕ) (held : Bool) (h : t < length ts) (flagged : new.flag ≡ ((task_at ts t).flag || held))
    (kept : (d : ℕ) → get_or new.first d None ≡ cond (eqb d c && not (is_some (first_note ts t c))) (Some (get_or commits c 0)) (first_note ts t d)) where
  placed : (u d : ℕ) → first_note (set ts t new) u d ≡ cond (eqb u t && (eqb d c && not (is_some (first_note ts t c)))) (Some (get_or commits c 0)) (first_note ts u d)
  placed u d = ap (λ (k : Task). get_or k.first d None) (get_or-set ts t new u no_task h) ∙ go (eqb u t) refl
    where
      go : (b : Bool) → eqb u t ≡ b → get_or (cond b new (task_at ts u)).first d None ≡ cond (b && (eqb d c && not (is_some (first_note ts t c)))) (Some (get_or commits c 0)) (first_note ts u d)
      go true e = kept d ∙ sym (ap (λ (v : ℕ). cond (eqb d c && not (is_some (first_note ts t c))) (Some (get_or commits c 0)) (first_note ts v d)) (eqb-true u t e))
      go false e = refl

  same_entry : (u d : ℕ) → eqb u t ≡ true → eqb d c ≡ true → first_note ts t c ≡ first_note ts u d
  same_entry u d p q = sym (ap (λ (v : ℕ). first_note ts v d) (eqb-true u t p) ∙ ap (first_note ts t) (eqb-true d c q))

  same_count : (d : ℕ) → eqb d c ≡ true → get_or commits c 0 ≡ get_or commits d 0
  same_count d q = sym (ap (λ (e : ℕ). get_or commits e 0) (eqb-true d c q))

  pub noting-noted : (u d : ℕ) → is_some (first_note (set ts t new) u d) ≡ cond (eqb u t && eqb d c) true (is_some (first_note ts u d))
  noting-noted u d = ap (is_some {T = ℕ}) (placed u d) ∙ noted_at (eqb u t) (eqb d c) (get_or commits c 0) _ _ (same_entry u d)

  noting-outdated : (u : ℕ) → outdated (task_at (set ts t new) u).first commits ≡ outdated (task_at ts u).first commits
  noting-outdated u =
      ap (λ (f : ℕ → Bool). any f 64)
      (fun_ext (λ d. ap (λ (x : Option ℕ). moved x (get_or commits d 0)) (placed u d) ∙ moved_at (eqb u t) (eqb d c) (get_or commits c 0) (get_or commits d 0) _ _ (same_entry u d) (same_count d)))

  pub noting-stale : (u : ℕ) → ((task_at (set ts t new) u).flag || outdated (task_at (set ts t new) u).first commits)
      ≡ cond (eqb u t) (((task_at ts t).flag || outdated (task_at ts t).first commits) || held) ((task_at ts u).flag || outdated (task_at ts u).first commits)
  noting-stale u =
      ap (λ (b : Bool). (task_at (set ts t new) u).flag || b) (noting-outdated u)
      ∙ ap (λ (k : Task). k.flag || outdated (task_at ts u).first commits) (get_or-set ts t new u no_task h)
      ∙ go (eqb u t) refl
    where
      swap : (x y z : Bool) → ((x || y) || z) ≡ ((x || z) || y)
      swap x y z = or_assoc x y z ∙ ap (λ (b : Bool). x || b) (or_comm y z) ∙ sym (or_assoc x z y)

      go : (b : Bool) → eqb u t ≡ b → ((cond b new (task_at ts u)).flag || outdated (task_at ts u).first commits) ≡ cond b (((task_at ts t).flag || outdated (task_at ts t).first commits) || held) ((task_at ts u).flag || outdated (task_at ts u).first commits)
      go true e =
          ap (λ (b : Bool). b || outdated (task_at ts u).first commits) flagged
          ∙ ap (λ (v : ℕ). ((task_at ts t).flag || held) || outdated (task_at ts v).first commits) (eqb-true u t e)
          ∙ swap (task_at ts t).flag held (outdated (task_at ts t).first commits)
      go false e = refl

-- ---- a task finishes

-- one cell: is it in the set (k), its count before (n) and after (m), and its first note (x)
stale_at : (x : Option ℕ) (k : Bool) (n m : ℕ) → m ≡ cond (k && ltb n 255) (n + 1) n → ((f : ℕ) → x ≡ Some f → f ≤ n) → (((k && leb 255 n) && is_some x) || moved x m) ≡ (moved x n || (k && is_some x))
stale_at None true n m e h = rw (and_right (leb 255 n) false refl)
stale_at None false n m e h = refl
stale_at (Some f) false n m e h = rw e (sym (or-false (not (eqb f n))))
stale_at (Some f) true n m e h = let g : f ≤ n = h f refl in grind (arith, nat_tests)

module _ (old new : Task) (cells : List Bool) (commits after : List ℕ) (flagged : new ≡ flagging (worn old.first cells commits) old) where
  pub finish-noted : (c : ℕ) → is_some (get_or new.first c None) ≡ is_some (get_or old.first c None)
  finish-noted c = ap (λ (k : Task). is_some (get_or k.first c None)) flagged

  pub finish-stale : ((c : ℕ) → get_or after c 0 ≡ risen cells commits c) → ((c n : ℕ) → get_or old.first c None ≡ Some n → n ≤ get_or commits c 0)
      → (new.flag || outdated new.first after) ≡ ((old.flag || outdated old.first commits) || meets (λ c. is_some (get_or old.first c None)) (λ c. get_or cells c false))
  finish-stale rise ok =
      ap (λ (k : Task). k.flag || outdated k.first after) flagged
      ∙ or_assoc old.flag (worn old.first cells commits) (outdated old.first after)
      ∙ ap (λ (b : Bool). old.flag || b)
      (any_or _ _ 64
      ∙ ap (λ (p : ℕ → Bool). any p 64) (fun_ext (λ c. stale_at (get_or old.first c None) (get_or cells c false) (get_or commits c 0) (get_or after c 0) (rise c) (ok c)))
      ∙ sym (any_or _ _ 64))
      ∙ sym (or_assoc old.flag (outdated old.first commits) (meets (λ c. is_some (get_or old.first c None)) (λ c. get_or cells c false)))

pub left_bounds : (k : Bool) (n m : ℕ) → m ≡ cond (k && ltb n 255) (n + 1) n → (255 - m ≤ 255 - n) × (255 - n ≤ (255 - m) + cond k 1 0)
left_bounds true n m e = (grind (arith, nat_tests), grind (arith, nat_tests))
left_bounds false n m e = (grind (arith, nat_tests), grind (arith, nat_tests))

-- a count that stays at 255
pub rises : (k : Bool) (n m : ℕ) → n < 256 → m ≡ min (n + bool_byte k) 255 → m ≡ cond (k && ltb n 255) (n + 1) n
rises true n m h e = grind (arith, nat_tests)
rises false n m h e = omega arith
