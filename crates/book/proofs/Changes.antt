-- What each call leaves, place by place, is what its definition says. Assumes nothing.
use Rattle.std.proofs.Common.{◌≡◌, ℕ, ◌<◌, Bool, true, false, cond, ◌&&◌, ◌||◌, eqb, sym, refl, ap, ◌∙◌, subst}
use mathlib.Core.Path.{fun_ext}
use Rattle.std.proofs.lemmas.Bool.{lt-ltb, cond-true, and_from, eqb-true}
use Rattle.book.specs.Seen.{Seen, upd, a_task, a_cell, begun, noting, meets, finished, Spending, less, same, Lines, spending}

pub same_seen : (m k : Seen) → ((u c : ℕ) → m.noted u c ≡ k.noted u c) → ((u : ℕ) → m.stale u ≡ k.stale u) → m ≡ k
same_seen m k n s i = record { noted = fun_ext (λ u. fun_ext (n u)) i; stale = fun_ext s i }

-- at a task that a station has
pub at_task : {A : Type 0} (t : ℕ) (x y : A) → t < 16 → cond (a_task t) x y ≡ x
at_task t x y h = cond-true (a_task t) x y (lt-ltb t 16 h)

apply : (b : Bool) (f g : ℕ → Bool) (c : ℕ) → cond b (f c) (g c) ≡ cond b f g c
apply true f g c = refl
apply false f g c = refl

pub is_begun : (t : ℕ) (m k : Seen) → t < 16 → ((u c : ℕ) → k.noted u c ≡ cond (eqb u t) false (m.noted u c)) → ((u : ℕ) → k.stale u ≡ cond (eqb u t) false (m.stale u)) → k ≡ begun t m
is_begun t m k h n s = same_seen _ _ (λ u c. n u c ∙ apply (eqb u t) (λ _. false) (m.noted u) c) s ∙ sym (at_task t _ _ h)

nest : (f : ℕ → ℕ → Bool) (t c u d : ℕ) (b : Bool) → eqb u t ≡ b → cond (b && eqb d c) true (f u d) ≡ cond b (upd (f t) c true) (f u) d
nest f t c u d true e = ap (λ (v : ℕ). cond (eqb d c) true (f v d)) (eqb-true u t e)
nest f t c u d false e = refl

pub is_noting : (t c : ℕ) (held : Bool) (m k : Seen) → t < 16 → c < 64 → ((u d : ℕ) → k.noted u d ≡ cond (eqb u t && eqb d c) true (m.noted u d)) → ((u : ℕ) → k.stale u ≡ cond (eqb u t) (m.stale t || held) (m.stale u)) → k ≡ noting t c held m
is_noting t c held m k h l n s =
    same_seen _ _ (λ u d. n u d ∙ nest m.noted t c u d (eqb u t) refl) s
    ∙ sym (cond-true (a_task t && a_cell c) _ _ (and_from _ _ (lt-ltb t 16 h) (lt-ltb c 64 l)))

pub is_finished : (t : ℕ) (set : ℕ → Bool) (m k : Seen) → t < 16 → ((u c : ℕ) → k.noted u c ≡ m.noted u c) → ((u : ℕ) → k.stale u ≡ (m.stale u || meets (m.noted u) set)) → begun t k ≡ finished t set m
is_finished t set m k h n s =
    ap (begun t) (same_seen k (record { noted = m.noted; stale = λ u. m.stale u || meets (m.noted u) set }) n s) ∙ at_task t _ _ h ∙ sym (at_task t _ _ h)

pub spends : (t : ℕ) (set : ℕ → Bool) (l k : ℕ → ℕ) → t < 16 → Lines (less set) l k → Lines (spending t set) l k
spends t set l k h ok = subst (λ (s : Spending). Lines s l k) (sym (at_task t (less set) same h)) ok
