-- Lines put one after another.
use Rattle.std.proofs.Common.{◌≡◌, ℕ, zero, suc, ◌+◌, ◌<◌, List, [], ◌∷◌, ◌++◌, length, get_or, take, sym, refl, ap, ◌∙◌, append_assoc, append-nil, add-one, arith}
use Rattle.std.specs.List.{flat_map}
use Rattle.std.proofs.lemmas.List.{take_more, flat_map_more, length-append}
use Rattle.program.specs.declared.Op.{Op}
use denote.Ref.{Bor}
use Rattle.std.specs.Fn.{Shared}
use Rattle.text.specs.Line.{spelt}
use Rattle.text.specs.declared.output.Line.{Line}
use Rattle.sheet.specs.declared.output.Out.{Out}
use Rattle.sheet.specs.Output.{over, Lays, Spells}
use Rattle.sheet.specs.Writing.{task_text, op_text, tasks_text}
use Rattle.sheet.proofs.Overlaid.{over_append}

-- one text after another
pub laid_more : (s m n : Out) (a b c : List ℕ) → Lays s m a → Lays m n b → c ≡ a ++ b → Lays s n c
laid_more s m n a b c p q is = record {
  bytes = q.bytes ∙ p.bytes;
  laid =
      q.laid
      ∙ ((λ i. over (p.ends i) b (p.laid i)) ∙ (sym (over_append s.end a b s.bytes.now) ∙ ap (λ l. over s.end l s.bytes.now) (sym is)));
  ends = omega (arith, p.ends, q.ends, length-append a b, ap length is);
}

-- the line of one more element
pub line_put : {X : Type 0} (f : X → List ℕ) (xs : List X) (i : ℕ) (x : X) (line : List ℕ) (s m n : Out) → i < length xs → x ≡ get_or xs i x → line ≡ f x → Lays s m (flat_map f (take i xs)) → Lays m n line → Lays s n (flat_map f (take (i + 1) xs))
line_put f xs i x line s m n h e is p q =
    laid_more s m n (flat_map f (take i xs)) line (flat_map f (take (i + 1) xs)) p q (ap (flat_map f) (take_more xs i x h) ∙ (sym (flat_map_more f [] (take i xs) (get_or xs i x)) ∙ ap (λ l. flat_map f (take i xs) ++ l) (ap f (sym e) ∙ sym is)))

-- the line of a call is the item's text
pub spelt_at : {F T : Type 0} (g : Shared F (Bor T × Unit {0}) Line) (f : F) (text : T → List ℕ) → Spells g f text → (p : Bor T) (l : Line) → g.post f (p, tt) l → spelt l ≡ text p.now
spelt_at g f text h p l met = h p.now l (record { shown = p; shows = refl; says = record { met = met } })

pub tasks_next : (os : List ℕ) (cs : List (List Op)) (t : ℕ) → t < length os → t < length cs → tasks_text (take (suc t) os) (take (suc t) cs) ≡ tasks_text (take t os) (take t cs) ++ (task_text (get_or os t 0) ++ flat_map op_text (get_or cs t []))
tasks_next [] cs t h g = absurd (omega arith)
tasks_next (o ∷ os) [] t h g = absurd (omega arith)
tasks_next (o ∷ os) (c ∷ cs) zero h g = ap (λ l. task_text o ++ l) (append-nil (flat_map op_text c))
tasks_next (o ∷ os) (c ∷ cs) (suc t) h g =
    ap (λ l. task_text o ++ (flat_map op_text c ++ l)) (tasks_next os cs t (omega arith) (omega arith))
    ∙ (ap (λ l. task_text o ++ l) (sym (append_assoc (flat_map op_text c) (tasks_text (take t os) (take t cs)) more)) ∙ sym (append_assoc (task_text o) (flat_map op_text c ++ tasks_text (take t os) (take t cs)) more))
  where
    more : List ℕ
    more = task_text (get_or os t 0) ++ flat_map op_text (get_or cs t [])

-- a task's line, and then its operations
pub task_put : (os : List ℕ) (cs : List (List Op)) (t : ℕ) (line : List ℕ) (s m k n : Out) → t < length os → t < length cs → line ≡ task_text (get_or os t 0) → Lays s m (tasks_text (take t os) (take t cs)) → Lays m k line → Lays k n (flat_map op_text (get_or cs t [])) → Lays s n (tasks_text (take (t + 1) os) (take (t + 1) cs))
task_put os cs t line s m k n h g is p q r =
    let was : List ℕ = tasks_text (take t os) (take t cs) in
    let ops : List ℕ = flat_map op_text (get_or cs t []) in
    laid_more s k n (was ++ line) ops _ (laid_more s m k was line (was ++ line) p q refl) r
    ((λ i. tasks_text (take (add-one t i) os) (take (add-one t i) cs)) ∙ (tasks_next os cs t h g ∙ (ap (λ l. was ++ (l ++ ops)) (sym is) ∙ sym (append_assoc was line ops))))
