-- What a program's table keeps: each of its methods, as a fact about its lists.
use Rattle.std.proofs.Common.{◌≡◌, ℕ, ◌+◌, ◌-◌, ◌<◌, ◌≤◌, List, [], ◌∷◌, ◌++◌, length, get_or, take, drop, set, sum_by, sum, sym, refl, ap, ◌∙◌, ⊎_elim, arith}
use Rattle.std.proofs.Math.ListN.{get_or-map}
use Rattle.std.proofs.Math.Seq.{map-set_same}
use Rattle.std.proofs.lemmas.List.{take_more, take_more_set, take-take, drop-take, take-set-le, length-take-le, length-map, map-set, get_or-take, get_or-set_same, get_or-set_other, get_or_past, length-set}
use Rattle.std.proofs.lemmas.List.Sums.{sum_by_push}
use Rattle.std.proofs.lemmas.Bool.{cases_eq}
use Rattle.program.specs.Code.{on_last, chunks}
use Rattle.program.specs.declared.table.Program.{Program}
use Rattle.program.specs.declared.table.Span.{Span}
use Rattle.program.specs.Spans.{firsts, lens}
use Rattle.program.proofs.Chunks.{length-chunks, chunks_push, sum-chunks, chunks_grow, get_or-chunks, ends-within}

abbrev pub nowhere : Span
nowhere = record { first = 0; len = 0 }

-- the facts of a table of n tasks and u elements used
pub record Kept {X : Type 0} (xs : List X) (u : ℕ) (ss : List Span) (n : ℕ) : Type 0 where
  pub room : length xs ≡ 1024
  pub spans : length ss ≡ 16
  pub few : n ≤ 16
  pub within : u ≤ 1024
  pub filled : sum (take n (lens ss)) ≡ u
  pub placed : (t : ℕ) → t < n → get_or (firsts ss) t 0 ≡ sum (take t (lens ss))

module _ {X : Type 0} (xs : List X) (u : ℕ) (ss : List Span) (n : ℕ) (k : Kept xs u ss n) where
  abbrev ns : List ℕ
  ns = lens ss

  abbrev lists : List (List X)
  lists = chunks (take n ns) (take u xs)

  abbrev first : ℕ → ℕ
  first t = (get_or ss t nowhere).first

  abbrev len : ℕ → ℕ
  len t = (get_or ss t nowhere).len

  lens_length : length ns ≡ 16
  lens_length = length-map ss _ ∙ k.spans

  used_length : length (take u xs) ≡ u
  used_length = length-take-le u xs (omega (arith, k.room, k.within))

  len_is : (t : ℕ) → get_or ns t 0 ≡ len t
  len_is t = get_or-map (λ (s : Span). s.len) ss t nowhere

  pub tasks : length lists ≡ n
  tasks = length-chunks (take n ns) (take u xs) ∙ length-take-le n ns (omega (arith, lens_length, k.few))

  pub total : sum_by length lists ≡ u
  total = sum-chunks (take n ns) (take u xs) (k.filled ∙ sym used_length) ∙ used_length

  module _ (f : ℕ) where
    abbrev added : List Span
    added = set ss n (record { first = f; len = 0 })

    lens-added : n < 16 → take (n + 1) (lens added) ≡ take n ns ++ (0 ∷ [])
    lens-added h = ap (take (n + 1)) (map-set (λ (s : Span). s.len) ss n _) ∙ take_more_set ns n 0 (omega (arith, lens_length))

    before-added : (t : ℕ) → t ≤ n → take t (lens added) ≡ take t ns
    before-added t h = ap (take t) (map-set (λ (s : Span). s.len) ss n _) ∙ take-set-le t ns n 0 h

    pub task-added : n < 16 → chunks (take (n + 1) (lens added)) (take u xs) ≡ lists ++ ([] ∷ [])
    task-added h = ap (λ l. chunks l (take u xs)) (lens-added h) ∙ chunks_push (take n ns) (take u xs)

    pub task-kept : f ≡ u → n < 16 → Kept xs u added (n + 1)
    task-kept e h = record {
      room = k.room;
      spans = length-set ss n _ ∙ k.spans;
      few = omega arith;
      within = k.within;
      filled = ap sum (lens-added h) ∙ (sum_by_push (λ x. x) (take n ns) 0 ∙ omega (arith, k.filled));
      placed = λ t l.
          ap (λ l. get_or l t 0) (map-set (λ (s : Span). s.first) ss n _)
          ∙ (⊎_elim
          (λ (q : t ≡ n).
          ap (λ m. get_or (set (firsts ss) n f) m 0) q
          ∙ (get_or-set_same (firsts ss) n f 0 (omega (arith, length-map ss (λ (s : Span). s.first), k.spans)) ∙ (e ∙ (sym k.filled ∙ ap (λ m. sum (take m ns)) (sym q)))))
          (λ ne. get_or-set_other (firsts ss) n t f 0 ne ∙ k.placed t (omega arith))
          (cases_eq t n) ∙ ap sum (sym (before-added t (omega arith))));
    }

  in_lens : (t : ℕ) → t < n → t < length (take n ns)
  in_lens t h = omega (arith, length-take-le n ns (omega (arith, lens_length, k.few)))

  lens_at : (t : ℕ) → t < n → get_or (take n ns) t 0 ≡ len t
  lens_at t h = get_or-take n ns t 0 h ∙ len_is t

  lens_within : (t : ℕ) → t < n → sum (take t (take n ns)) + len t ≤ u
  lens_within t h = omega (arith, ends-within (take n ns) t (in_lens t h), k.filled, lens_at t h)

  pub last_within : 0 < n → len (n - 1) ≤ u
  last_within h = omega (arith, lens_within (n - 1) (omega arith))

  pub none_past : (t : ℕ) → length (take n ss) ≤ t → get_or lists t [] ≡ []
  none_past t h = get_or_past lists t [] (omega (arith, tasks, length-take-le n ss (omega (arith, k.spans, k.few))))

  -- where a task's operations stand in the table
  module _ (t : ℕ) (s : Span) (h : t < length (take n ss)) (e : s ≡ get_or (take n ss) t nowhere) where
    given : t < n
    given = omega (arith, length-take-le n ss (omega (arith, k.spans, k.few)))

    there : s ≡ get_or ss t nowhere
    there = e ∙ get_or-take n ss t nowhere given

    begins : sum (take t (take n ns)) ≡ s.first
    begins =
        ap sum (take-take t n ns (omega (arith, given)))
        ∙ (sym (k.placed t given) ∙ (get_or-map (λ (r : Span). r.first) ss t nowhere ∙ ap (λ (r : Span). r.first) (sym there)))

    long : get_or (take n ns) t 0 ≡ s.len
    long = lens_at t given ∙ ap (λ (r : Span). r.len) (sym there)

    pub ends_by : s.first + s.len ≤ u
    ends_by = omega (arith, lens_within t given, lens_at t given, begins, long)

    pub ops_at : take (s.first + s.len - s.first) (drop s.first xs) ≡ get_or lists t []
    ops_at =
        let d : s.first + s.len - s.first ≡ s.len = omega arith in
        let r : s.first + (u - s.first) ≡ u = omega (arith, ends_by) in
        ap (λ m. take m (drop s.first xs)) d
        ∙ (sym (take-take s.len (u - s.first) (drop s.first xs) (omega (arith, ends_by)))
        ∙ (ap (take s.len) (sym (drop-take s.first (u - s.first) xs) ∙ ap (λ m. drop s.first (take m xs)) r)
        ∙ ((λ i. take (sym long i) (drop (sym begins i) (take u xs))) ∙ sym (get_or-chunks (take n ns) (take u xs) t (in_lens t given)))))

  -- the table with an operation more of the last task
  abbrev grown : List Span
  grown = set ss (n - 1) (record { first = first (n - 1); len = len (n - 1) + 1 })

  lens-grown : lens grown ≡ set ns (n - 1) (len (n - 1) + 1)
  lens-grown = map-set (λ (s : Span). s.len) ss (n - 1) _

  -- the lengths, with the last apart
  last_apart : 0 < n → take n ns ≡ take (n - 1) ns ++ (len (n - 1) ∷ [])
  last_apart h =
      let e : n ≡ n - 1 + 1 = omega arith in
      ap (λ m. take m ns) e ∙ (take_more ns (n - 1) 0 (omega (arith, lens_length, k.few)) ∙ ap (λ m. take (n - 1) ns ++ (m ∷ [])) (len_is (n - 1)))

  last_more : 0 < n → take n (lens grown) ≡ take (n - 1) ns ++ ((len (n - 1) + 1) ∷ [])
  last_more h =
      let e : n ≡ n - 1 + 1 = omega arith in
      ap (take n) lens-grown ∙ (ap (λ m. take m (set ns (n - 1) (len (n - 1) + 1))) e ∙ take_more_set ns (n - 1) _ (omega (arith, lens_length, k.few)))

  pub op_added : (x : X) → 0 < n → u < 1024 → chunks (take n (lens grown)) (take (u + 1) (set xs u x)) ≡ on_last lists x
  op_added x h g =
      (λ i. chunks (last_more h i) (take_more_set xs u x (omega (arith, k.room)) i))
      ∙ (chunks_grow (take (n - 1) ns) (len (n - 1)) (take u xs) x (ap sum (sym (last_apart h)) ∙ (k.filled ∙ sym used_length))
      ∙ ap (λ l. on_last (chunks l (take u xs)) x) (sym (last_apart h)))

  pub op_kept : (x : X) → 0 < n → u < 1024 → Kept (set xs u x) (u + 1) grown n
  op_kept x h g = record {
    room = length-set xs u x ∙ k.room;
    spans = length-set ss (n - 1) _ ∙ k.spans;
    few = k.few;
    within = omega arith;
    filled = ap sum (last_more h) ∙ omega (arith, sum_by_push (λ x. x) (take (n - 1) ns) (len (n - 1) + 1), sum_by_push (λ x. x) (take (n - 1) ns) (len (n - 1)), ap sum (last_apart h), k.filled);
    placed = λ t l.
        ap (λ l. get_or l t 0) (map-set_same (λ (s : Span). s.first) ss (n - 1) _ nowhere refl)
        ∙ (k.placed t l ∙ ap sum (sym (ap (take t) lens-grown ∙ take-set-le t ns (n - 1) _ (omega arith))));
  }

pub of : (p : Program) → Kept p.ops p.used p.spans p.count
of p = record {
  room = p.sizes.0;
  spans = p.sizes.1;
  few = p.sizes.2;
  within = p.sizes.3;
  filled = p.filled;
  placed = p.placed;
}
