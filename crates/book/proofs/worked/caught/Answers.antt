use Rattle.std.proofs.Common.{ℕ, Bool, false, eqb, ap, ◌∙◌, arith}
use mathlib.Core.Path.{fun_ext}
use Rattle.book.specs.Seen.{stale_of, begun, noting, finished}
use Rattle.book.proofs.Flags.{one_cell, only_two, least}
use Rattle.book.proofs.worked.caught.Goals as goal

pub returns : goal.returns
returns g c =
    let notes = c.finish.ensures.notes
    ∙ ap (λ (s : ℕ → Bool). finished 3 s (g.B.Book.seen c.note.new.self)) (fun_ext one_cell)
    ∙ ap (finished 3 (λ k. eqb k 5)) (c.note.ensures.notes ∙ ap (noting 2 5 false) (c.begin.ensures.notes ∙ ap (begun 2) c.rest.ensures.notes)) in
    record {
      flags = λ t. c.stale_flags.ensures t ∙ ap (stale_of t) notes ∙ only_two t;
      notes = notes;
      spare = λ k h.
          let rested = c.rest.ensures.spare k h in
          let begun = ap (λ (l : ℕ → ℕ). l k) c.begin.ensures.spare in
          let noted = ap (λ (l : ℕ → ℕ). l k) c.note.ensures.spare in
          least _ _ _ (c.finish.ensures.spare k).1 (omega arith);
    }
