use Rattle.std.proofs.Common.{get_or, replicate, ◌∙◌, rules}
use Rattle.std.proofs.lemmas.List.{length-replicate}
use Rattle.book.proofs.Made.{made_list}
use Rattle.board.specs.Boards.{idle_row, no_row}
use Rattle.board.specs.Laying.{laid}
use Rattle.board.proofs.Places.{length-laid, get_or-laid}
use Rattle.board.proofs.rows_of.Goals as goal

pub returns : goal.returns
returns c =
    let owed = c.args.owed.now in
    made_list _ _ (λ t. idle_row (get_or owed t 0)) 16 (λ i y q less k. search rules) c.from_fn.result no_row (laid idle_row 0 owed (replicate 16 (idle_row 0))) c.from_fn.ensures.items
    (length-laid idle_row 0 no_row 0 owed (replicate 16 (idle_row 0)) ∙ length-replicate 16 (idle_row 0))
    (get_or-laid idle_row 0 no_row 16 owed)
