use Rattle.std.proofs.Common.{ℕ, ◌+◌, ltb, ◌∙◌, arith, rules}
use Rattle.std.proofs.lemmas.Iterator.{YieldsList-from_slice, YieldsList-from_zip}
use Rattle.std.proofs.lemmas.Iterator.Search.{any_from_yields_List}
use Rattle.std.proofs.lemmas.Bool.Decides.{nat_tests}
use Rattle.book.proofs.Any.{any_zipped}
use Rattle.board.specs.declared.Row.{Row}
use Rattle.board.specs.Boards.{no_row}
use Rattle.board.proofs.Board.is_overfull.Goals as goal

pub returns : goal.returns
returns c =
    any_from_yields_List (λ (q : Row × ℕ). ltb 255 (q.0.owed + q.1)) c.any.new.self _ c.any.result c.any.ensures.ran
    (YieldsList-from_zip {s = c.zip.result} (YieldsList-from_slice c.args.self.now.rows cc) (YieldsList-from_slice c.args.counts.now cc))
    (λ x b q k. (search rules, search (rules, nat_tests)))
    ∙ any_zipped (λ (r : Row) (n : ℕ). ltb 255 (r.owed + n)) c.args.self.now.rows c.args.counts.now no_row 0 16 (omega arith) (omega arith)
