use Rattle.std.proofs.Common.{ℕ, Option, None, ◌∙◌, arith, rules}
use Rattle.std.proofs.lemmas.Iterator.{YieldsList-from_slice, YieldsList-from_zip}
use Rattle.std.proofs.lemmas.Iterator.Search.{any_from_yields_List}
use borrow.Author.Tests.{tests}
use Rattle.book.specs.Counted.{moved}
use Rattle.book.proofs.Any.{any_zipped}
use Rattle.book.proofs.counts.tasks.Task.is_stale.Goals as goal

pub returns-else-self : goal.returns-else-self
returns-else-self c =
    rw (c.if-self.false)
    (any_from_yields_List (λ (q : Option ℕ × ℕ). moved q.0 q.1) c.any.new.self _ c.any.result c.any.ensures.ran
    (YieldsList-from_zip {s = c.zip.result} (YieldsList-from_slice c.args.self.now.first cc) (YieldsList-from_slice c.args.commits.now cc))
    (λ x b q k. search (rules, tests))
    ∙ any_zipped moved c.args.self.now.first c.args.commits.now None 0 64 (omega arith) (omega arith))
