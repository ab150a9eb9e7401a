use Rattle.std.proofs.Common.{false, rules}
use Rattle.book.specs.Seen.{stale_of}
use Rattle.book.proofs.Made.{made_all}
use Rattle.book.proofs.Flags.{none_past}
use Rattle.book.proofs.worked.stale_flags.Goals as goal

pub returns : goal.returns
returns g c = made_all _ _ (λ t. stale_of t (g.B.Book.seen c.args.book.now)) 16 (λ i y q less k. search rules) c.from_fn.result false c.from_fn.ensures.items (none_past (g.B.Book.seen c.args.book.now))
