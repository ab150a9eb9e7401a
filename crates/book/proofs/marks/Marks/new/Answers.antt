use Rattle.std.proofs.Common.{false}
use Rattle.book.proofs.Changes.{same_seen}
use Rattle.book.proofs.Tables.{all_in, all_at}
use Rattle.book.proofs.marks.Marks.new.Goals as goal

pub returns-clause-notes : goal.returns-clause-notes
returns-clause-notes c = same_seen _ _ (λ u k. all_at false 64 16 k u) (all_in false 16)
