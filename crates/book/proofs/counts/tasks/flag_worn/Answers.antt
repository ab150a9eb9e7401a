use Rattle.std.proofs.Common.{rules}
use Rattle.book.proofs.Any.{any_none, any_more}
use Rattle.book.proofs.counts.tasks.flag_worn.Goals as goal

pub loop-c-init : goal.loop-c-init
loop-c-init c = search (rules, any_none)

pub loop-c-preserved : goal.loop-c-preserved
loop-c-preserved c = search (rules, any_more)
