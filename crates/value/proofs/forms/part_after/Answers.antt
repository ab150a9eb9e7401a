use Rattle.std.proofs.Common.{rules}
use Rattle.value.specs.Places.{tagged_seen}
use Rattle.value.proofs.forms.part_after.Goals as goal

pub returns-in-Mark : goal.returns-in-Mark
returns-in-Mark c = rw (← tagged_seen c.args.letter c.args.tokens.now) (search rules)

pub returns-in_default : goal.returns-in_default
returns-in_default c = rw (← tagged_seen c.args.letter c.args.tokens.now) (search rules)
