use Rattle.std.proofs.Common.{◌≡◌, take}
use Rattle.text.specs.Line.{spelt, added}
use Rattle.text.proofs.output.Line.extend.Given as goal

abbrev pub invariant-loop-b : goal.invariant-loop-b
invariant-loop-b l = spelt l.self ≡ added (spelt l.initial.self) (take l.b-index l.more)
