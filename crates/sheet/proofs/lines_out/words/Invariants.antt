use Rattle.std.proofs.Common.{◌≡◌, [], ◌∷◌, take}
use Rattle.std.specs.List.{flat_map}
use Rattle.text.specs.Line.{spelt, added}
use Rattle.sheet.specs.Writing.{spaced}
use Rattle.sheet.proofs.lines_out.words.Given as goal

abbrev pub invariant-loop-n : goal.invariant-loop-n
invariant-loop-n l = spelt l.line ≡ added (40 ∷ l.letter ∷ []) (flat_map spaced (take l.n-index l.numbers))
