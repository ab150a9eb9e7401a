use Rattle.std.proofs.Common.{◌≡◌, map, Some}
use Rattle.sheet.specs.Lines.{all_numbers}
use Rattle.sheet.proofs.operations.numbers_in.Given as goal

abbrev pub invariant-loop-part : goal.invariant-loop-part
invariant-loop-part l = all_numbers (map (λ x. x.now) l.yielded) ≡ Some l.numbers.items
