-- The operation that a call looks up is the task's own, and the place after one that does not close its task is a place.
use Rattle.std.proofs.Common.{◌≡◌, ℕ, ◌+◌, ◌<◌, ◌≤◌, true, false, ltb, List, [], length, arith}
use Rattle.std.proofs.lemmas.List.{get_or_past}
use Rattle.std.proofs.lemmas.List.Sums.{get_or-le-sum_by}
use Rattle.std.proofs.lemmas.Bool.Decides.{nat_tests}
use Rattle.program.specs.declared.Op.{Op}
use Rattle.sheet.specs.Ends.{closes, lands}
use Rattle.engine.specs.Lookup.{bounded, op_at}
use Rattle.station.specs.Rules.{ops_of, op_of}
use Rattle.station.specs.Kept.{KeptTable}

module _ {code : List (List Op)} {cells consts : ℕ} (k : KeptTable code cells consts) where
  -- each task has at most 1,024 operations
  short : (t : ℕ) → length (ops_of code t) ≤ 1024
  short t = let l = get_or-le-sum_by length code t [] in grind (arith, get_or_past)

  -- an operation in bounds is looked up as it is
  bounded_same : (t p : ℕ) → bounded (op_of code t p) ≡ op_of code t p
  bounded_same t p = let b = k.in_bounds t p in grind (arith, nat_tests)

  -- What is looked up is the task's own operation; where there is none, both are a finish.
  looks_up : (t p : ℕ) → op_at code t p ≡ op_of code t p
  looks_up t p = let same = bounded_same t p in let few = short t in grind (arith, nat_tests, get_or_past)

  pub lands_at : (t p : ℕ) → lands (length (ops_of code t)) (length code) (op_at code t p) ≡ true
  lands_at t p = let same = looks_up t p in let b = k.in_bounds t p in grind (arith, nat_tests)

  -- A task that is given has an operation.
  pub not_empty : (t : ℕ) → t < length code → 0 < length (ops_of code t)
  not_empty t h = grind (arith, nat_tests)

  -- a task with an operation is given
  is_given : (t p : ℕ) → p < length (ops_of code t) → t < length code
  is_given t p h = grind (arith, get_or_past)

  -- After an operation that does not close its task comes another.
  pub goes_on : (t p : ℕ) → p < length (ops_of code t) → closes (op_at code t p) ≡ false → ltb (p + 1) (length (ops_of code t)) ≡ true
  goes_on t p h more = let same = looks_up t p in let closed = k.tasks_closed t (is_given t p h) in grind (arith, nat_tests)
