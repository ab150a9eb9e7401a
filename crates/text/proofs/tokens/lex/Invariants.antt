use Rattle.std.proofs.Common.{◌≡◌, ◌-◌, ◌≤◌, ◌++◌, map, length}
use Rattle.text.specs.Tokens.{seen, lexed, trimmed, tokens}
use Rattle.text.proofs.tokens.lex.Given as goal

abbrev pub invariant-loop-rest : goal.invariant-loop-rest
invariant-loop-rest l = record {
  within : length l.all.items ≤ 23;
  so_far : map seen l.all.items ++ trimmed (23 - length l.all.items) (lexed l.rest) ≡ tokens l.bytes;
}

abbrev pub decreases-loop-rest : goal.decreases-loop-rest
decreases-loop-rest l = length l.rest
