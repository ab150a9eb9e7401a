use Rattle.std.proofs.Common.{refl, arith}
use Rattle.std.proofs.lemmas.Grind.{common_steps}
use Rattle.station.proofs.Fresh.{unowned}
use Rattle.station.proofs.kept.Station.new.Goals as goal

pub invariant_of-result : goal.invariant_of-result
invariant_of-result g c =
    let rows = c.rows_of.ensures in
    let ops = c.new-program.ensures in
    record {
      sizes = (refl, refl, grind (arith, common_steps));
      counts = λ t h. grind (arith, common_steps);
      limits = grind (arith, common_steps);
      bounds = λ t p. grind (arith, common_steps);
      ends = λ t h. grind (arith, common_steps);
      owners = λ x. simp (unowned 64 x);
      places = λ t. grind (arith, common_steps);
    }
