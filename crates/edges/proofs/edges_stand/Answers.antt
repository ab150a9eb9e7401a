use Rattle.std.proofs.Common.{refl}
use lib.Ieee.{of_bits, to_bits, add, sub, le, lt, eq}
use Rattle.std.specs.Int.{int_wrap}
use Rattle.book.specs.Seen.{any}
use Rattle.board.specs.Laying.{blanked}
use Rattle.board.specs.Loops.{delivered, released, owned}
use Rattle.engine.specs.Restoring.{restored}
use Rattle.edges.proofs.edges_stand.Goals as goal

pub returns : goal.returns
unfolding of_bits to_bits add sub le lt eq int_wrap any blanked delivered released owned restored
returns c = refl
