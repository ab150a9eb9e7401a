-- What a program holds: each task's operations, in order.
use Rattle.std.specs.Prelude.{List, take}
use Rattle.program.specs.declared.Op.{Op}
use Rattle.program.specs.declared.table.Program.{Program}
use Rattle.program.specs.Code.{chunks}
use Rattle.program.specs.Spans.{lens}

abbrev pub code : Program → List (List Op)
code p = chunks (take p.count (lens p.spans)) (take p.used p.ops)
