use Rattle.std.proofs.Common.{sym, refl, arith}
use Rattle.std.proofs.lemmas.Bool.{lt-ltb}
use Rattle.program.proofs.Tables.{of, tasks, task-added, task-kept}
use Rattle.program.proofs.table.Program.add_task.Goals as goal

pub invariant_of-self : goal.invariant_of-self
invariant_of-self c =
    let p = c.args.self.now in
    let k = task-kept p.ops p.used p.spans p.count (of p) p.used refl c.if-t-ge16.false in
    record { sizes = (k.room, k.spans, k.few, k.within); filled = k.filled; placed = k.placed }

pub returns : goal.returns
returns c =
    let p = c.args.self.now in
    let n = tasks p.ops p.used p.spans p.count (of p) in
    record { value = sym (lt-ltb _ 16 (omega arith)); after = task-added p.ops p.used p.spans p.count (of p) p.used c.if-t-ge16.false }
