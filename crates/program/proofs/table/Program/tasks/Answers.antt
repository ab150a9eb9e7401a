use Rattle.std.proofs.Common.{sym}
use Rattle.program.proofs.Tables.{of, tasks}
use Rattle.program.proofs.table.Program.tasks.Goals as goal

pub returns-clause-value : goal.returns-clause-value
returns-clause-value c = let p = c.args.self.now in sym (tasks p.ops p.used p.spans p.count (of p))
