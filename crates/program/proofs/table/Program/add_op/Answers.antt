use Rattle.std.proofs.Common.{◌<◌, ltb, length, sum_by, sym, arith}
use Rattle.program.specs.Program.{code}
use Rattle.std.proofs.lemmas.Bool.{lt-ltb, le-ltb, and_from, and_left, and_right}
use Rattle.program.proofs.Tables.{of, tasks, total, last_within, op_added, op_kept}
use Rattle.program.proofs.table.Program.add_op.Goals as goal
use Rattle.program.proofs.table.Program.add_op.Goals.{then-t-eq0-via-then-t-eq0, then-t-eq0-via-else-t-eq0+then-n-ge1024}

pub returns-then-t-eq0-clause-value : goal.returns-then-t-eq0-clause-value
returns-then-t-eq0-clause-value c =
    let p = c.args.self.now in
    let n = tasks p.ops p.used p.spans p.count (of p) in
    let u = total p.ops p.used p.spans p.count (of p) in
    elim c.then-t-eq0.branch [
      | then-t-eq0-via-then-t-eq0 w ↦ sym (and_left (ltb 0 (length (code p))) (ltb (sum_by length (code p)) 1024) (le-ltb 0 (length (code p)) (omega (arith, w.if-t-eq0.true))))
      | then-t-eq0-via-else-t-eq0+then-n-ge1024 w ↦ sym (and_right (ltb 0 (length (code p))) (ltb (sum_by length (code p)) 1024) (le-ltb (sum_by length (code p)) 1024 (omega (arith, w.if-n-ge1024.true))))
    ]

pub overflow_add-self-2 : goal.overflow_add-self-2
overflow_add-self-2 c =
    let p = c.args.self.now in
    let l = last_within p.ops p.used p.spans p.count (of p) (omega arith) in
    omega arith

pub invariant_of-self : goal.invariant_of-self
invariant_of-self c =
    let p = c.args.self.now in
    let k = op_kept p.ops p.used p.spans p.count (of p) c.args.op (omega arith) c.if-n-ge1024.false in
    record { sizes = (k.room, k.spans, k.few, k.within); filled = k.filled; placed = k.placed }

pub returns : goal.returns
returns c =
    let p = c.args.self.now in
    let some : 0 < p.count = omega arith in
    let n = tasks p.ops p.used p.spans p.count (of p) in
    let u = total p.ops p.used p.spans p.count (of p) in
    record {
      value = sym (and_from (ltb 0 (length (code p))) (ltb (sum_by length (code p)) 1024) (lt-ltb 0 (length (code p)) (omega arith)) (lt-ltb (sum_by length (code p)) 1024 (omega arith)));
      after = op_added p.ops p.used p.spans p.count (of p) c.args.op some c.if-n-ge1024.false;
    }
