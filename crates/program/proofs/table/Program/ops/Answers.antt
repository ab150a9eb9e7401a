use Rattle.std.proofs.Common.{sym, arith}
use Rattle.program.proofs.Tables.{of, nowhere, none_past, ends_by, ops_at}
use Rattle.program.proofs.table.Program.ops.Goals as goal

pub returns-in_default-clause-value : goal.returns-in_default-clause-value
returns-in_default-clause-value c = let p = c.args.self.now in sym (none_past p.ops p.used p.spans p.count (of p) c.args.t c.in_default.ensures.lookup.3)

pub slice_bounds-result-end-2 : goal.slice_bounds-result-end-2
slice_bounds-result-end-2 c =
    let p = c.args.self.now in
    let there = c.in-Some.ensures.lookup.3 in
    omega (arith, ends_by p.ops p.used p.spans p.count (of p) c.args.t c.in-Some.span.now there.0 (there.1 nowhere), p.sizes.3)

pub returns-clause-value : goal.returns-clause-value
returns-clause-value c =
    let p = c.args.self.now in
    let there = c.in-Some.ensures.lookup.3 in
    ops_at p.ops p.used p.spans p.count (of p) c.args.t c.in-Some.span.now there.0 (there.1 nowhere)
