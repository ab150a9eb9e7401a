use Rattle.std.proofs.Common.{◌≡◌, get_or, Err, sym, ap, ◌∙◌, arith}
use Rattle.std.specs.Option.{ok_or}
use Rattle.std.proofs.lemmas.Result.{err_from_is_err_and}
use Rattle.value.specs.declared.codes.Fault.TheVariants.{Form}
use Rattle.sheet.specs.Operations.{operation}
use Rattle.sheet.proofs.OpLines.{with_numbers, no_numbers}
use Rattle.sheet.proofs.operations.op_line.Goals as goal

pub returns-in_err-args-in-Some-eq32 : goal.returns-in_err-args-in-Some-eq32
returns-in_err-args-in-Some-eq32 c =
    let p = err_from_is_err_and c.from_residual.result c.from_residual.ensures.1 in
    let f = rw c.in_err-args-in-Some-eq32.ensures.ok_part at c.numbers_in.ensures in
    let k = no_numbers c.args.cells c.args.consts c.args.line.now c.in-Some-eq32.field-0.now (sym c.in-Some-eq32.ensures) c.in-Some-eq32.len_at_least (omega arith) f in
    let v = c.in_err-args-in-Some-eq32.ensures.value ∙ ap (λ o. ok_or o Form) c.in_err-args-in-Some-eq32.ensures.ok_part in
    let w : c.in_err-args-in-Some-eq32.field-0.0 ≡ Form = cc in
    p.1 ∙ (ap Err (p.2 ∙ w) ∙ sym k)

pub returns-in_ok-args-in-Some-eq32 : goal.returns-in_ok-args-in-Some-eq32
returns-in_ok-args-in-Some-eq32 c =
    let f = rw c.in_ok-args-in-Some-eq32.ensures.ok_part at c.numbers_in.ensures in
    let k = with_numbers c.args.cells c.args.consts c.args.line.now c.in-Some-eq32.field-0.now (sym c.in-Some-eq32.ensures) c.in-Some-eq32.len_at_least (omega arith) _ f in
    c.operation-in-Some-eq32.ensures ∙ (ap (operation c.args.cells c.args.consts (get_or c.in-Some-eq32.field-0.now 0 0)) c.as_slice.ensures.value ∙ sym k)
