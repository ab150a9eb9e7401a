use Rattle.std.proofs.Common.{◌≡◌, ℕ, eqb, [], ◌∷◌, map, length, Some, None, sym, ap, ◌∙◌, arith, rules}
use Rattle.std.proofs.lemmas.Iterator.Splits.{YieldsList-from_slice_split}
use Rattle.std.proofs.lemmas.Iterator.Consumers.{YieldsList-turn, YieldsList-end}
use Rattle.std.proofs.lemmas.List.{length-map, map-append}
use Rattle.std.proofs.lemmas.Bool.{eqb-true}
use borrow.Author.Tests.{tests}
use Rattle.text.specs.Cut.{cut}
use Rattle.sheet.specs.Lines.{all_numbers}
use Rattle.sheet.proofs.Arguments.{split_cut, none_all, length_all, more_all}
use Rattle.sheet.proofs.operations.numbers_in.Goals as goal

pub returns-in_err-n : goal.returns-in_err-n
returns-in_err-n c =
    let t = YieldsList-turn (YieldsList-from_slice_split _ (λ b. eqb b 32) c.args.bytes.now (cc) (cc) (cc) (λ x b q k. search (rules, tests))) c.loop-part.yielded _ c.loop-part.yielded_by _ _ c.in-Some.part c.in-Some.is c.next.ensures.steps in
    let none : all_numbers (cut 32 c.args.bytes.now) ≡ None = ap all_numbers (sym (split_cut 32 c.args.bytes.now)) ∙ none_all _ _ c.in-Some.part.now t.0 t.1 (sym c.in_err-n.ensures) in
    rw c.from_residual.ensures (λ ns e. absurd (let z : ◌≡◌ {A = ℕ} 0 1 = cc in omega arith))

pub returns-then-is_full : goal.returns-then-is_full
returns-then-is_full c ns e =
    let t = YieldsList-turn (YieldsList-from_slice_split _ (λ b. eqb b 32) c.args.bytes.now (cc) (cc) (cc) (λ x b q k. search (rules, tests))) c.loop-part.yielded _ c.loop-part.yielded_by _ _ c.in-Some.part c.in-Some.is c.next.ensures.steps in
    let l = length_all (cut 32 c.args.bytes.now) ns e in
    let m = length_all (map (λ x. x.now) c.loop-part.yielded) _ c.loop-part.invariant in
    let full = eqb-true (length c.loop-part.numbers.items) 4 (sym c.if-is_full.ensures.value) in
    omega (arith, t.0, length-map c.loop-part.yielded (λ x. x.now), ap length (split_cut 32 c.args.bytes.now))

pub loop-part-preserved : goal.loop-part-preserved
loop-part-preserved c =
    ap all_numbers (map-append (λ x. x.now) c.loop-part.yielded (c.in-Some.part ∷ []))
    ∙ (more_all (map (λ x. x.now) c.loop-part.yielded) c.in-Some.part.now c.in_ok-n.n (sym c.in_ok-n.ensures) _ c.loop-part.invariant ∙ ap Some (sym c.push.ensures.items))

pub returns : goal.returns
returns c =
    let t = YieldsList-end (YieldsList-from_slice_split _ (λ b. eqb b 32) c.args.bytes.now (cc) (cc) (cc) (λ x b q k. search (rules, tests))) c.loop-part.yielded _ c.loop-part.yielded_by _ _ c.in-None.is c.next.ensures.steps in
    ap all_numbers (sym (t.0 ∙ split_cut 32 c.args.bytes.now)) ∙ c.loop-part.invariant
