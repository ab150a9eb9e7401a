-- Output that bytes are laid over: one text after another, what falls away, and where all fits.
use Rattle.std.proofs.Common.{◌≡◌, ℕ, zero, suc, ◌+◌, ◌-◌, ◌<◌, ◌≤◌, min, List, [], ◌∷◌, ◌++◌, length, take, drop, set, sym, refl, ap, ◌∙◌, ⊎_elim, add-zero, add-one, arith}
use Rattle.std.proofs.lemmas.List.{take_all, drop_all, set_past, length-drop}
use Rattle.std.proofs.lemmas.Bool.{cases_lt}
use borrow.Rule.Slice.PartMut.{put_mid}
use Rattle.sheet.specs.Output.{over}

pub over_append : (at : ℕ) (a b out : List ℕ) → over at (a ++ b) out ≡ over (at + length a) b (over at a out)
over_append at [] b out = ap (λ n. over n b out) (sym (add-zero at))
over_append at (x ∷ a) b out =
    over_append (at + 1) a b (set out at x) ∙ ap (λ n. over n b (over (at + 1) a (set out at x))) (let e : at + 1 + length a ≡ at + suc (length a) = omega arith in e)

-- past the end all falls away
pub over_past : (at : ℕ) (bs out : List ℕ) → length out ≤ at → over at bs out ≡ out
over_past at [] out h = refl
over_past at (b ∷ bs) out h = ap (over (at + 1) bs) (set_past out at b h) ∙ over_past (at + 1) bs out (omega arith)

-- bytes laid over from the start: what stood behind them stays
shifted : (at : ℕ) (bs out : List ℕ) (x : ℕ) → over (at + 1) bs (x ∷ out) ≡ x ∷ over at bs out
shifted at [] out x = refl
shifted at (b ∷ bs) out x =
    ap (over (at + 1 + 1) bs) (ap (λ n. set (x ∷ out) n b) (add-one at)) ∙ shifted (at + 1) bs (set out at b) x

from_start : (bs out : List ℕ) → over 0 bs out ≡ take (length out) bs ++ drop (length bs) out
from_start [] [] = refl
from_start [] (x ∷ out) = refl
from_start (b ∷ bs) [] = over_past 1 bs [] (omega arith)
from_start (b ∷ bs) (x ∷ out) = shifted 0 bs out b ∙ ap (λ l. b ∷ l) (from_start bs out)

pub all_fits : (bs out : List ℕ) → length bs ≤ length out → over 0 bs out ≡ bs ++ drop (length bs) out
all_fits bs out h = from_start bs out ∙ ap (λ l. l ++ drop (length bs) out) (take_all (length out) bs h)

-- and from a place on
from_place : (at : ℕ) (bs out : List ℕ) → at ≤ length out → over at bs out ≡ take at out ++ (take (length (drop at out)) bs ++ drop (length bs) (drop at out))
from_place zero bs out h = from_start bs out
from_place (suc at) bs [] h = absurd (omega arith)
from_place (suc at) bs (x ∷ out) h =
    ap (λ n. over n bs (x ∷ out)) (sym (add-one at)) ∙ (shifted at bs out x ∙ ap (λ l. x ∷ l) (from_place at bs out (omega arith)))

same_part : (n : ℕ) (bs rest : List ℕ) → n ≡ min (length bs) (length rest) → take (length rest) bs ++ drop (length bs) rest ≡ take n bs ++ drop n rest
same_part n bs rest e =
    ⊎_elim
    (λ (h : length bs < length rest).
    let l : length bs ≡ n = omega arith in
    (λ i. (take_all (length rest) bs (omega arith) ∙ sym (take_all n bs (omega arith))) i ++ drop (l i) rest))
    (λ (h : length rest ≤ length bs).
    let l : length rest ≡ n = omega arith in
    (λ i. take (l i) bs ++ (drop_all (length bs) rest h ∙ sym (drop_all n rest (omega arith))) i))
    (cases_lt (length bs) (length rest))

-- a part of the output that was copied over
pub over_part : (at n : ℕ) (bs out : List ℕ) → at < length out → n ≡ min (length bs) (length out - at) → put_mid at (at + n - at) out (take n bs) ≡ over at bs out
over_part at n bs out h e =
    let w : at + n - at ≡ n = omega arith in
    let l = length-drop at out in
    ap (λ k. put_mid at k out (take n bs)) w
    ∙ sym (from_place at bs out (omega arith) ∙ ap (λ l. take at out ++ l) (same_part n bs (drop at out) (omega arith)))
