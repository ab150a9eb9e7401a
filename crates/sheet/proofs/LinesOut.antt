-- Lines that are written: none is longer than a line holds.
use Rattle.std.proofs.Common.{◌≡◌, ℕ, suc, ◌+◌, ◌*◌, ◌^◌, ◌<◌, ◌≤◌, List, [], ◌∷◌, ◌++◌, length, get_or, take, Some, None, decimal, Option, unwrap_or, sym, refl, ap, ◌∙◌, append_assoc, arith}
use Rattle.std.specs.List.{flat_map}
use Rattle.std.proofs.lemmas.Fmt.{length-decimal-le}
use Rattle.std.proofs.lemmas.List.{length-append, take_all, take_more, flat_map_more}
use Rattle.text.specs.Line.{added}
use Rattle.text.proofs.Lines.{added_more}
use Rattle.sheet.specs.Writing.{line_end, spaced, op_words}

pub formed_short : (o : Option (List ℕ)) → ((bs : List ℕ) → o ≡ Some bs → length bs ≤ 16) → length (unwrap_or o []) ≤ 16
formed_short None short = omega arith
formed_short (Some bs) short = short bs refl

-- three texts one after another, in a line that was empty
pub three : (a b c l0 l1 l2 l3 : List ℕ) → l0 ≡ [] → l1 ≡ added l0 a → l2 ≡ added l1 b → l3 ≡ added l2 c → length a + length b + length c ≤ 32 → l3 ≡ a ++ (b ++ c)
three a b c l0 l1 l2 l3 e0 e1 e2 e3 short =
    let one : l1 ≡ added [] a = e1 ∙ ap (λ l. added l a) e0 in
    let two : l2 ≡ added [] (a ++ b) = e2 ∙ (ap (λ l. added l b) one ∙ added_more [] a b) in
    let all : l3 ≡ added [] ((a ++ b) ++ c) = e3 ∙ (ap (λ l. added l c) two ∙ added_more [] (a ++ b) c) in
    all ∙ (take_all 32 ((a ++ b) ++ c) (omega (arith, length-append (a ++ b) c, length-append a b)) ∙ append_assoc a b c)

pub spaced_more : (base was one two ns : List ℕ) (i : ℕ) → i < length ns → was ≡ added base (flat_map spaced (take i ns)) → one ≡ added was (32 ∷ []) → two ≡ added one (decimal (get_or ns i 0)) → two ≡ added base (flat_map spaced (take (i + 1) ns))
spaced_more base was one two ns i h e f g =
    let n = get_or ns i 0 in
    g
    ∙ (ap (λ l. added l (decimal n)) f
    ∙ (added_more was (32 ∷ []) (decimal n)
    ∙ (ap (λ l. added l (spaced n)) e
    ∙ (added_more base (flat_map spaced (take i ns)) (spaced n)
    ∙ ap (added base) (flat_map_more spaced [] (take i ns) n ∙ ap (flat_map spaced) (sym (take_more ns i 0 h)))))))

-- a number of 16 bits has at most five digits
length-spaced : (ns : List ℕ) → ((i : ℕ) → get_or ns i 0 < 2 ^ 16) → length (flat_map spaced ns) ≤ 6 * length ns
length-spaced [] small = omega arith
length-spaced (n ∷ ns) small =
    let d = length-decimal-le 5 n (omega arith) (omega (arith, small 0)) (omega (arith, small 0)) in
    omega (arith, length-append (spaced n) (flat_map spaced ns), length-spaced ns (λ i. small (suc i)))

pub words_short : (l : ℕ) (ns was now : List ℕ) → ((i : ℕ) → get_or ns i 0 < 2 ^ 16) → was ≡ added (40 ∷ l ∷ []) (flat_map spaced ns) → now ≡ added was line_end → length ns ≤ 4 → now ≡ op_words l ns
words_short l ns was now small e f few =
    f
    ∙ (ap (λ x. added x line_end) e
    ∙ (added_more (40 ∷ l ∷ []) (flat_map spaced ns) line_end
    ∙ take_all 32 (op_words l ns) (omega (arith, length-append (flat_map spaced ns) line_end, length-spaced ns small))))
