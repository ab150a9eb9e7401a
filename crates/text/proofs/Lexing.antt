-- Tokens: the first of some bytes, all of them in a row, and that nothing is lost.
use Rattle.std.proofs.Common.{◌≡◌, ℕ, zero, suc, ◌+◌, ◌<◌, ◌≤◌, Bool, true, false, cond, subst, List, [], ◌∷◌, ◌++◌, length, take, drop, sym, refl, ap, ◌∙◌, ⊎_elim, append-nil, one-add, arith}
use Rattle.std.specs.List.{flat_map, prefix_len, take_while}
use Rattle.std.proofs.lemmas.Bool.{cond-true, cond-false, cases_Bool}
use Rattle.std.proofs.lemmas.Grind.{common_steps}
use Rattle.text.specs.Tokens.{Tok, end, number, word, mark, rest, text, figure, atom, part, prefixed, lexed, trimmed, tokens}

-- a byte of a part before a part is one part
onto_part : (b c : ℕ) (w : List ℕ) (f : Bool) (ts : List Tok) → prefixed b (cond f (number (c ∷ w)) (word (c ∷ w)) ∷ ts) ≡ part b (c ∷ w) ∷ ts
onto_part b c w true ts = refl
onto_part b c w false ts = refl

-- the bytes of parts at the front make up the first token
part_run : (b : ℕ) (bs : List ℕ) → atom b ≡ true → lexed (b ∷ bs) ≡ part b (take (prefix_len atom bs) bs) ∷ lexed (drop (prefix_len atom bs) bs)
part_run b [] h = cond-true (atom b) (prefixed b []) (mark b ∷ []) h
part_run b (c ∷ cs) h =
    cond-true (atom b) (prefixed b (lexed (c ∷ cs))) (mark b ∷ lexed (c ∷ cs)) h
    ∙ ⊎_elim
    (λ (y : atom c ≡ true).
    ap (prefixed b) (part_run c cs y)
    ∙ (onto_part b c (take (prefix_len atom cs) cs) (figure c) (lexed (drop (prefix_len atom cs) cs))
    ∙ ap (λ n. part b (take n (c ∷ cs)) ∷ lexed (drop n (c ∷ cs))) (sym (cond-true (atom c) (1 + prefix_len atom cs) 0 y ∙ one-add (prefix_len atom cs)))))
    (λ (n : atom c ≡ false).
    ap (prefixed b) (cond-false (atom c) (prefixed c (lexed cs)) (mark c ∷ lexed cs) n)
    ∙ (ap (λ l. part b [] ∷ l) (sym (cond-false (atom c) (prefixed c (lexed cs)) (mark c ∷ lexed cs) n))
    ∙ ap (λ n. part b (take n (c ∷ cs)) ∷ lexed (drop n (c ∷ cs))) (sym (cond-false (atom c) (1 + prefix_len atom cs) 0 n))))
    (cases_Bool (atom c))

-- a part at the front, and what follows it
abbrev parted : ℕ → List ℕ → ℕ → List Tok
parted b bs n = cond (figure b) (number (take n bs)) (word (take n bs)) ∷ lexed (drop n bs)

first_cons : (b : ℕ) (bs : List ℕ) → atom b ≡ true → lexed (b ∷ bs) ≡ parted b (b ∷ bs) (prefix_len atom (b ∷ bs))
first_cons b bs a =
    part_run b bs a ∙ ap (parted b (b ∷ bs)) (sym (cond-true (atom b) (1 + prefix_len atom bs) 0 a ∙ one-add (prefix_len atom bs)))

-- bytes that begin with a part
module _ (bs : List ℕ) (b : ℕ) (others : List ℕ) (is : bs ≡ b ∷ others) (a : true ≡ atom b) where
  first_part : lexed bs ≡ parted b bs (prefix_len atom bs)
  first_part = subst (λ l. lexed l ≡ parted b l (prefix_len atom l)) (sym is) (first_cons b others (sym a))

  abbrev as_part : Bool → List Tok
  as_part f = cond f (number (take_while atom bs)) (word (take_while atom bs)) ∷ lexed (drop (prefix_len atom bs) bs)

  pub first_number : true ≡ figure b → lexed bs ≡ number (take_while atom bs) ∷ lexed (drop (prefix_len atom bs) bs)
  first_number f = first_part ∙ ap as_part (sym f)

  pub first_word : false ≡ figure b → lexed bs ≡ word (take_while atom bs) ∷ lexed (drop (prefix_len atom bs) bs)
  first_word f = first_part ∙ ap as_part (sym f)

joined_part : (b : ℕ) (w : List ℕ) (f : Bool) (ts : List Tok) → flat_map text (cond f (number (b ∷ w)) (word (b ∷ w)) ∷ ts) ≡ b ∷ (w ++ flat_map text ts)
joined_part b w true ts = refl
joined_part b w false ts = refl

joined_prefixed : (b : ℕ) (ts : List Tok) → flat_map text (prefixed b ts) ≡ b ∷ flat_map text ts
joined_prefixed b [] = joined_part b [] (figure b) []
joined_prefixed b (end ∷ ts) = joined_part b [] (figure b) (end ∷ ts)
joined_prefixed b (number w ∷ ts) = joined_part b w (figure b) ts
joined_prefixed b (word w ∷ ts) = joined_part b w (figure b) ts
joined_prefixed b (mark c ∷ ts) = joined_part b [] (figure b) (mark c ∷ ts)
joined_prefixed b (rest w ∷ ts) = joined_part b [] (figure b) (rest w ∷ ts)

-- tokens put together again are the bytes
pub lossless : (bs : List ℕ) → flat_map text (lexed bs) ≡ bs
lossless [] = refl
lossless (b ∷ bs) = grind (arith, common_steps, lossless bs, joined_prefixed b (lexed bs))

joined_trimmed : (n : ℕ) (ts : List Tok) → flat_map text (trimmed n ts) ≡ flat_map text ts
joined_trimmed n [] = refl
joined_trimmed zero (t ∷ ts) = append-nil (flat_map text (t ∷ ts))
joined_trimmed (suc n) (t ∷ ts) = ap (λ l. text t ++ l) (joined_trimmed n ts)

pub lossless_tokens : (bs : List ℕ) → flat_map text (tokens bs) ≡ bs
lossless_tokens bs = joined_trimmed 23 (lexed bs) ∙ lossless bs

-- short bytes keep all their tokens
pub few : (n : ℕ) (ts : List Tok) → length ts ≤ n → trimmed n ts ≡ ts
few n [] h = refl
few zero (t ∷ ts) h = absurd (omega arith)
few (suc n) (t ∷ ts) h = ap (λ l. t ∷ l) (few n ts (omega arith))

length-prefixed : (b : ℕ) (ts : List Tok) → length (prefixed b ts) ≤ suc (length ts)
length-prefixed b [] = omega arith
length-prefixed b (end ∷ ts) = omega arith
length-prefixed b (number w ∷ ts) = omega arith
length-prefixed b (word w ∷ ts) = omega arith
length-prefixed b (mark c ∷ ts) = omega arith
length-prefixed b (rest w ∷ ts) = omega arith

length-lexed : (bs : List ℕ) → length (lexed bs) ≤ length bs
length-lexed [] = omega arith
length-lexed (b ∷ bs) = grind (arith, common_steps, length-lexed bs, length-prefixed b (lexed bs))

pub tokens-short : (bs : List ℕ) → length bs ≤ 23 → tokens bs ≡ lexed bs
tokens-short bs h = few 23 (lexed bs) (omega (arith, length-lexed bs))

one_rest : (ts : List Tok) → 0 < length (flat_map text ts) → trimmed 0 ts ≡ rest (flat_map text ts) ∷ []
one_rest [] some = absurd (omega arith)
one_rest (t ∷ ts) some = refl

-- what is left where no token has a place of its own
pub all_left : (bs : List ℕ) → 0 < length bs → trimmed 0 (lexed bs) ≡ rest bs ∷ []
all_left bs some = one_rest (lexed bs) (rw lossless some) ∙ ap (λ l. rest l ∷ []) (lossless bs)
