-- Tokens in their places: the tokens of a form, and the bytes of tokens that are a form's.
use Rattle.std.specs.Prelude.{◌≡◌, ℕ, zero, suc, ◌<◌, ◌≤◌, Bool, true, false, cond, List, [], ◌∷◌, ◌++◌, map, length, Some, ◌==◌, slice_index, slice_index_or, refl}
use Rattle.std.proofs.Common.{sym, ap, ◌∙◌, arith}
use Rattle.std.specs.List.{flat_map, AllByRecursion}
use Rattle.std.proofs.lemmas.Bool.{cond-true, and_parts, eqb-true}
use Rattle.text.specs.Tokens.{Tok, end, number, word, mark, rest, seen, text, figure, atom, part, prefixed, lexed}
use Rattle.std.proofs.lemmas.List.{length-map}
use Rattle.text.specs.declared.token.Token.{Token}
use Rattle.value.specs.Answers.{present}
use Rattle.value.specs.Forms.{tagged, is_mark, is_letter, part_of, tagged_at, tagged_part, lone_at, lone, seen_at}

onto_part : (b c : ℕ) (w : List ℕ) (f : Bool) (ts : List Tok) → prefixed b (cond f (number (c ∷ w)) (word (c ∷ w)) ∷ ts) ≡ part b (c ∷ w) ∷ ts
onto_part b c w true ts = refl
onto_part b c w false ts = refl

-- letters, digits and minus before the closing bracket are one token
lexed_part : (b : ℕ) (w : List ℕ) → atom b ≡ true → AllByRecursion (λ c. atom c ≡ true) w → lexed (b ∷ (w ++ (41 ∷ []))) ≡ part b w ∷ mark 41 ∷ []
lexed_part b [] h all = cond-true (atom b) (prefixed b (mark 41 ∷ [])) (mark b ∷ mark 41 ∷ []) h
lexed_part b (c ∷ w) h all =
    cond-true (atom b) (prefixed b (lexed (c ∷ (w ++ (41 ∷ []))))) (mark b ∷ lexed (c ∷ (w ++ (41 ∷ [])))) h
    ∙ (ap (prefixed b) (lexed_part c w all.0 all.1) ∙ onto_part b c w (figure c) (mark 41 ∷ []))

part_of_part : (b : ℕ) (w : List ℕ) (f : Bool) → part_of (cond f (number (b ∷ w)) (word (b ∷ w))) ≡ Some (b ∷ w)
part_of_part b w true = refl
part_of_part b w false = refl

-- the tokens of a part after a letter's front
pub lexed_after : (w : List ℕ) → 0 < length w → AllByRecursion (λ c. atom c ≡ true) w → (t : Tok) × (part_of t ≡ Some w) × (lexed (w ++ (41 ∷ [])) ≡ t ∷ mark 41 ∷ [])
lexed_after [] some all = absurd (omega arith)
lexed_after (b ∷ w) some all = (part b w, part_of_part b w (figure b), lexed_part b w all.0 all.1)

text_mark : (b : ℕ) (t : Tok) → is_mark b t ≡ true → text t ≡ b ∷ []
text_mark b end h = absurd cc
text_mark b (number w) h = absurd cc
text_mark b (word w) h = absurd cc
text_mark b (mark c) h = ap (λ x. x ∷ []) (eqb-true c b h)
text_mark b (rest w) h = absurd cc

one_byte : (b : ℕ) (w : List ℕ) → length w ≡ 1 → slice_index w 0 ≡ b → w ≡ b ∷ []
one_byte b [] l e = absurd (omega arith)
one_byte b (c ∷ []) l e = ap (λ x. x ∷ []) e
one_byte b (c ∷ d ∷ w) l e = absurd (omega arith)

text_letter : (b : ℕ) (t : Tok) → is_letter b t ≡ true → text t ≡ b ∷ []
text_letter b end h = absurd cc
text_letter b (number w) h = absurd cc
text_letter b (word w) h = let p = and_parts _ _ h in one_byte b w (eqb-true _ 1 p.0) (eqb-true _ b p.1)
text_letter b (mark c) h = absurd cc
text_letter b (rest w) h = absurd cc

text_part : (t : Tok) (w : List ℕ) → part_of t ≡ Some w → text t ≡ w
text_part end w e = absurd cc
text_part (number v) w e = cc
text_part (word v) w e = cc
text_part (mark c) w e = absurd cc
text_part (rest v) w e = absurd cc

-- tokens by place, as they are and as they are seen
place : (ts : List Token) (k : ℕ) → seen_at ts k ≡ slice_index_or (map seen ts) k end
place [] k = refl
place (t ∷ ts) zero = refl
place (t ∷ ts) (suc k) = place ts k

pub tagged_seen : (letter : ℕ) (ts : List Token) → tagged_at letter (length ts) (seen_at ts) ≡ tagged_part letter (map seen ts)
tagged_seen letter ts = λ i. tagged_at letter (sym (length-map ts seen) i) (λ k. place ts k i)

pub lone_seen : (letter : ℕ) (ts : List Token) → lone_at letter (length ts) (seen_at ts) ≡ lone letter (map seen ts)
lone_seen letter ts = λ i. lone_at letter (sym (length-map ts seen) i) (λ k. place ts k i)

-- a part that may stand in a form: short, and letters, digits and minus alone
pub record Worded (w : List ℕ) : Type 0 where
  pub some : 0 < length w
  pub few : length w ≤ 12
  pub atoms : AllByRecursion (λ c. atom c ≡ true) w

-- tokens in the places of a form, put together again
three : (ts : List Tok) → length ts ≡ 3 → flat_map text ts ≡ text (slice_index_or ts 0 end) ++ (text (slice_index_or ts 1 end) ++ (text (slice_index_or ts 2 end) ++ []))
three [] h = absurd (omega arith)
three (a ∷ []) h = absurd (omega arith)
three (a ∷ b ∷ []) h = absurd (omega arith)
three (a ∷ b ∷ c ∷ []) h = refl
three (a ∷ b ∷ c ∷ d ∷ ts) h = absurd (omega arith)

five : (ts : List Tok) → length ts ≡ 5 → flat_map text ts ≡ text (slice_index_or ts 0 end) ++ (text (slice_index_or ts 1 end) ++ (text (slice_index_or ts 2 end) ++ (text (slice_index_or ts 3 end) ++ (text (slice_index_or ts 4 end) ++ []))))
five [] h = absurd (omega arith)
five (a ∷ []) h = absurd (omega arith)
five (a ∷ b ∷ ts) h = ap (λ l. text a ++ (text b ++ l)) (three ts (omega arith))

pub joined_lone : (letter : ℕ) (ts : List Tok) → lone letter ts ≡ true → flat_map text ts ≡ 40 ∷ letter ∷ 41 ∷ []
joined_lone letter ts h =
    let p = and_parts (length ts == 3) _ h in
    let q = and_parts (is_mark 40 (slice_index_or ts 0 end)) _ p.1 in
    let r = and_parts (is_letter letter (slice_index_or ts 1 end)) (is_mark 41 (slice_index_or ts 2 end)) q.1 in
    three ts (eqb-true (length ts) 3 p.0)
    ∙ (λ i. text_mark 40 (slice_index_or ts 0 end) q.0 i ++ (text_letter letter (slice_index_or ts 1 end) r.0 i ++ (text_mark 41 (slice_index_or ts 2 end) r.1 i ++ [])))

pub joined_tagged : (letter : ℕ) (ts : List Tok) (w : List ℕ) → tagged_part letter ts ≡ Some w → flat_map text ts ≡ tagged letter w
joined_tagged letter ts w e =
    let o = present _ (part_of (slice_index_or ts 3 end)) w e in
    let p = and_parts (length ts == 5) _ o.0 in
    let q = and_parts (is_mark 40 (slice_index_or ts 0 end)) _ p.1 in
    let r = and_parts (is_letter letter (slice_index_or ts 1 end)) _ q.1 in
    let s = and_parts (is_mark 32 (slice_index_or ts 2 end)) (is_mark 41 (slice_index_or ts 4 end)) r.1 in
    five ts (eqb-true (length ts) 5 p.0)
    ∙ (λ i. text_mark 40 (slice_index_or ts 0 end) q.0 i ++ (text_letter letter (slice_index_or ts 1 end) r.0 i ++ (text_mark 32 (slice_index_or ts 2 end) s.0 i ++ (text_part (slice_index_or ts 3 end) w o.1 i ++ (text_mark 41 (slice_index_or ts 4 end) s.1 i ++ [])))))
