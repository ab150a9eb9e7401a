-- The tokens of a value's place: number and word parts, and every other byte as a mark of its own.
use Rattle.std.specs.Prelude.{ℕ, zero, suc, Bool, cond, ◌&&◌, ◌||◌, List, [], ◌∷◌, ◌==◌, nat_le}
use Rattle.std.specs.List.{flat_map}
use Rattle.text.specs.declared.token.Token.{Token}
use Rattle.text.specs.declared.token.Token.TheVariants.{End, Number, Word, Mark, Rest}

-- a token by the bytes that it borrows
pub data Tok : Type 0 where
  end : Tok
  number : List ℕ → Tok
  word : List ℕ → Tok
  mark : ℕ → Tok
  rest : List ℕ → Tok

abbrev pub seen : Token → Tok
seen End = end
seen (Number p) = number p.now
seen (Word p) = word p.now
seen (Mark b) = mark b
seen (Rest p) = rest p.now

-- the bytes that a token stands for
abbrev pub text : Tok → List ℕ
text end = []
text (number w) = w
text (word w) = w
text (mark b) = b ∷ []
text (rest w) = w

-- digits and the minus begin a number
abbrev pub figure : ℕ → Bool
figure b = (nat_le 48 b && nat_le b 57) || b == 45

-- figures and small letters make up the parts
abbrev pub atom : ℕ → Bool
atom b = figure b || (nat_le 97 b && nat_le b 122)

-- a part, by its first byte
abbrev pub part : ℕ → List ℕ → Tok
part b w = cond (figure b) (number (b ∷ w)) (word (b ∷ w))

-- a byte of a part, before what follows it
abbrev pub prefixed : ℕ → List Tok → List Tok
prefixed b [] = part b [] ∷ []
prefixed b (end ∷ ts) = part b [] ∷ end ∷ ts
prefixed b (number w ∷ ts) = part b w ∷ ts
prefixed b (word w ∷ ts) = part b w ∷ ts
prefixed b (mark c ∷ ts) = part b [] ∷ mark c ∷ ts
prefixed b (rest w ∷ ts) = part b [] ∷ rest w ∷ ts

-- all tokens of the bytes; put together again they are the bytes
abbrev pub lexed : List ℕ → List Tok
lexed [] = []
lexed (b ∷ bs) = cond (atom b) (prefixed b (lexed bs)) (mark b ∷ lexed bs)

-- the first n tokens, and what follows them as one
abbrev pub trimmed : ℕ → List Tok → List Tok
trimmed n [] = []
trimmed zero (t ∷ ts) = rest (flat_map text (t ∷ ts)) ∷ []
trimmed (suc n) (t ∷ ts) = t ∷ trimmed n ts

-- the tokens that are handed to a kind's own reader, whatever the bytes are
abbrev pub tokens : List ℕ → List Tok
tokens bs = trimmed 23 (lexed bs)
