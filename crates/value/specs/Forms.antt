-- The forms of values: one pair of brackets around a letter and mostly, after a space, a part.
use Rattle.std.specs.Prelude.{◌≡◌, ℕ, Bool, false, cond, ◌&&◌, List, [], ◌∷◌, ◌++◌, length, get_or, Some, None, Option, ◌==◌, ◌≢◌, slice_index, slice_index_or}
use Rattle.std.specs.List.{AllByRecursion}
use Rattle.text.specs.Tokens.{Tok, end, number, word, mark, rest, seen}
use Rattle.text.specs.declared.token.Token.{Token}
use Rattle.text.specs.declared.token.Token.TheVariants.{End}

-- no bracket and no line feed
abbrev pub Plain : ℕ → Type 0
Plain b = (b ≢ 40) × (b ≢ 41) × (b ≢ 10)

-- one pair of brackets around plain bytes
pub record Bracketed (bs : List ℕ) : Type 0 where
  pub inside : List ℕ
  pub is : bs ≡ 40 ∷ (inside ++ (41 ∷ []))
  pub plain : AllByRecursion Plain inside

-- `(`, a letter, a space, a part, `)`
abbrev pub tagged : ℕ → List ℕ → List ℕ
tagged letter part = 40 ∷ letter ∷ 32 ∷ (part ++ (41 ∷ []))

abbrev pub is_mark : ℕ → Tok → Bool
is_mark b end = false
is_mark b (number w) = false
is_mark b (word w) = false
is_mark b (mark c) = c == b
is_mark b (rest w) = false

abbrev pub is_letter : ℕ → Tok → Bool
is_letter b end = false
is_letter b (number w) = false
is_letter b (word w) = length w == 1 && slice_index w 0 == b
is_letter b (mark c) = false
is_letter b (rest w) = false

-- the bytes of a number or a word
abbrev pub part_of : Tok → Option (List ℕ)
part_of end = None
part_of (number w) = Some w
part_of (word w) = Some w
part_of (mark b) = None
part_of (rest w) = None

-- the part, where n tokens in their places are those of the letter's form
abbrev pub tagged_at : ℕ → ℕ → (ℕ → Tok) → Option (List ℕ)
tagged_at letter n at =
    cond
    (n == 5 && (is_mark 40 (at 0) && (is_letter letter (at 1) && (is_mark 32 (at 2) && is_mark 41 (at 4)))))
    (part_of (at 3)) None

abbrev pub tagged_part : ℕ → List Tok → Option (List ℕ)
tagged_part letter ts = tagged_at letter (length ts) (λ k. get_or ts k end)

-- whether they are those of a letter alone in its brackets
abbrev pub lone_at : ℕ → ℕ → (ℕ → Tok) → Bool
lone_at letter n at = n == 3 && (is_mark 40 (at 0) && (is_letter letter (at 1) && is_mark 41 (at 2)))

abbrev pub lone : ℕ → List Tok → Bool
lone letter ts = lone_at letter (length ts) (λ k. get_or ts k end)

-- a token in its place
abbrev pub seen_at : List Token → ℕ → Tok
seen_at ts k = seen (slice_index_or ts k End)
