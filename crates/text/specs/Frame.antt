-- A line's frame: a fixed text at its front and a closing bracket at its end.
use Rattle.std.specs.Prelude.{ℕ, ◌-◌, Bool, true, false, cond, ◌&&◌, List, [], ◌∷◌, length, take, drop, Some, None, Option, ◌==◌, nat_lt, slice_index}

abbrev pub begins : List ℕ → List ℕ → Bool
begins [] line = true
begins (h ∷ hs) [] = false
begins (h ∷ hs) (b ∷ bs) = h == b && begins hs bs

-- what stands between the text and the line's closing bracket
abbrev pub framed : List ℕ → List ℕ → Option (List ℕ)
framed head line =
    cond (begins head line && (nat_lt (length head) (length line) && slice_index line (length line - 1) == 41))
    (Some (take (length line - 1 - length head) (drop (length head) line))) None
