-- Answers that are values, and what they come from.
use Rattle.std.specs.Prelude.{◌≡◌, ℕ, Bool, true, false, cond, List, Some, None, Ok, Err, Option, Result, refl}
use Rattle.std.proofs.Common.{sym, ◌∙◌}
use Rattle.text.specs.Tokens.{Tok, lexed}
use Rattle.value.specs.Operations.{answer}

-- an answer under a test, where it is a value: the test has passed
pub passed : {X E : Type 0} (b : Bool) (r : Result X E) (f : E) (x : X) → cond b r (Err f) ≡ Ok x → (b ≡ true) × (r ≡ Ok x)
passed true r f x e = (refl, e)
passed false r f x e = absurd cc

pub present : {X : Type 0} (b : Bool) (o : Option X) (x : X) → cond b o None ≡ Some x → (b ≡ true) × (o ≡ Some x)
present true o x e = (refl, e)
present false o x e = absurd cc

-- an answer that is a value comes from a value
pub answered : {X Y E : Type 0} (f : X → Y) (r : Result X E) (y : Y) → answer f r ≡ Ok y → (x : X) × (r ≡ Ok x) × (f x ≡ y)
answered f (Ok x) y e = (x, refl, cc)
answered f (Err d) y e = absurd cc

-- values with one form are one, since the form is read as each of them
pub apart_by : {V E : Type 0} (reads : List Tok → Result V E) (bs : List ℕ) (v w : V) → reads (lexed bs) ≡ Ok v → reads (lexed bs) ≡ Ok w → v ≡ w
apart_by reads bs v w e f = let g : Ok v ≡ Ok w = sym e ∙ f in cc
