-- What an answer tells of the tests before it.
use Rattle.std.proofs.Common.{◌≡◌, ℕ, Bool, true, false, cond, Some, None, Ok, Err, Option, Result, refl, arith}
use Rattle.std.specs.Result.{is_ok}

pub same_answer : {A E : Type 0} (x y : A) → ◌≡◌ {A = Result A E} (Ok x) (Ok y) → x ≡ y
same_answer x y e = cc

-- a test that holds where there is an answer
pub passed : {A E : Type 0} (b : Bool) (x : Result A E) (f : E) (u : A) → cond b x (Err f) ≡ Ok u → (b ≡ true) × (x ≡ Ok u)
passed true x f u e = (refl, e)
passed false x f u e = absurd (let z : ◌≡◌ {A = ℕ} 0 1 = cc in omega arith)

-- one that fails there
pub failed : {A E : Type 0} (b : Bool) (x : Result A E) (f : E) (u : A) → cond b (Err f) x ≡ Ok u → (b ≡ false) × (x ≡ Ok u)
failed true x f u e = absurd (let z : ◌≡◌ {A = ℕ} 0 1 = cc in omega arith)
failed false x f u e = (refl, e)

-- one that holds where something is found
pub found : {A : Type 0} (b : Bool) (x y : A) → cond b (Some x) None ≡ Some y → (b ≡ true) × (x ≡ y)
found true x y e = (refl, cc)
found false x y e = absurd (let z : ◌≡◌ {A = ℕ} 0 1 = cc in omega arith)

-- and one that holds where nothing is found
pub none_found : {A : Type 0} (b : Bool) (x : Option A) (y : A) → cond b x (Some y) ≡ None → (b ≡ true) × (x ≡ None)
none_found true x y e = (refl, e)
none_found false x y e = absurd (let z : ◌≡◌ {A = ℕ} 0 1 = cc in omega arith)

-- the value that a good call gave
pub given : {A E : Type 0} (r : Result A E) → true ≡ is_ok r → (x : A) × (r ≡ Ok x)
given (Ok x) e = (x, refl)
given (Err f) e = absurd cc

-- and the error that a failed one gave
pub failed_with : {A E : Type 0} (r : Result A E) → false ≡ is_ok r → (f : E) × (r ≡ Err f)
failed_with (Ok x) e = absurd cc
failed_with (Err f) e = (f, refl)
