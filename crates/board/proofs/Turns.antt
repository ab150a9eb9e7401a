-- Each loop over cells or tasks, before its first turn and after one more.
use Rattle.std.proofs.Common.{◌≡◌, ℕ, ◌+◌, Bool, cond, List, get_or, set, None, Option, sym, refl, ap, ◌∙◌, add-one}
use Rattle.board.specs.declared.Row.{Row}
use Rattle.board.specs.Boards.{mine}
use Rattle.board.specs.Loops.{deliver_one, delivered, release_one, released}

pub delivered_none : (ns : List ℕ) (rs : List Row) → delivered ns rs 0 ≡ rs
unfolding delivered
delivered_none ns rs = refl

pub delivered_more : (ns : List ℕ) (rs : List Row) (n : ℕ) → delivered ns rs (n + 1) ≡ deliver_one ns (delivered ns rs n) n
unfolding delivered
delivered_more ns rs n = rw add-one refl

pub released_none : (t : ℕ) (os : List (Option ℕ)) → released t os 0 ≡ os
unfolding released
released_none t os = refl

pub released_more : (t : ℕ) (os : List (Option ℕ)) (n : ℕ) → released t os (n + 1) ≡ release_one t (released t os n) n
unfolding released
released_more t os n = rw add-one refl

-- one turn more: b tells whether t owned the cell
pub released_turn : (t : ℕ) (os now next : List (Option ℕ)) (n : ℕ) (b : Bool) → now ≡ released t os n → b ≡ mine t (get_or now n None) → next ≡ cond b (set now n None) now → next ≡ released t os (n + 1)
released_turn t os now next n b before test after =
    after ∙ ap (λ (x : Bool). cond x (set now n None) now) test ∙ ap (λ (l : List (Option ℕ)). release_one t l n) before ∙ sym (released_more t os n)
