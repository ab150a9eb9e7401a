-- What a release of cells and a delivery of owed calls leave at each place.
use Rattle.std.proofs.Common.{◌≡◌, ℕ, zero, suc, cond, ◌&&◌, ltb, List, length, get_or, None, Option, refl, arith}
use Rattle.std.proofs.lemmas.List.{set_past, get_or_past}
use Rattle.std.proofs.lemmas.Bool.Decides.{nat_tests}
use Rattle.std.proofs.lemmas.Grind.{common_steps}
use Rattle.board.specs.declared.Row.{Row}
use Rattle.board.specs.Boards.{no_row, mine}
use Rattle.board.specs.Loops.{delivered, released}

module _ (counts : List ℕ) (rs : List Row) where
  pub length-delivered : (n : ℕ) → length (delivered counts rs n) ≡ length rs
  unfolding delivered
  length-delivered zero = refl
  length-delivered (suc n) = let e = length-delivered n in grind (arith, common_steps)

  -- only what a task is owed changes
  pub delivered_at : (n u : ℕ)
      → ((get_or (delivered counts rs n) u no_row).state ≡ (get_or rs u no_row).state) × ((get_or (delivered counts rs n) u no_row).own ≡ (get_or rs u no_row).own)
  unfolding delivered
  delivered_at zero u = (refl, refl)
  delivered_at (suc n) u = let before = delivered_at n u in grind (arith, nat_tests, common_steps, set_past)

module _ (t : ℕ) (os : List (Option ℕ)) where
  pub length-released : (n : ℕ) → length (released t os n) ≡ length os
  unfolding released
  length-released zero = refl
  length-released (suc n) = let e = length-released n in grind (arith, common_steps)

  -- the cells of t among the first n lose their owner
  released_below : (n c : ℕ) → get_or (released t os n) c None ≡ cond (ltb c n && mine t (get_or os c None)) None (get_or os c None)
  unfolding released
  released_below zero c = grind (arith, nat_tests)
  released_below (suc n) c = let before = released_below n c in grind (arith, nat_tests, common_steps, set_past)

  -- with as many as there are, all of them
  pub released_at : (n c : ℕ) → length os ≡ n → get_or (released t os n) c None ≡ cond (mine t (get_or os c None)) None (get_or os c None)
  released_at n c long = let e = released_below n c in grind (arith, nat_tests, get_or_past)
