-- A private run over other cells, and what a run's footprint says of the cells.
use Rattle.std.proofs.Common.{◌≡◌, ℕ, Bool, true, subst, arith}
use Rattle.std.specs.Option.{unwrap_or}
use Rattle.machine.specs.Update.{upd}
use Rattle.machine.specs.Effect.{Meaning, Program, Local, loaded}
use Rattle.machine.specs.Fragment.{Footprint, noting, Run, begin, go, read, write, call}
use Rattle.machine.specs.FragmentLaws.{Frame}
use Rattle.machine.proofs.Updates.{upd_same}

-- what was noted stays noted
noted-still : (n : ℕ → Bool) (c i : ℕ) → n i ≡ true → upd n c true i ≡ true
noted-still n c i h = grind arith

module _ {V : Type 0} where
  module _ (k : Meaning V) (p : Program V) (t : ℕ) (others : ℕ → V) where
    pub reframed : {cells : ℕ → V} {start l : Local V} {f : Footprint V} → Run k p t cells start l f
        → ((c : ℕ) → f.noted c ≡ true → others c ≡ cells c) → Run k p t others start l f
    reframed begin a = begin
    reframed (go to run asks) a = go to (reframed run a) asks
    reframed {cells} {start} (read {l = l} {f = f} to c run asks) a =
        subst (λ v. Run k p t others start (loaded l to (unwrap_or (f.log c) v)) (noting f c)) (a c (upd_same f.noted c true))
        (read to c (reframed run (λ i h. a i (noted-still f.noted c i h))) asks)
    reframed (write c v run asks) a = write c v (reframed run a) asks
    reframed (call u run asks) a = call u (reframed run a) asks

  pub frame_stands : (k : Meaning V) → Frame k
  frame_stands k p t cells others start l f run a = (
    reframed k p t others run a,
    (λ c w. grind arith),
    (λ c w. grind arith),
  )
