use Rattle.std.proofs.Common.{◌≡◌, take}
use Rattle.std.specs.Fn.{FnReturnsAt}
use Rattle.board.specs.Laying.{laid}
use Rattle.station.proofs.laying.lay.Given as goal

abbrev pub invariant-loop-i : goal.invariant-loop-i
invariant-loop-i g l =
    (h : _) → ((x : _) (y : _) → FnReturnsAt g.F.Fn l.f x y → y ≡ h x) → l.out ≡ laid h l.start (take l.i l.items) l.initial.out
