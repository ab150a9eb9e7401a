-- Whole numbers as the kind to try the definitions on, and a list of events played one after another.
use Rattle.std.specs.Prelude.{not, List, [], ◌∷◌, ℤ, pos, Some, None, Option}
use Rattle.value.specs.Operations.{eqZ, counted}
use Rattle.machine.specs.Effect.{Meaning, Program}
use Rattle.machine.specs.Strong.{State, Event, event}

abbrev pub numbers : Meaning ℤ
numbers = record { nought = pos 0; truth = λ a. not (eqZ a (pos 0)); outcome = counted }

module _ (p : Program ℤ) where
  abbrev pub occurs : Event → Option (State ℤ) → Option (State ℤ)
  occurs e None = None
  occurs e (Some s) = event numbers p e s

  abbrev pub plays : List Event → Option (State ℤ) → Option (State ℤ)
  plays [] o = o
  plays (e ∷ es) o = plays es (occurs e o)
