-- Drivers are asked only while no task is active: here one is about to write a protected cell, and beside it a task waits in its fragment for ever.
use Rattle.std.specs.Prelude.{ℕ, zero, suc, [], ◌∷◌, ℤ, pos}
use Rattle.program.specs.declared.Mode.TheVariants.{Protected}
use Rattle.program.specs.declared.Op.TheVariants.{Write, Await}
use Rattle.machine.specs.Effect.{Program}
use Rattle.machine.specs.Strong.{Phase, idle, active, outside, State, first}
use Rattle.machine.specs.Separation.{Separated}
use Rattle.machine.specs.Sample.{numbers}
use Rattle.machine.specs.Handover.{program}

abbrev pub blocking : Program ℤ
blocking = program (Write 0 0 ∷ []) (Await 0 ∷ [])

abbrev pub standing : ℕ → Phase ℤ
standing zero = outside (first numbers)
standing (suc zero) = active (first numbers)
standing _ = idle

abbrev pub blocked : State ℤ
blocked = record { cell = λ _. pos 0; mode = λ _. Protected; owed = λ _. 1; phase = standing }

-- No event can occur, so the driver's turn never comes.
abbrev pub Unasked : Type 0
Unasked = Separated numbers blocking blocked
