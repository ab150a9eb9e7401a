-- The two-task programs: computed, and the careless ones refuted.
use Rattle.std.proofs.Common.{◌≡◌, List, [], ◌∷◌, ℤ, Some, None, Option, refl, subst}
use Rattle.std.proofs.lemmas.Bool.{false≢true}
use Rattle.std.proofs.lemmas.Option.{same_Some}
use Rattle.std.specs.Int.{int_wrap}
use Rattle.program.specs.declared.Op.{Op}
use Rattle.program.specs.declared.Op.TheVariants.{Read, Write}
use Rattle.machine.specs.Effect.{Program}
use Rattle.machine.specs.Strong.{State, Event, admits, opens, runs, Reaches, here, more}
use Rattle.machine.specs.Separation.{reading, writing}
use Rattle.machine.specs.Sample.{numbers, occurs, plays}
use Rattle.machine.specs.Handover.{start, handover, taker, adder, careless, blind, program, taker_first, adder_first, Taken, Added, Broken}

module _ (p : Program ℤ) (s₀ : State ℤ) where
  abbrev Led : Option (State ℤ) → Type 0
  Led o = (n : State ℤ) → o ≡ Some n → Reaches numbers p s₀ n

  one_led : (e : Event) (o : Option (State ℤ)) → Led o → Led (occurs p e o)
  one_led e None led n is = cc
  one_led e (Some m) led n is = more e (led m refl) is

  all_led : (es : List Event) (o : Option (State ℤ)) → Led o → Led (plays p es o)
  all_led [] o led = led
  all_led (e ∷ es) o led = all_led es (occurs p e o) (one_led e o led)

  -- what events, played, come to is reached
  pub reached : (es : List Event) (n : State ℤ) → plays p es (Some s₀) ≡ Some n → Reaches numbers p s₀ n
  reached es = all_led es (Some s₀) (λ n is. subst (Reaches numbers p s₀) (same_Some _ _ is) here)

pub taken : Taken
taken = (
  _,
  refl,
  reached handover start taker_first _ refl,
  record { first = (refl, refl); second = (refl, refl) },
  refl,
  refl,
  refl,
  refl,
)

pub added : Added
unfolding int_wrap
added = (_, refl, reached handover start adder_first _ refl, refl, refl, refl)

-- the way to the careless access, and to the blind one
abbrev to_careless : List Event
to_careless = admits 0 ∷ opens 0 ∷ runs 0 ∷ runs 0 ∷ runs 0 ∷ []

abbrev to_blind : List Event
to_blind = admits 0 ∷ opens 0 ∷ runs 0 ∷ runs 0 ∷ runs 0 ∷ runs 0 ∷ admits 1 ∷ opens 1 ∷ []

abbrev slip : Op → Program ℤ
slip op = program (careless op) adder

abbrev rash : Op → Program ℤ
rash op = program taker (blind op)

pub broken : Broken
broken = (
  (λ sep. false≢true (sep.drivers _ (reached (slip (Write 1 2)) start to_careless _ refl) refl 0 refl _ refl writing 1 refl)),
  (λ sep. false≢true (sep.drivers _ (reached (slip (Read 2 1)) start to_careless _ refl) refl 0 refl _ refl reading 1 refl)),
  (λ sep. false≢true (sep.fragments _ (reached (rash (Read 2 1)) start to_blind _ refl) 1 refl _ refl reading 1 refl)),
  (λ sep. false≢true (sep.fragments _ (reached (rash (Write 1 2)) start to_blind _ refl) 1 refl _ refl writing 1 refl)),
)
