-- The working slice: cells from 0, their saved values from 64, registers from 128, opening registers from 192, constants from 256; 320 places.
use Rattle.std.specs.Prelude.{ℕ, ◌+◌, ◌*◌, List, slice_index_or, slice_set}

abbrev pub saved_place : ℕ → ℕ
saved_place c = 64 + c

-- register i of task t
abbrev pub register_place : ℕ → ℕ → ℕ
register_place t i = 128 + 4 * t + i

abbrev pub opening_place : ℕ → ℕ → ℕ
opening_place t i = 192 + 4 * t + i

abbrev pub constant_place : ℕ → ℕ
constant_place n = 256 + n

module _ {V : Type 0} (nought : V) where
  -- place j takes what stands at i
  abbrev pub copied : List V → ℕ → ℕ → List V
  copied xs i j = slice_set xs j (slice_index_or xs i nought)

  -- the registers of t are kept as its opening ones
  abbrev pub kept : List V → ℕ → List V
  kept xs t =
      copied (copied (copied (copied xs (register_place t 0) (opening_place t 0)) (register_place t 1) (opening_place t 1)) (register_place t 2) (opening_place t 2)) (register_place t 3) (opening_place t 3)

  -- and come back
  abbrev pub taken_back : List V → ℕ → List V
  taken_back xs t =
      copied (copied (copied (copied xs (opening_place t 0) (register_place t 0)) (opening_place t 1) (register_place t 1)) (opening_place t 2) (register_place t 2)) (opening_place t 3) (register_place t 3)

  -- the registers of t become the kind's zero
  abbrev pub cleared : List V → ℕ → List V
  cleared xs t = slice_set (slice_set (slice_set (slice_set xs (register_place t 0) nought) (register_place t 1) nought) (register_place t 2) nought) (register_place t 3) nought
