-- Bearings in degrees, as floats of 32 bits. Each sum and each difference is rounded once.
use Rattle.std.specs.Prelude.{ℕ, Bool, cond, not, ◌&&◌, List, Some, None, Ok, Err, Option, Result, ◌==◌, from_bits, to_bits, Float}
use Rattle.std.specs.Float.{binary32}
use Rattle.std.specs.Float.Ieee.{fits, add, sub, le, lt, eq}
use Rattle.value.specs.declared.codes.Fault.{Fault}
use Rattle.value.specs.declared.codes.Fault.TheVariants.{Form, Bound}
use Rattle.value.specs.Forms.{tagged}
use Rattle.value.specs.Hex.{hex}

-- 0
abbrev pub north : Float
north = from_bits binary32 0

-- 360
abbrev pub circle : Float
circle = from_bits binary32 1135869952

-- at least 0 and below 360
abbrev pub on_circle : Float → Bool
on_circle x = le north x && lt x circle

-- less 360 where it is 360 or more
abbrev pub lowered : Float → Float
lowered x = cond (le circle x) (sub binary32 x circle) x

-- 360 itself is 0
abbrev pub closed : Float → Float
closed x = cond (eq x circle) north x

-- and 360 where it is negative
abbrev pub raised : Float → Float
raised x = cond (lt x north) (closed (add binary32 x circle)) x

abbrev pub turned_on : Float → Float → Float
turned_on a b = lowered (add binary32 a b)

abbrev pub turned_back : Float → Float → Float
turned_back a b = raised (sub binary32 a b)

-- a sheet's bearing is from 0 to 360, and not minus zero
abbrev pub held : Float → Bool
held x = le north x && (le x circle && not (to_bits binary32 x == 2147483648))

-- a bearing's form, `(a 43340000)`: the bits of its float
abbrev pub bearing_form : Float → Option (List ℕ)
bearing_form x = cond (fits binary32 x && held x) (Some (tagged 97 (hex 8 (to_bits binary32 x)))) None

-- what a part is read as, by the number that its digits write
abbrev pub bearing_at : Option ℕ → Result Float Fault
bearing_at None = Err Form
bearing_at (Some n) = cond (held (from_bits binary32 n)) (Ok (from_bits binary32 n)) (Err Bound)
