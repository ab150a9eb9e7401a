-- Readings as a kind of value.
use Rattle.std.specs.Prelude.{ℕ, Bool, true, false, cond, not, ◌&&◌, List, [], ◌∷◌, pos, Some, None, Ok, Err, Option, Result, Float}
use Rattle.std.specs.Float.Ieee.{le, lt, eq}
use Rattle.text.specs.Tokens.{Tok}
use Rattle.value.specs.declared.codes.Fault.{Fault}
use Rattle.value.specs.declared.codes.Fault.TheVariants.{Form}
use Rattle.value.specs.declared.codes.Operation.{Operation}
use Rattle.value.specs.declared.codes.Operation.TheVariants.{Sum, Difference, Smaller, Equal, Less, Quotient}
use Rattle.value.specs.declared.codes.Cause.{Cause}
use Rattle.value.specs.declared.codes.Cause.TheVariants.{Blank as Missing, Mixed, OutOfRange}
use Rattle.value.specs.declared.readings.Reading.{Reading}
use Rattle.value.specs.declared.readings.Reading.TheVariants.{Blank, Count, Bearing}
use Rattle.value.specs.Operations.{answer, counted, flag, eqZ}
use Rattle.value.specs.Bearings.{on_circle, turned_on, turned_back, bearing_form, bearing_at}
use Rattle.value.specs.Counts.{count_form, integer}
use Rattle.value.specs.Forms.{lone, tagged_part}
use Rattle.value.specs.Hex.{hexed}

abbrev pub reading_zero : Reading
reading_zero = Blank

-- the blank and the count 0 are false
abbrev pub reading_truth : Reading → Bool
reading_truth Blank = false
reading_truth (Count n) = not (eqZ n (pos 0))
reading_truth (Bearing b) = true

-- of two bearings in range
abbrev pub turned : Operation → Float → Float → Result Reading Cause
turned Sum a b = Ok (Bearing (turned_on a b))
turned Difference a b = Ok (Bearing (turned_back a b))
turned Smaller a b = Ok (Bearing (cond (le a b) a b))
turned Equal a b = Ok (Count (flag (eq a b)))
turned Less a b = Ok (Count (flag (lt a b)))
turned Quotient a b = Err Mixed

abbrev pub is_quotient : Operation → Bool
is_quotient Sum = false
is_quotient Difference = false
is_quotient Smaller = false
is_quotient Equal = false
is_quotient Less = false
is_quotient Quotient = true

-- there is no quotient of bearings, in range or not
abbrev pub bearings : Operation → Float → Float → Result Reading Cause
bearings op a b =
    cond (is_quotient op) (Err Mixed) (cond (on_circle a && on_circle b) (turned op a b) (Err OutOfRange))

abbrev pub reading_outcome : Operation → Reading → Reading → Result Reading Cause
reading_outcome op Blank Blank = Err Missing
reading_outcome op Blank (Count b) = Err Missing
reading_outcome op Blank (Bearing b) = Err Missing
reading_outcome op (Count a) Blank = Err Missing
reading_outcome op (Count a) (Count b) = answer Count (counted op a b)
reading_outcome op (Count a) (Bearing b) = Err Mixed
reading_outcome op (Bearing a) Blank = Err Missing
reading_outcome op (Bearing a) (Count b) = Err Mixed
reading_outcome op (Bearing a) (Bearing b) = bearings op a b

-- `(e)`, `(n -7)` and `(a 43340000)`
abbrev pub reading_form : Reading → Option (List ℕ)
reading_form Blank = Some (40 ∷ 101 ∷ 41 ∷ [])
reading_form (Count n) = count_form n
reading_form (Bearing b) = bearing_form b

-- by the part after an n and the part after an a
abbrev pub reading_at : Option (List ℕ) → Option (List ℕ) → Result Reading Fault
reading_at (Some part) other = answer Count (integer part)
reading_at None (Some part) = answer Bearing (bearing_at (hexed part))
reading_at None None = Err Form

abbrev pub reading_reads : List Tok → Result Reading Fault
reading_reads ts = cond (lone 101 ts) (Ok Blank) (reading_at (tagged_part 110 ts) (tagged_part 97 ts))
