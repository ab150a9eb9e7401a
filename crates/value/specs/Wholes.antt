-- Whole numbers as a kind of value.
use Rattle.std.specs.Prelude.{ℕ, Bool, not, List, ℤ, pos, Some, None, Err, Option, Result}
use Rattle.text.specs.Tokens.{Tok}
use Rattle.value.specs.declared.codes.Operation.{Operation}
use Rattle.value.specs.declared.codes.Cause.{Cause}
use Rattle.value.specs.declared.codes.Fault.{Fault}
use Rattle.value.specs.declared.codes.Fault.TheVariants.{Form}
use Rattle.value.specs.declared.wholes.Whole.{Whole}
use Rattle.value.specs.Counts.{count_form, integer}
use Rattle.value.specs.Forms.{tagged_part}
use Rattle.value.specs.Operations.{answer, counted, eqZ}

abbrev pub as_whole : ℤ → Whole
as_whole z = record { value = z }

abbrev pub whole_zero : Whole
whole_zero = as_whole (pos 0)

-- 0 alone is false
abbrev pub whole_truth : Whole → Bool
whole_truth x = not (eqZ x.value (pos 0))

abbrev pub whole_outcome : Operation → Whole → Whole → Result Whole Cause
whole_outcome op a b = answer as_whole (counted op a.value b.value)

-- `(n -7)`
abbrev pub whole_form : Whole → Option (List ℕ)
whole_form x = count_form x.value

-- by the part after the letter
abbrev pub whole_at : Option (List ℕ) → Result Whole Fault
whole_at None = Err Form
whole_at (Some part) = answer as_whole (integer part)

abbrev pub whole_reads : List Tok → Result Whole Fault
whole_reads ts = whole_at (tagged_part 110 ts)
