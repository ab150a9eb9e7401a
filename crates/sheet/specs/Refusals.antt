-- What each refusal tells: its number, its layer, two places and a cause. Layer 1 is the sheet, layer 2 the station.
use Rattle.std.specs.Prelude.{ℕ, List, ◌++◌, codes, decimal}
use Rattle.sheet.specs.declared.parts.LineFault.TheVariants.{BadForm, PastBound, TooMany}
use Rattle.sheet.specs.declared.parts.Notice.{Notice}
use Rattle.sheet.specs.declared.parts.Refusal.{Refusal}
use Rattle.sheet.specs.declared.parts.Refusal.TheVariants.{TooLong, Line, OpenTask, StrayTarget, Unlawful, OutputShort}

abbrev pub notice : ℕ → ℕ → ℕ → ℕ → ℕ → Notice
notice n layer p q cause = record { number = n; layer = layer; first = p; second = q; cause = cause }

abbrev pub told : Refusal → Notice
told TooLong = notice 2 1 0 0 0
told (Line BadForm n) = notice 3 1 n 0 0
told (Line PastBound n) = notice 4 1 n 0 0
told (Line TooMany n) = notice 5 1 n 0 0
told (OpenTask n) = notice 6 1 n 0 0
told (StrayTarget n) = notice 7 1 n 0 0
told Unlawful = notice 8 2 0 0 0
told OutputShort = notice 26 2 0 0 0

-- `(no 3 1 7 0 0)`
abbrev pub notice_text : Notice → List ℕ
notice_text r =
    codes "(no "
    ++ (decimal r.number ++ (codes " " ++ (decimal r.layer ++ (codes " " ++ (decimal r.first ++ (codes " " ++ (decimal r.second ++ (codes " " ++ (decimal r.cause ++ codes ")")))))))))
