-- `sheet::wind::counted_wind` meets its contract: the smaller number is in its range, whichever it is. Assumes nothing.
use mathlib.Core.Path.{◌≡◌, refl, ◌∙◌, ap₂}
use mathlib.Core.Bool.{Bool, true, false, cond}
use lib.IntN.{ℤ}
use lib.Signed.{lt_z}
use mir.Facts.{to_z-of_z}
use Rattle.numbers.specs.Ranges.{InRange}
use Rattle.numbers.specs.Whole.{at_most_ℤ}
use Rattle.sheet.specs.Quantities as quantities
use Rattle.sheet.specs.StepSheet.{counted_wind}
use Rattle.sheet.proofs.Choices.{at_most_in}
use Rattle.sheet.proofs.Laws.{limit_counts}
use Rattle.sheet.proofs.Values.{said, returned}
use Rattle.sheet.proofs.wind.counted_wind.Goals as goal

counted_in : {l z : ℤ} → InRange quantities.wind_limit l → InRange quantities.wind z → InRange quantities.counted_wind (at_most_ℤ l z)
counted_in {l} {z} p q = by (lt_z l z) refl
  where
    by : (b : Bool) → lt_z l z ≡ b → InRange quantities.counted_wind (cond b l z)
    by true e = limit_counts p
    by false e = at_most_in p q e

pub returns : goal.returns
unfolding counted_wind
returns c =
    returned
    (said (c.min.ensures.value ∙ ap₂ at_most_ℤ (to_z-of_z c.ranges.limit) (to_z-of_z c.ranges.w)) (counted_in c.requires.0 c.requires.1)) tt
