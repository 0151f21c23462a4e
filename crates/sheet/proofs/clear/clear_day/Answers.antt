-- `sheet::clear::clear_day` meets its contract: the larger number is in its range, whichever it is. Assumes nothing.
use mathlib.Core.Path.{◌≡◌, refl, ◌∙◌, ap₂}
use mathlib.Core.Bool.{Bool, true, false, cond}
use mathlib.Core.List.{[], ◌∷◌}
use lib.IntN.{ℤ}
use lib.Signed.{lt_z}
use mir.Facts.{to_z-of_z}
use Rattle.numbers.specs.Ranges.{Range, from◌to◌, InRange}
use Rattle.numbers.specs.Whole.{at_least_ℤ}
use Rattle.numbers.proofs.Reflection.{MachineExpression, arg, lit, ◌*ᵐ◌, Given, none, ◌and◌, equal_in, meaning_in}
use Rattle.sheet.specs.Quantities as quantities
use Rattle.sheet.specs.StepSheet.{Q}
use Rattle.sheet.proofs.Choices.{at_least_in}
use Rattle.sheet.proofs.Values.{said, returned}
use Rattle.sheet.proofs.clear.clear_day.Goals as goal

abbrev least : MachineExpression
least = lit 1_000_000_000 *ᵐ arg 0

abbrev bounds : Range
bounds = from 50_000_000_000 to 200_000_000_000

larger_in : {l z : ℤ} → InRange bounds l → InRange quantities.clear_day l → InRange quantities.clear_sum z → InRange quantities.clear_day (at_least_ℤ l z)
larger_in {l} {z} p day q = by (lt_z z l) refl
  where
    by : (b : Bool) → lt_z z l ≡ b → InRange quantities.clear_day (cond b l z)
    by true e = day
    by false e = at_least_in p q e

pub returns : goal.returns
unfolding Q
returns c =
    let given : Given (quantities.clear_minimum ∷ []) (c.args.minimum ∷ []) = c.requires.0 and none in
    let larger = larger_in (meaning_in given least bounds tt) (meaning_in given least quantities.clear_day tt) c.requires.1 in
    returned (said (c.max.ensures.value ∙ ap₂ at_least_ℤ (equal_in given least bounds tt).0 (to_z-of_z c.ranges.sum)) larger) tt
