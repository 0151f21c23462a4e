-- How far a crop's figure lies from the unrounded equation's value times the percentage: within 1.7 ten-thousandths of an inch, as document 02, W1
-- asks. What is proved is sharper: 1.53. Assumes nothing.
use Rattle.std.specs.Prelude.{ℕ, pos}
use Rattle.ratios.specs.Ratios.{Ratio, ◌over◌}
use Rattle.numbers.specs.Fractions.{ℚ, fraction, from_ℤ, ◌/ℚ◌, ◌-ℚ◌, ◌*ℚ◌, ◌÷ℚ◌, ◌≤ℚ◌, abs_ℚ}
use Rattle.day.specs.Bound.{OfEveryValue}
use Rattle.day.specs.declared.Day.{Day}
use Rattle.day.specs.declared.Earlier.{Earlier}
use Rattle.day.specs.declared.Station.{Station}
use Rattle.crops.specs.Crop.{L, above}
use Rattle.crops.specs.declared.Crop.{Crop}

-- "percentage (p_i × (L - r) + p_(i+1) × r)/L", as a fraction
abbrev pub percentage : Crop → ℕ → ℚ
percentage c d = from_ℤ (pos (above c d)) ÷ℚ from_ℤ (pos (L c))

-- The crop's figure n differs from the equation's value times the percentage over 100 by at most so many inches, for all that the value can be.
unfoldable pub CropWithin : ℚ → Station → Day → Earlier → Crop → ℕ → Type 0
CropWithin inches st day earlier c n =
    OfEveryValue st day earlier (λ v. abs_ℚ (from_ℤ (pos n) *ℚ 1 /ℚ 10000 -ℚ v *ℚ (percentage c day.d *ℚ 1 /ℚ 100)) ≤ℚ inches)

-- "within 1.7 units of unrounded value times percentage"
unfoldable pub CropWithinBound : Station → Day → Earlier → Crop → ℕ → Type 0
CropWithinBound = CropWithin (17 /ℚ 100000)

-- the sharper bound that is proved: twice that of the day, 515/10,000,000, and half a unit for the rounding
abbrev pub crop_bound : Ratio
crop_bound = 1530 over 10000000

abbrev pub proved_crop_bound : ℚ
proved_crop_bound = fraction crop_bound
