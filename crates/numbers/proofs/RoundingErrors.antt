-- How far a whole quotient lies from the exact one, for each of the sheet's three ways of rounding. Assumes nothing.
use lib.IntN.{ℤ, pos}
use lib.Signed.{◌<ℤ◌}
use Rattle.ratios.specs.Ratios.{Ratio, ◌over◌}
use Rattle.numbers.specs.Fractions.{fraction, from_ℤ, ◌÷ℚ◌, Near}

-- the whole quotient lies within e of the exact one, for every dividend and every divisor above 0
abbrev pub Rounds : (ℤ → ℤ → ℤ) → Ratio → Type 0
Rounds quotient e = (z w : ℤ) → pos 0 <ℤ w → Near (from_ℤ (quotient z w)) (from_ℤ z ÷ℚ from_ℤ w) (fraction e)

-- for `÷↓`, for `÷0`, and for the nearest
abbrev pub down_error : Ratio
down_error = 1 over 1

abbrev pub toward_zero_error : Ratio
toward_zero_error = 1 over 1

abbrev pub nearest_error : Ratio
nearest_error = 1 over 2
