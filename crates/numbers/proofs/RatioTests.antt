-- Tests of ratios that compute, by which fractions written as ratios are compared. Assumes nothing.
use mathlib.Core.Bool.{Bool, not}
use Rattle.ratios.specs.IntegerSolver.{is_zero}
use Rattle.ratios.specs.Ratios.{Ratio, ◌over◌, ◌+ᴿ◌, -ᴿ◌, nonnegᴿ}

-- at most, equal, above 0
abbrev pub leᴿ : Ratio → Ratio → Bool
leᴿ a b = nonnegᴿ (b +ᴿ -ᴿ a)

abbrev pub eqᴿ : Ratio → Ratio → Bool
eqᴿ a b = is_zero (a +ᴿ -ᴿ b).numerator

abbrev pub posᴿ : Ratio → Bool
posᴿ a = not (leᴿ a (0 over 1))
