-- No figure of numbers in range is above 8 inches: the equation's value is not, at any fractions that the entries and the root may stand for, and the
-- figure lies nearer to it than its own unit. One choice of those fractions is enough. The theorem is `figure_most`. Assumes nothing.
use mathlib.Core.List.{List}
use Prim.Native.Nat.{ℕ, ◌≤◌}
use lib.Dec.{T}
use lib.IntN.{ℤ, pos}
use Rattle.ratios.specs.Solver.{◌:*◌, ◌:^◌, ◌:=◌}
use Rattle.ratios.specs.Ratios.{Ratio, ◌over◌, nonnegᴿ}
use Rattle.numbers.specs.Fractions.{ℚ, fraction, from_ℤ, ◌/ℚ◌, ◌*ℚ◌}
use Rattle.numbers.specs.Rounding.{RootOf}
use Rattle.numbers.proofs.FractionSolver.{ring_ℚ, ◌#◌}
use Rattle.numbers.proofs.Order.{nonneg_mul, nonneg_ratio, of_nonneg, ≤ℚ_ratio, ≤ℚ_eq, ≤ℚ_trans}
use Rattle.numbers.proofs.Near.{near_self, near_weaken}
use Rattle.numbers.proofs.FractionRoots.{root_exists}
use Rattle.numbers.proofs.RoundedSize.{whole_at_most}
use Rattle.tables.specs.Series.{HalfUnit}
use Rattle.sheet.specs.declared.Readings.{Readings}
use Rattle.sheet.specs.declared.Entries.{Entries}
use Rattle.equation.specs.Equation as equation
use Rattle.equation.proofs.FigureNear.{StationNumbers, Accepted, figure_of}
use Rattle.equation.specs.Equation.{tenths}
use Rattle.equation.proofs.Units.{billionths}
use Rattle.equation.proofs.Ends.{IsTemperature, temperature_ends}
use Rattle.equation.proofs.TemperatureBound.{nonneg_above, e_rounded, e_low}
use Rattle.equation.proofs.Nearness.{figure_rounded_at}

-- an entry may stand for itself
pub half_unit_self : (u : Ratio) → T (nonnegᴿ u) → (r : ℕ) → HalfUnit (fraction u) r (from_ℤ (pos r) *ℚ fraction u)
unfolding HalfUnit
half_unit_self u hu r =
    near_weaken (near_self (from_ℤ (pos r) *ℚ fraction u)) (of_nonneg (nonneg_mul (nonneg_ratio (1 over 2) tt) (nonneg_ratio u hu)))

-- the vapour pressure is at most 15.2, so that 4, which is 400,000,000 units, is not below its root
pub vapour_root : (f : ℤ) → IsTemperature f → (x : ℚ) × RootOf (1 /ℚ 100000000) (equation.e (tenths f)) x
vapour_root f between =
    root_exists (nonneg_ratio (1 over 100000000) tt) (nonneg_above (nonneg_ratio (87 over 1000) tt) (e_low f between.low between.high)) 400000000
    (≤ℚ_trans (e_rounded f between.low between.high).size.high
    (≤ℚ_trans (≤ℚ_ratio (152 over 10) (16 over 1) tt) (≤ℚ_eq (ring_ℚ 0 (16 # 1 := (400000000 # 1 :* 1 # 100000000) :^ 2) tt))))

-- 80,001 ten-thousandths of an inch would be more than 8 inches and the error bound together
pub figure_most : (r : Readings) (t : Entries) (fs : List ℤ) (c : StationNumbers) → Accepted r t fs c → figure_of r t fs c ≤ 80_000
figure_most r t fs c accepted =
    let root = vapour_root r.dewpoint (temperature_ends accepted.readings.dewpoint) in
    whole_at_most 80_000 tt tt
    (figure_rounded_at r t fs c accepted _ _ _ _ _ root.0 (half_unit_self billionths tt _) (half_unit_self billionths tt _)
    (half_unit_self billionths tt _) (half_unit_self billionths tt _) (half_unit_self (1 over 10000) tt _) root.1)
