-- The range of each table's value at every index, with no code in the statements: what the error bound needs of the entries; and the least pressure,
-- of which g is least. The pressure's value is a search, and its range follows from its largest and its smallest ratio. Assumes nothing.
use Prim.Native.Nat.{ℕ, suc, ◌+◌, ◌*◌, ◌^◌, ◌≤◌, ◌<◌}
use native.Mathlib.Nat.{le_trans, lt_of_lt_of_le, lt_irrefl, mul-le-mul_right, pow-le-pow_left}
use native.Mathlib.Omega.{arith}
use lib.Dec.{T, ltb→lt, lit<, lit≤}
use lib.IntN.{pos}
use Rattle.numbers.specs.Ranges.{InRange}
use Rattle.tables.specs.Tables.{albedo_range, a1_range, aw_range, bw_range, pressure_range}
use Rattle.tables.specs.Values.{albedo_at, a1_at, aw_at, bw_at, ratio_numerator, ratio_denominator, sea_level, pressure_at}
use Rattle.tables.proofs.Searches.{first_at_most, first_at_least}
use Rattle.tables.proofs.DayRules.{albedo_values, a1_values, aw_values, bw_values}
use Rattle.tables.proofs.PressureValues.{enough, sea_level_enough}

pub albedo_in : (d : ℕ) → 1 ≤ d → d ≤ 366 → InRange albedo_range (pos (albedo_at d))
albedo_in = albedo_values.in_range

pub a1_in : (d : ℕ) → 1 ≤ d → d ≤ 366 → InRange a1_range (pos (a1_at d))
a1_in = a1_values.in_range

pub aw_in : (d : ℕ) → 1 ≤ d → d ≤ 366 → InRange aw_range (pos (aw_at d))
aw_in = aw_values.in_range

pub bw_in : (d : ℕ) → 1 ≤ d → d ≤ 366 → InRange bw_range (pos (bw_at d))
bw_in = bw_values.in_range

-- uᵏ bᵐ against aᵐ dᵏ, from numbers on either side
powers_le : (u v a b c d k m : ℕ) → u ≤ v → c ≤ a → v ^ k * b ^ m ≤ c ^ m * d ^ k → u ^ k * b ^ m ≤ a ^ m * d ^ k
powers_le u v a b c d k m h g t =
    le_trans (mul-le-mul_right (b ^ m) (pow-le-pow_left h k)) (le_trans t (mul-le-mul_right (d ^ k) (pow-le-pow_left g m)))

-- the pressure at the greatest height, where the ratio is 537,000/576,000
abbrev pub least_pressure : ℕ
least_pressure = 700718

-- half a unit below it is still too small
too_small : (e j : ℕ) → e ≤ 3000 → j < least_pressure → (2 * j + 1) ^ 1000 * ratio_denominator ^ 5257 ≤ ratio_numerator e ^ 5257 * (2 * sea_level) ^ 1000
too_small e j l h = powers_le (2 * j + 1) 1401435 (ratio_numerator e) ratio_denominator 537000 2026000 1000 5257 (omega arith) (omega arith) (lit≤ tt)

pub pressure_least : (e : ℕ) → e ≤ 3000 → least_pressure ≤ pressure_at e
unfolding pressure_at
pressure_least e l =
    first_at_least (enough e) (suc sea_level) sea_level (lit< tt) (sea_level_enough e) least_pressure
    (λ (j : ℕ) (h : j < least_pressure) (t : T (enough e j)). lt_irrefl _ (lt_of_lt_of_le (ltb→lt _ _ t) (too_small e j l h)))

pub pressure_in : (e : ℕ) → e ≤ 3000 → InRange pressure_range (pos (pressure_at e))
unfolding pressure_at
pressure_in e l =
    record {
      bounds = (
        le_trans (lit≤ tt) (pressure_least e l),
        first_at_most (enough e) (suc sea_level) sea_level (lit< tt) (sea_level_enough e),
      );
    }
