-- The value of the table of pressures, a search: the power lies between r - ½ and r + ½, by the thousandth powers of both sides (`pressure_low`,
-- `pressure_high`). Powers stay symbols throughout. Assumes nothing.
use mathlib.Core.Bool.{Bool}
use Prim.Native.Nat.{ℕ, suc, ◌+◌, ◌*◌, ◌^◌, ◌≤◌, ◌<◌}
use native.Mathlib.Nat.{lt_of_le_of_lt, mul-le-mul_right, pow-le-pow_left}
use native.Mathlib.Omega.{arith}
use lib.Dec.{T, not_T, ltb, ltb→lt, lt→ltb, nltb→le, lit<}
use Rattle.tables.specs.Values.{ratio_numerator, ratio_denominator, sea_level, pressure_at}
use Rattle.tables.proofs.Searches.{none_before, first_passes}

-- the test of the search
abbrev pub enough : ℕ → ℕ → Bool
enough e r = ltb (ratio_numerator e ^ 5257 * (2 * sea_level) ^ 1000) ((2 * r + 1) ^ 1000 * ratio_denominator ^ 5257)

powers_lt : (u v a b d k m : ℕ) → u ≤ v → v ^ m * d ^ k < a ^ k * b ^ m → u ^ m * d ^ k < a ^ k * b ^ m
powers_lt u v a b d k m h t = lt_of_le_of_lt (mul-le-mul_right (d ^ k) (pow-le-pow_left h m)) t

-- the ratio is at most 1
pub sea_level_enough : (e : ℕ) → T (enough e sea_level)
sea_level_enough e = lt→ltb _ _ (powers_lt (ratio_numerator e) 576000 2026001 576000 2026000 1000 5257 (omega arith) (lit< tt))

pub pressure_high : (e : ℕ) → ratio_numerator e ^ 5257 * (2 * sea_level) ^ 1000 < (2 * pressure_at e + 1) ^ 1000 * ratio_denominator ^ 5257
unfolding pressure_at
pressure_high e = ltb→lt _ _ (first_passes (enough e) (suc sea_level) sea_level (lit< tt) (sea_level_enough e))

pub pressure_low : (e j : ℕ) → j < pressure_at e → (2 * j + 1) ^ 1000 * ratio_denominator ^ 5257 ≤ ratio_numerator e ^ 5257 * (2 * sea_level) ^ 1000
unfolding pressure_at
pressure_low e j h = nltb→le _ _ (not_T (enough e j) (none_before (enough e) (suc sea_level) j h))
