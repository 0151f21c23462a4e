-- The published formulas' own values are within half a unit of the tables' entries: `own_values_within`. Where the ratio is 1 the 5.257 power is a
-- fraction (`sea_level_power`), so that what is said of such powers is said of some. Assumes nothing.
use mathlib.Core.Path.{◌≡◌, sym, ◌∙◌, ap}
use Prim.Native.Nat.{ℕ, ◌+◌, ◌*◌, ◌-◌, ◌^◌, ◌≤◌, suc}
use native.Mathlib.Nat.{le_of_lt}
use native.Mathlib.Omega.{arith}
use lib.Dec.{lit<}
use Rattle.ratios.specs.Solver.{◌:+◌, ◌:-◌, ◌:*◌, :-◌, ◌:=◌}
use Rattle.ratios.specs.Ratios.{◌over◌}
use Rattle.numbers.specs.Fractions.{ℚ, ◌/ℚ◌, ◌+ℚ◌, ◌-ℚ◌, ◌*ℚ◌, ◌^ℚ◌, ◌≤ℚ◌, from_ℤ}
use Rattle.numbers.proofs.FractionSolver.{ring_ℚ, ◌#◌}
use Rattle.numbers.proofs.Order.{nonneg_mul, nonneg_ratio, nonneg_of, of_nonneg, gap, from_gap, ≤ℚ_ratio, ≤ℚ_eq, ≤ℚ_trans}
use Rattle.numbers.proofs.WholeFractions.{nonneg_ℕ, from_ℕ_mono}
use Rattle.numbers.proofs.StrictOrder.{whole}
use Rattle.numbers.proofs.FractionPowers.{power_one, power_cancel, powers_at_most}
use Rattle.tables.specs.Series.{Formula, NearestOfSeries, HalfUnit, partial_sum, Between}
use Rattle.tables.specs.Tables.{AlbedoEntry, tenth_pascal, pressure_ratio, billionth, IsPi, albedo_formula, a1_formula, aw_formula, bw_formula}
use Rattle.tables.specs.Values.{ratio_numerator, ratio_denominator, sea_level, pressure_at, albedo_at, a1_at, aw_at, bw_at}
use Rattle.tables.proofs.Nearest.{nearest_half}
use Rattle.tables.proofs.DayRules.{albedo_values, a1_values, aw_values, bw_values}
use Rattle.tables.proofs.PressureEntries.{ratio_is, doubled, half_less, half_more}
use Rattle.tables.proofs.PressureValues.{pressure_low, pressure_high}
use Rattle.tables.proofs.ValueRanges.{pressure_in}
use lib.IntN.{pos}

-- f(s) is within half a unit of r units. "exp(-x) and sin x are the numbers that lie between any two consecutive partial sums": two of these sums
-- enclose s, and f of every number between them, ends included, is within half a unit.
pub record SeriesWithin (unit : ℚ) (r : ℕ) (f : Formula) : Type 0 where
  pub place : ℕ
  pub within : (s : ℚ) → Between (partial_sum f.terms place) (partial_sum f.terms (suc place)) s → HalfUnit unit r (f.at s)

-- "The 5.257 power of a fraction is the number whose thousandth power is the fraction's 5,257th": z is that power of x
pub record IsPower (x z : ℚ) : Type 0 where
  pub from_zero : from_ℤ (pos 0) ≤ℚ z
  pub power : z ^ℚ 1000 ≡ x ^ℚ 5257

-- "fractions proved to enclose it may carry the check": a and b enclose the 5.257 power of x
pub record EnclosePower (x a b : ℚ) : Type 0 where
  pub from_zero : from_ℤ (pos 0) ≤ℚ a
  pub ordered : a ≤ℚ b
  pub below : a ^ℚ 1000 ≤ℚ x ^ℚ 5257
  pub above : x ^ℚ 5257 ≤ℚ b ^ℚ 1000

-- the pressure in kPa, z being the power: 1,013,000 z tenths of a pascal
unfoldable pub kilopascals : ℚ → ℚ
kilopascals z = 1013 /ℚ 10 *ℚ z

-- The pressure at the ratio x is within half a unit of r units: two fractions enclose the power, and every fraction between them, ends included, gives
-- such a pressure; so does the power itself, where it is a fraction.
pub record PressureWithin (r : ℕ) (x : ℚ) : Type 0 where
  pub low : ℚ
  pub high : ℚ
  pub enclose : EnclosePower x low high
  pub within : (z : ℚ) → low ≤ℚ z → z ≤ℚ high → HalfUnit tenth_pascal r (kilopascals z)
  pub exact : (z : ℚ) → IsPower x z → HalfUnit tenth_pascal r (kilopascals z)

-- "α (albedo), a1, aw and bw are the day tables' formulas at `d`, unrounded; P is the pressure formula at E, in kPa": all five are within half a unit of
-- the entries, the albedo for every π that the document's bounds allow
pub record OwnValuesWithin : Type 0 where
  pub albedo : (d : ℕ) → 1 ≤ d → d ≤ 366 → (π : ℚ) → IsPi π → SeriesWithin billionth (albedo_at d) (albedo_formula π d)
  pub a1 : (d : ℕ) → 1 ≤ d → d ≤ 366 → SeriesWithin billionth (a1_at d) (a1_formula d)
  pub aw : (d : ℕ) → 1 ≤ d → d ≤ 366 → SeriesWithin billionth (aw_at d) (aw_formula d)
  pub bw : (d : ℕ) → 1 ≤ d → d ≤ 366 → SeriesWithin billionth (bw_at d) (bw_formula d)
  pub pressure : (e : ℕ) → e ≤ 3000 → PressureWithin (pressure_at e) (pressure_ratio e)

-- ---- the day tables

series_within : {unit : ℚ} {r : ℕ} {f : Formula} → NearestOfSeries unit r f → SeriesWithin unit r f
unfolding NearestOfSeries
series_within h = record { place = h.0; within = λ s b. nearest_half (h.1 s b) }

-- ---- the pressure

-- the power lies between any two fractions that enclose it
power_between : {x a b z : ℚ} → EnclosePower x a b → IsPower x z → (a ≤ℚ z) × (z ≤ℚ b)
power_between e p = (
  power_cancel (nonneg_of p.from_zero) 1000 (lit< tt) (≤ℚ_trans e.below (≤ℚ_eq (sym p.power))),
  power_cancel (nonneg_of (≤ℚ_trans e.from_zero e.ordered)) 1000 (lit< tt) (≤ℚ_trans (≤ℚ_eq p.power) e.above),
)

-- (r - ½)/1,013,000 and (r + ½)/1,013,000
abbrev lowest : ℕ → ℚ
lowest r = (whole r -ℚ 1 /ℚ 2) *ℚ 1 /ℚ 1013000

abbrev highest : ℕ → ℚ
highest r = (whole r +ℚ 1 /ℚ 2) *ℚ 1 /ℚ 1013000

between_half : (r : ℕ) (z : ℚ) → lowest r ≤ℚ z → z ≤ℚ highest r → HalfUnit tenth_pascal r (kilopascals z)
unfolding HalfUnit kilopascals
between_half r z l h =
    record {
      low = from_gap (nonneg_mul (nonneg_ratio (1013 over 10) tt) (gap l))
          (ring_ℚ 2 (λ r z. 1013 # 10 :* z :- r :* 1 # 10000 :- :- (1 # 2 :* 1 # 10000) := 1013 # 10 :* (z :- (r :- 1 # 2) :* 1 # 1013000)) tt (whole r) z);
      high = from_gap (nonneg_mul (nonneg_ratio (1013 over 10) tt) (gap h))
          (ring_ℚ 2 (λ r z. 1 # 2 :* 1 # 10000 :- (1013 # 10 :* z :- r :* 1 # 10000) := 1013 # 10 :* ((r :+ 1 # 2) :* 1 # 1013000 :- z)) tt (whole r) z);
    }

lowest_nonneg : (r : ℕ) → 1 ≤ r → whole 0 ≤ℚ lowest r
lowest_nonneg r h =
    of_nonneg (nonneg_mul (gap (≤ℚ_trans (≤ℚ_ratio (1 over 2) (1 over 1) tt) (from_ℕ_mono h))) (nonneg_ratio (1 over 1013000) tt))

lowest_below : (r : ℕ) → lowest r ≤ℚ highest r
lowest_below r =
    from_gap (nonneg_ratio (1 over 1013000) tt)
    (ring_ℚ 1 (λ r. (r :+ 1 # 2) :* 1 # 1013000 :- (r :- 1 # 2) :* 1 # 1013000 := 1 # 1013000) tt (whole r))

power_enclosed : (e r : ℕ) → e ≤ 3000 → 1 ≤ r →
    (2 * r - 1) ^ 1000 * ratio_denominator ^ 5257 ≤ ratio_numerator e ^ 5257 * (2 * sea_level) ^ 1000 →
    ratio_numerator e ^ 5257 * (2 * sea_level) ^ 1000 ≤ (2 * r + 1) ^ 1000 * ratio_denominator ^ 5257 →
    EnclosePower (pressure_ratio e) (lowest r) (highest r)
power_enclosed e r h p below above =
    record {
      from_zero = lowest_nonneg r p;
      ordered = lowest_below r;
      below = powers_at_most _ _ (2 * r - 1) (2 * sea_level) (ratio_numerator e) ratio_denominator 1000 5257 (lit< tt) (lit< tt)
          (doubled _ tt _ ∙ half_less r p) (ratio_is e h) below;
      above = powers_at_most _ _ (ratio_numerator e) ratio_denominator (2 * r + 1) (2 * sea_level) 5257 1000 (lit< tt) (lit< tt)
          (ratio_is e h) (doubled _ tt _ ∙ half_more r) above;
    }

pressure_within : (e : ℕ) → e ≤ 3000 → PressureWithin (pressure_at e) (pressure_ratio e)
pressure_within e h =
    let r : ℕ = pressure_at e in
    let some : 1 ≤ pressure_at e = omega (arith, (pressure_in e h).bounds.0) in
    let odd : 2 * (pressure_at e - 1) + 1 ≡ 2 * pressure_at e - 1 = omega arith in
    let below = rw odd at (pressure_low e (pressure_at e - 1) (omega arith)) in
    let enclose = power_enclosed e r h some below (le_of_lt (pressure_high e)) in
    record {
      low = lowest r;
      high = highest r;
      enclose = enclose;
      within = between_half r;
      exact = λ z p. let b = power_between enclose p in between_half r z b.0 b.1;
    }

-- the power of 1 is 1
one_is_power : {x : ℚ} → x ≡ whole 1 → IsPower x (whole 1)
one_is_power {x} h =
    record { from_zero = of_nonneg (nonneg_ℕ 1); power = power_one 1000 ∙ sym (ap (λ (z : ℚ). z ^ℚ 5257) h ∙ power_one 5257) }

pub sea_level_power : IsPower (pressure_ratio 0) (whole 1)
unfolding pressure_ratio
sea_level_power = one_is_power (ring_ℚ 0 ((576000 # 1 :- 13 # 1 :* 0 # 1) :* 1 # 576000 := 1 # 1) tt)

-- ---- all five

pub own_values_within : OwnValuesWithin
unfolding AlbedoEntry
own_values_within =
    record {
      albedo = λ d l h π isPi. series_within (albedo_values.rule d l h π isPi);
      a1 = λ d l h. series_within (a1_values.rule d l h);
      aw = λ d l h. series_within (aw_values.rule d l h);
      bw = λ d l h. series_within (bw_values.rule d l h);
      pressure = pressure_within;
    }
