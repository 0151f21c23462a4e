-- The entries of the table of pressures: one computed test, in fixed point at 10²⁰, and what follows from it (`pressure_table`). Powers stay
-- symbols throughout. Assumes nothing.
use mathlib.Core.Path.{◌≡◌, sym, ◌∙◌, ap}
use mathlib.Core.Bool.{Bool, ◌&&◌}
use mathlib.Core.List.{List}
use Prim.Native.Nat.{ℕ, suc, ◌+◌, ◌*◌, ◌-◌, ◌^◌, ◌≤◌, ◌<◌}
use native.Mathlib.Nat.{mul-le-mul, mul-le-mul_right, pow-le-pow_left, lt_irrefl, lt_of_lt_of_le, lt_trans}
use native.Mathlib.Omega.{arith}
use lib.Dec.{T, ltb, ltb→lt, lt→ltb, lit<}
use lib.IntN.{pos}
use lib.ListN.{length, get_or}
use Rattle.ratios.specs.Solver.{◌:+◌, ◌:-◌, ◌:*◌, ◌:=◌}
use Rattle.ratios.specs.Ratios.{Ratio, ◌over◌, ◌*ᴿ◌}
use Rattle.numbers.proofs.RatioTests.{eqᴿ}
use Rattle.numbers.specs.Ranges.{InRange, in_range}
use Rattle.numbers.specs.Fractions.{ℚ, fraction, ◌+ℚ◌, ◌*ℚ◌, ◌-ℚ◌}
use Rattle.numbers.proofs.FractionSolver.{ring_ℚ, ◌#◌}
use Rattle.tables.specs.Tables.{pressure_ratio, PressureEntry, pressure_range, Entry}
use Rattle.tables.specs.Values.{first, ratio_numerator, ratio_denominator, sea_level, pressure_at}
use Rattle.numbers.proofs.StrictOrder.{whole, whole_mul, whole_odd, whole_sub, over_cancels}
use Rattle.numbers.proofs.FractionPowers.{powers_below}
use Rattle.numbers.proofs.RangeArithmetic.{both}
use Rattle.numbers.proofs.RangeTests.{test_in_range}
use Rattle.numbers.proofs.Table.{every, entry_passes}
use Rattle.tables.proofs.Searches.{first_is}
use Rattle.tables.proofs.PowerTests.{NearestPower, power_test, power_nearest}

-- ---- the value: the first number that is not too small

module _ (scale a b k r : ℕ) (l : a ≤ b) (near : NearestPower scale a b k r) where
  -- the power of a fraction of at most 1 is at most the scale
  at_most_scale : ¬ (scale < r)
  at_most_scale h =
      let p : (2 * scale) ^ 1000 ≤ (2 * r - 1) ^ 1000 = pow-le-pow_left (omega arith) 1000 in
      let q : a ^ k * (2 * scale) ^ 1000 ≤ (2 * r - 1) ^ 1000 * b ^ k = omega (arith, mul-le-mul p (pow-le-pow_left l k)) in
      lt_irrefl _ (lt_of_lt_of_le near.low q)

  first_nearest : first (λ (p : ℕ). ltb (a ^ k * (2 * scale) ^ 1000) ((2 * p + 1) ^ 1000 * b ^ k)) (suc scale) 0 ≡ r
  first_nearest =
      let top : ¬ (scale < r) = at_most_scale in
      first_is (λ (p : ℕ). ltb (a ^ k * (2 * scale) ^ 1000) ((2 * p + 1) ^ 1000 * b ^ k)) (suc scale) r (omega arith) (lt→ltb _ _ near.high)
      (λ (j : ℕ) (h : j < r) (t : T (ltb (a ^ k * (2 * scale) ^ 1000) ((2 * j + 1) ^ 1000 * b ^ k))).
      let up : (2 * j + 1) ^ 1000 ≤ (2 * r - 1) ^ 1000 = pow-le-pow_left (omega arith) 1000 in
      lt_irrefl _ (lt_trans (lt_of_lt_of_le (ltb→lt _ _ t) (mul-le-mul_right (b ^ k) up)) near.low))

-- ---- the rule, over fractions

pub ratio_is : (e : ℕ) → e ≤ 3000 → whole ratio_denominator *ℚ pressure_ratio e ≡ whole (ratio_numerator e)
unfolding pressure_ratio
ratio_is e h =
    over_cancels ratio_denominator _ tt _
    ∙ sym (whole_sub {n = 13 * e} (omega arith) ∙ ap (λ (z : ℚ). whole ratio_denominator -ℚ z) (whole_mul 13 e))

-- twice the scale times x units of the scale
pub doubled : (k : Ratio) → T (eqᴿ ((sea_level over 1) *ᴿ k) (1 over 1)) → (x : ℚ) → whole (2 * sea_level) *ℚ (x *ℚ fraction k) ≡ whole 2 *ℚ x
doubled k t x =
    ap (λ (z : ℚ). z *ℚ (x *ℚ fraction k)) (whole_mul 2 sea_level)
    ∙ ring_ℚ 3 (λ s x k. 2 # 1 :* s :* (x :* k) := 2 # 1 :* (s :* (x :* k))) tt (whole sea_level) x (fraction k)
    ∙ ap (λ (z : ℚ). whole 2 *ℚ z) (over_cancels sea_level k t x)

pub half_less : (r : ℕ) → 1 ≤ r → whole 2 *ℚ (whole r -ℚ fraction (1 over 2)) ≡ whole (2 * r - 1)
half_less r h =
    ring_ℚ 1 (λ r. 2 # 1 :* (r :- 1 # 2) := 2 # 1 :* r :- 1 # 1) tt (whole r)
    ∙ sym (whole_sub {n = 1} (omega arith) ∙ ap (λ (z : ℚ). z -ℚ whole 1) (whole_mul 2 r))

pub half_more : (r : ℕ) → whole 2 *ℚ (whole r +ℚ fraction (1 over 2)) ≡ whole (2 * r + 1)
half_more r =
    ring_ℚ 1 (λ r. 2 # 1 :* (r :+ 1 # 2) := 2 # 1 :* r :+ 1 # 1) tt (whole r)
    ∙ sym (whole_odd r)

pressure_rule : (e r : ℕ) → e ≤ 3000 → 1 ≤ r → NearestPower sea_level (ratio_numerator e) ratio_denominator 5257 r → PressureEntry e r
pressure_rule e r h p near =
    record {
      low = powers_below _ _ (2 * r - 1) (2 * sea_level) (ratio_numerator e) ratio_denominator 1000 5257
          (doubled _ tt _ ∙ half_less r p) (ratio_is e h) near.low;
      high = powers_below _ _ (ratio_numerator e) ratio_denominator (2 * r + 1) (2 * sea_level) 5257 1000
          (ratio_is e h) (doubled _ tt _ ∙ half_more r) near.high;
    }

-- ---- the table

-- the table, by the metre: each of its 3,001 entries, from 0 on
pub record PressureTable (t : List ℕ) : Type 0 where
  pub entries : (e : ℕ) → e ≤ 3000 → Entry (pressure_at e) (PressureEntry e) pressure_range (get_or t e 0)

abbrev pub fixed_test : ℕ → ℕ → Bool
fixed_test e r = power_test 100000000000000000000 sea_level (ratio_numerator e) ratio_denominator r

unfoldable pub pressure_test : ℕ → ℕ → Bool
pressure_test e r = in_range pressure_range (pos r) && fixed_test e r

-- an entry that passes is nearest, and is the value
pressure_nearest : (e r : ℕ) → e ≤ 3000 → T (fixed_test e r) → NearestPower sea_level (ratio_numerator e) ratio_denominator 5257 r
pressure_nearest e r l t = power_nearest _ sea_level (ratio_numerator e) ratio_denominator r (lit< tt) (lit< tt) (omega arith) (lit< tt) t

pub pressure_is : (e r : ℕ) → e ≤ 3000 → T (fixed_test e r) → r ≡ pressure_at e
unfolding pressure_at
pressure_is e r l t = sym (first_nearest sea_level (ratio_numerator e) ratio_denominator 5257 r (omega arith) (pressure_nearest e r l t))

pressure_entry : (e r : ℕ) → e ≤ 3000 → T (pressure_test e r) → Entry (pressure_at e) (PressureEntry e) pressure_range r
unfolding pressure_test
pressure_entry e r l test =
    let passed = both (in_range pressure_range (pos r)) (fixed_test e r) test in
    let ranged : InRange pressure_range (pos r) = test_in_range pressure_range (pos r) passed.0 in
    record {
      is_value = pressure_is e r l passed.1;
      rule = pressure_rule e r l (omega (arith, ranged.bounds.0)) (pressure_nearest e r l passed.1);
      in_range = ranged;
    }

-- a table of 3,001 entries that all pass the test
pub pressure_table : (xs : List ℕ) → length xs ≡ 3001 → T (every pressure_test 0 xs) → PressureTable xs
pressure_table xs n test =
    record { entries = λ e l. pressure_entry e (get_or xs e 0) l (entry_passes pressure_test 0 xs test e e (omega arith) (omega arith)) }
