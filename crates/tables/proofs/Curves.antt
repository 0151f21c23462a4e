-- The values of a table of days: one computed test of each, and what follows: it is in the table's range, and it is nearest to base + scale · s for every
-- series that the table's sums enclose (`curve_values`); and a table whose entries are these values (`table_of_values`). Assumes nothing.
use mathlib.Core.Path.{◌≡◌, sym, subst, subst₂}
use mathlib.Core.Bool.{Bool, ◌&&◌}
use mathlib.Core.List.{List}
use Prim.Native.Nat.{ℕ, suc, ◌-◌, ◌≤◌}
use native.Mathlib.Omega.{arith}
use lib.Dec.{T, eqb, eqb→eq}
use lib.IntN.{pos}
use lib.ListN.{length, get_or}
use Rattle.numbers.specs.Ranges.{Range, InRange, in_range}
use Rattle.numbers.specs.Fractions.{ℚ, ◌+ℚ◌, ◌*ℚ◌}
use Rattle.numbers.proofs.Order.{nonneg_mul, nonneg_ratio, <ℚ_ratio}
use Rattle.numbers.proofs.WholeFractions.{nonneg_ℕ}
use Rattle.tables.specs.Series.{NearestOfSeries}
use Rattle.tables.specs.Tables.{billionth, Entry}
use Rattle.tables.specs.Values.{Enclosure, Curve, rounded, curve_at}
use Rattle.numbers.proofs.StrictOrder.{whole}
use Rattle.numbers.proofs.RangeArithmetic.{both}
use Rattle.numbers.proofs.RangeTests.{test_in_range}
use Rattle.numbers.proofs.Table.{every, entry_passes, up_to, number_passes}
use Rattle.tables.proofs.Nearest.{nearest_between}
use Rattle.tables.proofs.SumTests.{near_test, Encloses, sum_nearest}

-- the value at each day meets the table's rule, and is in its range
pub record DayValues (value : ℕ → ℕ) (Rule : ℕ → ℕ → Type 0) (range : Range) : Type 0 where
  pub rule : (d : ℕ) → 1 ≤ d → d ≤ 366 → Rule d (value d)
  pub in_range : (d : ℕ) → 1 ≤ d → d ≤ 366 → InRange range (pos (value d))

-- the sums of a curve at two places that follow each other
abbrev pub places_test : Curve → ℕ → Enclosure → Enclosure → Bool
places_test c r here next = near_test c.base c.scale r here && near_test c.base c.scale r next

-- the value at the day d, by the first of them
unfoldable pub day_test : Range → Curve → ℕ → Bool
day_test range c d =
    let here = c.sums d c.place in
    let next = c.sums d (suc c.place) in
    let r = rounded c.base c.scale here.low in
    in_range range (pos r) && places_test c r here next

curve_nearest : (c : Curve) (d r : ℕ) → T (places_test c r (c.sums d c.place) (c.sums d (suc c.place))) →
    {t : ℕ → ℚ} → Encloses (c.sums d) t →
    NearestOfSeries billionth r (record { at = λ s. whole c.base *ℚ billionth +ℚ whole c.scale *ℚ billionth *ℚ s; terms = t })
unfolding NearestOfSeries
curve_nearest c d r test e =
    let near : ℕ → Bool = λ n. near_test c.base c.scale r (c.sums d n) in
    let places = both (near c.place) (near (suc c.place)) test in
    let unit = <ℚ_ratio _ tt in (
      c.place,
      λ s. nearest_between (whole c.base *ℚ billionth) (nonneg_mul (nonneg_ℕ c.scale) (nonneg_ratio _ tt))
          (sum_nearest unit e c.base c.scale r c.place places.0)
          (sum_nearest unit e c.base c.scale r (suc c.place) places.1),
    )

-- `rule` makes the table's rule of it; base and scale are the rule's, the curve's in billionths
pub curve_values : (range : Range) (c : Curve) {base scale : ℚ} → whole c.base *ℚ billionth ≡ base → whole c.scale *ℚ billionth ≡ scale →
    (Rule : ℕ → ℕ → Type 0) →
    ((d r : ℕ) → ((t : ℕ → ℚ) → Encloses (c.sums d) t → NearestOfSeries billionth r (record { at = λ s. base +ℚ scale *ℚ s; terms = t })) → Rule d r) →
    T (up_to (day_test range c) 366) → DayValues (curve_at c) Rule range
unfolding day_test curve_at
curve_values range c b s Rule rule test =
    record {
      rule = λ d l h. rule d (curve_at c d)
          (λ t e. subst₂ (λ x y. NearestOfSeries billionth (curve_at c d) (record { at = λ s. x +ℚ y *ℚ s; terms = t })) b s
          (curve_nearest c d (curve_at c d) (passed d l h).1 e));
      in_range = λ d l h. test_in_range range (pos (curve_at c d)) (passed d l h).0;
    }
  where
    places : ℕ → Bool
    places d = places_test c (curve_at c d) (c.sums d c.place) (c.sums d (suc c.place))

    passed : (d : ℕ) → 1 ≤ d → d ≤ 366 → T (in_range range (pos (curve_at c d))) × T (places d)
    passed d l h = both (in_range range (pos (curve_at c d))) (places d) (number_passes (day_test range c) 366 test d l h)

-- ---- a table of 366 entries that are the values

-- the table, the day 1 first: the value, the rule and the range of each of its entries
pub record DayEntries (value : ℕ → ℕ) (Rule : ℕ → ℕ → Type 0) (range : Range) (t : List ℕ) : Type 0 where
  pub entries : (d : ℕ) → 1 ≤ d → d ≤ 366 → Entry (value d) (Rule d) range (get_or t (d - 1) 0)

abbrev pub value_test : (ℕ → ℕ) → ℕ → ℕ → Bool
value_test value d r = eqb r (value d)

pub table_of_values : {value : ℕ → ℕ} {Rule : ℕ → ℕ → Type 0} {range : Range} → DayValues value Rule range →
    (xs : List ℕ) → length xs ≡ 366 → T (every (value_test value) 1 xs) → DayEntries value Rule range xs
table_of_values {value} {Rule} {range} values xs n test =
    record {
      entries = λ d l h.
          let r : ℕ = get_or xs (d - 1) 0 in
          let is : r ≡ value d = eqb→eq r (value d) (entry_passes (value_test value) 1 xs test (d - 1) d (omega arith) (omega arith)) in
          record {
            is_value = is;
            rule = subst (λ (k : ℕ). Rule d k) (sym is) (values.rule d l h);
            in_range = subst (λ (k : ℕ). InRange range (pos k)) (sym is) (values.in_range d l h);
          };
    }
