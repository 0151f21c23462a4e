-- What each entry of the five constant tables is: the published formulas, in document 01's order. Assumes nothing.
use Rattle.std.specs.Prelude.{◌≡◌, ℕ, pos}
use Rattle.numbers.specs.Ranges.{Range, InRange, from◌to◌}
use Rattle.numbers.specs.Fractions.{ℚ, from_ℤ, ◌/ℚ◌, ◌+ℚ◌, ◌-ℚ◌, ◌*ℚ◌, ◌^ℚ◌, ◌≤ℚ◌, ◌<ℚ◌}
use Rattle.tables.specs.Series.{exp_term, sin_term, Formula, NearestOfSeries}
use Rattle.tables.specs.Values.{albedo_at, a1_at, aw_at, bw_at}
use Rattle.tables.specs.declared.DayTable.{DayTable}
use Rattle.tables.specs.declared.DayTable.TheVariants.{Albedo, A1, Aw, Bw}

-- the unit of the four day tables
abbrev pub billionth : ℚ
billionth = 1 /ℚ 1000000000

-- π, as far as the document knows it
pub record IsPi (π : ℚ) : Type 0 where
  pub low : 314159265358979 /ℚ 100000000000000 ≤ℚ π
  pub high : π ≤ℚ 314159265358980 /ℚ 100000000000000

-- d + 97.92 degrees, in radians
unfoldable pub angle : ℚ → ℕ → ℚ
angle π d = (from_ℤ (pos d) +ℚ 9792 /ℚ 100) *ℚ (π *ℚ 1 /ℚ 180)

-- albedo 0.29 + 0.06 sin(d + 97.92), in degrees
unfoldable pub albedo_formula : ℚ → ℕ → Formula
albedo_formula π d = record { at = λ s. 29 /ℚ 100 +ℚ 6 /ℚ 100 *ℚ s; terms = sin_term (angle π d) }

-- base + scale · exp(-(factor · (d - centre))²)
unfoldable pub bell_formula : ℚ → ℚ → ℚ → ℕ → ℕ → Formula
bell_formula base scale factor centre d =
    record { at = λ s. base +ℚ scale *ℚ s; terms = exp_term ((factor *ℚ (from_ℤ (pos d) -ℚ from_ℤ (pos centre))) ^ℚ 2) }

-- a1 = 0.26 + 0.1 exp(-(0.0154(d - 177))²)
abbrev pub a1_formula : ℕ → Formula
a1_formula = bell_formula (26 /ℚ 100) (1 /ℚ 10) (154 /ℚ 10000) 177

-- aw = 0.4 + 1.4 exp(-((d - 173)/58)²)
abbrev pub aw_formula : ℕ → Formula
aw_formula = bell_formula (4 /ℚ 10) (14 /ℚ 10) (1 /ℚ 58) 173

-- bw = 0.007 + 0.004 exp(-((d - 243)/80)²)
abbrev pub bw_formula : ℕ → Formula
bw_formula = bell_formula (7 /ℚ 1000) (4 /ℚ 1000) (1 /ℚ 80) 243

-- r is nearest to the formula at d; the albedo's, for every such π
unfoldable pub AlbedoEntry : ℕ → ℕ → Type 0
AlbedoEntry d r = (π : ℚ) → IsPi π → NearestOfSeries billionth r (albedo_formula π d)

abbrev pub A1Entry : ℕ → ℕ → Type 0
A1Entry d r = NearestOfSeries billionth r (a1_formula d)

abbrev pub AwEntry : ℕ → ℕ → Type 0
AwEntry d r = NearestOfSeries billionth r (aw_formula d)

abbrev pub BwEntry : ℕ → ℕ → Type 0
BwEntry d r = NearestOfSeries billionth r (bw_formula d)

-- in kPa, a tenth of a pascal
abbrev pub tenth_pascal : ℚ
tenth_pascal = 1 /ℚ 10000

-- (576,000 - 13E)/576,000
unfoldable pub pressure_ratio : ℕ → ℚ
pressure_ratio e = (576000 /ℚ 1 -ℚ 13 /ℚ 1 *ℚ from_ℤ (pos e)) *ℚ 1 /ℚ 576000

-- Pressure at E metres, in tenths of a pascal: 1,013,000 × ((576,000 - 13E)/576,000)^5.257. The 5.257 power is the number whose thousandth power
-- is the ratio's 5,257th; it lies between (r - ½)/1,013,000 and (r + ½)/1,013,000.
pub record PressureEntry (e r : ℕ) : Type 0 where
  pub low : ((from_ℤ (pos r) -ℚ 1 /ℚ 2) *ℚ 1 /ℚ 1013000) ^ℚ 1000 <ℚ pressure_ratio e ^ℚ 5257
  pub high : pressure_ratio e ^ℚ 5257 <ℚ ((from_ℤ (pos r) +ℚ 1 /ℚ 2) *ℚ 1 /ℚ 1013000) ^ℚ 1000

-- ---- what a lookup ensures

-- r is the table's value at its index, meets the table's rule there, and is in the table's range
pub record Entry (value : ℕ) (Rule : ℕ → Type 0) (range : Range) (r : ℕ) : Type 0 where
  pub is_value : r ≡ value
  pub rule : Rule r
  pub in_range : InRange range (pos r)

abbrev pub albedo_range : Range
albedo_range = from 230000000 to 350000000

abbrev pub a1_range : Range
a1_range = from 260000000 to 360000000

abbrev pub aw_range : Range
aw_range = from 400000000 to 1800000000

abbrev pub bw_range : Range
bw_range = from 7000000 to 11000000

abbrev pub pressure_range : Range
pressure_range = from 700000 to 1013000

-- ---- the four tables of days: the value of an entry, its rule and its range

abbrev pub day_value : DayTable → ℕ → ℕ
day_value Albedo = albedo_at
day_value A1 = a1_at
day_value Aw = aw_at
day_value Bw = bw_at

abbrev pub DayRule : DayTable → ℕ → ℕ → Type 0
DayRule Albedo = AlbedoEntry
DayRule A1 = A1Entry
DayRule Aw = AwEntry
DayRule Bw = BwEntry

abbrev pub day_range : DayTable → Range
day_range Albedo = albedo_range
day_range A1 = a1_range
day_range Aw = aw_range
day_range Bw = bw_range
