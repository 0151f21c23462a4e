-- The range of each quantity of the step sheet, in the sheet's unit: between these the code is proved not to overflow. Those of Limits.antt are
-- the documents'; the others are wide enough for what the readings can give, and no wider than the arithmetic needs. Assumes nothing.
use Rattle.std.specs.Prelude.{ℕ}
use Rattle.numbers.specs.Ranges.{Range, from◌to◌, minus◌to◌}
pub use Rattle.sheet.specs.Limits.{temperature, radiation, wind, routine_limit, wind_limit, clear_minimum, signed_word}

-- `d` in its longest year
abbrev pub day_of_year : Range
day_of_year = from 1 to 366

-- ---- the earlier means: their number and their sum

abbrev pub earlier_count : Range
earlier_count = from 0 to 3

abbrev pub earlier_sum : Range
earlier_sum = minus 282 to 3_873

-- ---- the tables' entries

abbrev pub albedo : Range
albedo = from 230_000_000 to 350_000_000

abbrev pub a1 : Range
a1 = from 260_000_000 to 360_000_000

abbrev pub aw : Range
aw = from 400_000_000 to 1_800_000_000

abbrev pub bw : Range
bw = from 7_000_000 to 11_000_000

abbrev pub pressure : Range
pressure = from 700_000 to 1_013_000

-- ---- the sheet's lines

abbrev pub v4 : Range
v4 = from 165_000_000 to 2_111_000_000

abbrev pub vapour_pressure : Range
vapour_pressure = from 80_000_000 to 16_000_000_000

abbrev pub slope : Range
slope = from 1_000_000 to 1_000_000_000

abbrev pub latent_heat : Range
latent_heat = from 14_000_000 to 15_400_000

abbrev pub psychrometric : Range
psychrometric = from 0 to 100_000_000

abbrev pub weight : Range
weight = from 0 to 1_000_000_000

abbrev pub clear_sum : Range
clear_sum = minus 3_000_000_000_000_000 to 3_000_000_000_000_000

abbrev pub clear_day : Range
clear_day = from 50_000_000_000 to 3_000_000_000_000_000

-- at most two, but for what the division of Q by 1,000 drops
abbrev pub ratio : Range
ratio = from 0 to 2_000_000_040

abbrev pub cloud_factor : Range
cloud_factor = minus 70_000_000 to 2_260_000_000

abbrev pub emission : Range
emission = from 0 to 600_000_000

abbrev pub root : Range
root = from 0 to 400_000_000

abbrev pub emittance : Range
emittance = minus 600_000_000 to 360_000_000

abbrev pub back_radiation : Range
back_radiation = minus 1_000_000_000 to 1_000_000_000

abbrev pub net_radiation : Range
net_radiation = minus 1_000_000_000 to 1_600_000_000

abbrev pub soil_heat : Range
soil_heat = minus 900_000_000 to 900_000_000

abbrev pub heat : Range
heat = minus 3_000_000_000 to 3_000_000_000

abbrev pub counted_wind : Range
counted_wind = from 0 to routine_limit

abbrev pub wind_factor : Range
wind_factor = from 0 to 4_500_000_000

abbrev pub deficit : Range
deficit = minus 16_000_000_000 to 16_000_000_000

abbrev pub drying : Range
drying = minus 5_000_000_000 to 5_000_000_000

abbrev pub amount : Range
amount = minus 8_000_000_000 to 8_000_000_000

abbrev pub largest_figure : ℕ
largest_figure = 150_000

abbrev pub figure : Range
figure = from 0 to largest_figure
