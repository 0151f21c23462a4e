-- Days on both sides of each edge of the refusals 3 and 6 to 10, in one table with one statement over it, `edges`. A refusal that is made wider or
-- narrower breaks it, even where definition and code agree. Assumes nothing.
use mathlib.Core.Path.{◌≡◌, refl}
use mathlib.Core.List.{List, [], ◌∷◌, map}
use Prim.Native.Nat.{ℕ}
use lib.IntN.{ℤ, pos, negsuc}
use Rattle.std.specs.Prelude.{Option, Some, None, Result, Ok, Err}
use Rattle.sheet.specs.Limits.{routine_limit}
use Rattle.sheet.specs.StepSheet as sheet
use Rattle.day.specs.Calendar.{year_length, is_date}
use Rattle.day.specs.Rules.{number_of}
use Rattle.day.specs.Judgement.{clear_of, holds, standing_of, lacks_dew_point, as_judged}
use Rattle.day.specs.declared.Code.{Code}
use Rattle.day.specs.declared.Station.{Station}
use Rattle.day.specs.declared.Day.{Day}
use Rattle.day.specs.declared.Earlier.{Earlier}
use Rattle.day.specs.declared.Refusal.{Refusal}

-- ---- the number that a day is refused with

-- the number of the refusal, 0 for an answered day
abbrev number_in : Result (Unit {0}) Refusal → ℕ
number_in (Err r) = number_of r
number_in (Ok done) = 0

-- of the day as it is judged
abbrev refused_with : Station → Day → Earlier → ℕ
refused_with st day earlier = number_in (standing_of st (as_judged day) earlier)

-- ---- stations, days and earlier means

-- a station by its letters, its constants, and its minimum, elevation and limit; document 01's LIDW has these letters and constants
abbrev station_of : Code → ℤ → ℤ → ℤ → ℤ → ℤ → ℕ → ℕ → ℕ → Station
station_of code c1 c2 c3 c4 c5 minimum elevation limit =
    record { code = code; c1 = c1; c2 = c2; c3 = c3; c4 = c4; c5 = c5; minimum = minimum; elevation = elevation; limit = limit }

abbrev spelling : ℕ → ℕ → ℕ → ℕ → Code
spelling first second third fourth = record { first = first; second = second; third = third; fourth = fourth }

abbrev with_code : Code → ℕ → ℕ → ℕ → Station
with_code code = station_of code (pos 154) (pos 1_760) (pos 614) (negsuc 395) (pos 590)

abbrev LIDW : Code
LIDW = spelling 76 73 68 87

-- LIDW, but for the first letter, the clear-day minimum, the elevation and the wind limit
abbrev pub lidw_with : ℕ → ℕ → ℕ → ℕ → Station
lidw_with letter = with_code (spelling letter 73 68 87)

-- with kind 1's limit
abbrev station : ℕ → ℕ → ℕ → Station
station letter minimum elevation = lidw_with letter minimum elevation routine_limit

abbrev lidw : Station
lidw = station 76 100 497

-- one with a clear day of 500 cal/cm²/d all year
abbrev even : Station
even = station_of LIDW (pos 500) (pos 0) (pos 0) (pos 0) (pos 0) 100 497 routine_limit

-- one whose c1 to c5 are all the same number; and one without a clear day of its own: the minimum, 100 cal/cm²/d, stands for it
abbrev constant : ℤ → Station
constant c = station_of LIDW c c c c c 100 497 routine_limit

abbrev dim : Station
dim = constant (pos 0)

-- LIDW with other letters than its first
abbrev spelt : ℕ → ℕ → ℕ → Station
spelt second third fourth = with_code (spelling 76 second third fourth) 100 497 routine_limit

-- a dark day at any date with any wind run; without wind, and with its reading missing
abbrev dark_day : ℤ → ℕ → ℕ → Day
dark_day wind year d = record { year = year; d = d; maximum = pos 320; minimum = pos 320; mean = pos 320; dewpoint = pos 320; radiation = pos 0; wind = wind }

abbrev dated : ℕ → ℕ → Day
dated = dark_day (pos 0)

abbrev windless : ℕ → ℕ → Day
windless = dark_day (negsuc 32_767)

-- day 180 of 2008 with any readings: maximum, minimum, mean, dew point, radiation and wind; and a summer's, but for one of them
abbrev reading : ℤ → ℤ → ℤ → ℤ → ℤ → ℤ → Day
reading maximum minimum mean dewpoint radiation wind =
    record {
      year = 2008;
      d = 180;
      maximum = maximum;
      minimum = minimum;
      mean = mean;
      dewpoint = dewpoint;
      radiation = radiation;
      wind = wind;
    }

abbrev with_maximum : ℤ → Day
with_maximum z = reading z (pos 550) (pos 720) (pos 500) (pos 7_000) (pos 1_000)

abbrev with_minimum : ℤ → Day
with_minimum z = reading (pos 900) z (pos 720) (pos 500) (pos 7_000) (pos 1_000)

abbrev with_mean : ℤ → Day
with_mean z = reading (pos 900) (pos 550) z (pos 500) (pos 7_000) (pos 1_000)

abbrev with_dewpoint : ℤ → Day
with_dewpoint z = reading (pos 900) (pos 550) (pos 720) z (pos 7_000) (pos 1_000)

abbrev with_radiation : ℤ → Day
with_radiation z = reading (pos 900) (pos 550) (pos 720) (pos 500) z (pos 1_000)

abbrev with_wind : ℤ → Day
with_wind z = reading (pos 900) (pos 550) (pos 720) (pos 500) (pos 7_000) z

-- without a dew point: maximum, minimum, mean, radiation and wind
abbrev without_dewpoint : ℤ → ℤ → ℤ → ℤ → ℤ → Day
without_dewpoint maximum minimum mean radiation wind = reading maximum minimum mean (negsuc 32_767) radiation wind

abbrev means : Option ℤ → Option ℤ → Option ℤ → Earlier
means one two three = record { one = one; two = two; three = three }

-- ---- the table

-- the number for a station, for a day at LIDW, and for earlier means there
abbrev at_station : Station → ℕ
at_station st = refused_with st (dated 2008 180) (means None None None)

abbrev on_day : Day → ℕ
on_day day = refused_with lidw day (means None None None)

abbrev after : Option ℤ → Option ℤ → Option ℤ → ℕ
after one two three = refused_with lidw (dated 2008 180) (means one two three)

infix 2 ◌gives◌
data Row : Type 0 where
  ◌gives◌ : ℕ → ℕ → Row

abbrev given : Row → ℕ
given (n gives k) = n

abbrev written : Row → ℕ
written (n gives k) = k

abbrev table : List Row
table =
    -- 3: a letter of the code, the minimum, the elevation, the wind limit
    (at_station (station 64 100 497) gives 3)
    ∷ (at_station (station 65 100 497) gives 0)
    ∷ (at_station (station 90 100 497) gives 0)
    ∷ (at_station (station 91 100 497) gives 3)
    ∷ (at_station (spelt 64 68 87) gives 3)
    ∷ (at_station (spelt 91 68 87) gives 3)
    ∷ (at_station (spelt 73 64 87) gives 3)
    ∷ (at_station (spelt 73 91 87) gives 3)
    ∷ (at_station (spelt 73 68 64) gives 3)
    ∷ (at_station (spelt 73 68 91) gives 3)
    ∷ (at_station (station 76 49 497) gives 3)
    ∷ (at_station (station 76 50 497) gives 0)
    ∷ (at_station (station 76 200 497) gives 0)
    ∷ (at_station (station 76 201 497) gives 3)
    ∷ (at_station (station 76 100 3_000) gives 0)
    ∷ (at_station (station 76 100 3_001) gives 3)
    ∷ (at_station (lidw_with 76 100 497 999) gives 3)
    ∷ (at_station (lidw_with 76 100 497 1_000) gives 0)
    ∷ (at_station (lidw_with 76 100 497 1_500) gives 0)
    ∷ (at_station (lidw_with 76 100 497 1_501) gives 3)
    -- c1 to c5 are any, and -32,768 is no mark in them
    ∷ (at_station (constant (negsuc 32_767)) gives 0)
    ∷ (at_station (constant (pos 32_767)) gives 0)
    -- 6: the years, and the days of a leap year and of a common one
    ∷ (on_day (dated 1949 1) gives 6)
    ∷ (on_day (dated 1950 1) gives 0)
    ∷ (on_day (dated 2099 365) gives 0)
    ∷ (on_day (dated 2100 1) gives 6)
    ∷ (on_day (dated 2008 0) gives 6)
    ∷ (on_day (dated 2008 366) gives 0)
    ∷ (on_day (dated 2008 367) gives 6)
    ∷ (on_day (dated 2007 365) gives 0)
    ∷ (on_day (dated 2007 366) gives 6)
    ∷ (on_day (dated 2000 366) gives 0)
    -- 7: the mark -32,768 in each reading but the dew point; -32,767 is a number, out of range
    ∷ (on_day (with_maximum (negsuc 32_767)) gives 7)
    ∷ (on_day (with_maximum (negsuc 32_766)) gives 8)
    ∷ (on_day (with_minimum (negsuc 32_767)) gives 7)
    ∷ (on_day (with_minimum (negsuc 32_766)) gives 8)
    ∷ (on_day (with_mean (negsuc 32_767)) gives 7)
    ∷ (on_day (with_mean (negsuc 32_766)) gives 8)
    ∷ (on_day (with_dewpoint (negsuc 32_767)) gives 0)
    ∷ (on_day (with_dewpoint (negsuc 32_766)) gives 8)
    ∷ (on_day (with_radiation (negsuc 32_767)) gives 7)
    ∷ (on_day (with_radiation (negsuc 32_766)) gives 8)
    ∷ (on_day (with_wind (negsuc 32_767)) gives 7)
    ∷ (on_day (with_wind (negsuc 32_766)) gives 8)
    -- 7: the same beside a missing dew point
    ∷ (on_day (without_dewpoint (negsuc 32_767) (pos 550) (pos 720) (pos 7_000) (pos 1_000)) gives 7)
    ∷ (on_day (without_dewpoint (pos 900) (negsuc 32_767) (pos 720) (pos 7_000) (pos 1_000)) gives 7)
    ∷ (on_day (without_dewpoint (pos 900) (pos 550) (negsuc 32_767) (pos 7_000) (pos 1_000)) gives 7)
    ∷ (on_day (without_dewpoint (pos 900) (pos 550) (pos 720) (negsuc 32_767) (pos 1_000)) gives 7)
    ∷ (on_day (without_dewpoint (pos 900) (pos 550) (pos 720) (pos 7_000) (negsuc 32_767)) gives 7)
    -- 8 and 9 where the dew point alone is missing: the minimum beyond its range, and above the mean
    ∷ (on_day (without_dewpoint (pos 900) (negsuc 93) (pos 720) (pos 7_000) (pos 1_000)) gives 0)
    ∷ (on_day (without_dewpoint (pos 900) (negsuc 94) (pos 720) (pos 7_000) (pos 1_000)) gives 8)
    ∷ (on_day (without_dewpoint (pos 900) (pos 720) (pos 720) (pos 7_000) (pos 1_000)) gives 0)
    ∷ (on_day (without_dewpoint (pos 900) (pos 721) (pos 720) (pos 7_000) (pos 1_000)) gives 9)
    -- 8: all readings at the low and at the high ends of their ranges, and each beyond one of them
    ∷ (on_day (reading (negsuc 93) (negsuc 93) (negsuc 93) (negsuc 93) (pos 0) (pos 0)) gives 0)
    ∷ (on_day (reading (pos 1_291) (pos 1_291) (pos 1_291) (pos 1_291) (pos 12_000) (pos 9_999)) gives 0)
    ∷ (on_day (with_maximum (negsuc 94)) gives 8)
    ∷ (on_day (with_maximum (pos 1_292)) gives 8)
    ∷ (on_day (with_minimum (negsuc 94)) gives 8)
    ∷ (on_day (with_minimum (pos 1_292)) gives 8)
    ∷ (on_day (with_mean (negsuc 94)) gives 8)
    ∷ (on_day (with_mean (pos 1_292)) gives 8)
    ∷ (on_day (with_dewpoint (negsuc 94)) gives 8)
    ∷ (on_day (with_dewpoint (pos 1_292)) gives 8)
    ∷ (on_day (with_radiation (negsuc 0)) gives 8)
    ∷ (on_day (with_radiation (pos 12_001)) gives 8)
    ∷ (on_day (with_wind (negsuc 0)) gives 8)
    ∷ (on_day (with_wind (pos 10_000)) gives 8)
    -- 8: an earlier mean, for which -32,768 is no mark
    ∷ (after (Some (negsuc 93)) None None gives 0)
    ∷ (after (Some (pos 1_291)) None None gives 0)
    ∷ (after (Some (negsuc 94)) None None gives 8)
    ∷ (after (Some (pos 1_292)) None None gives 8)
    ∷ (after (Some (negsuc 32_767)) None None gives 8)
    ∷ (after None (Some (negsuc 93)) None gives 0)
    ∷ (after None (Some (negsuc 94)) None gives 8)
    ∷ (after None None (Some (negsuc 93)) gives 0)
    ∷ (after None None (Some (negsuc 94)) gives 8)
    -- 9: the minimum and the mean, the mean and the maximum, the dew point and the maximum
    ∷ (on_day (with_minimum (pos 720)) gives 0)
    ∷ (on_day (with_minimum (pos 721)) gives 9)
    ∷ (on_day (with_mean (pos 900)) gives 0)
    ∷ (on_day (with_mean (pos 901)) gives 9)
    ∷ (on_day (with_dewpoint (pos 900)) gives 0)
    ∷ (on_day (with_dewpoint (pos 901)) gives 9)
    -- 10: twice a clear day of 500 cal/cm²/d
    ∷ (refused_with even (with_radiation (pos 10_000)) (means None None None) gives 0)
    ∷ (refused_with even (with_radiation (pos 10_001)) (means None None None) gives 10)
    -- 10: twice the minimum, where that stands for the clear day
    ∷ (refused_with dim (with_radiation (pos 2_000)) (means None None None) gives 0)
    ∷ (refused_with dim (with_radiation (pos 2_001)) (means None None None) gives 10)
    -- where two hold, the first in order: 3 and 6, 6 and 7, 6 and 8, 7 and 8, 8 and 9, 9 and 10
    ∷ (refused_with (station 64 100 497) (dated 2100 1) (means None None None) gives 3)
    ∷ (on_day (windless 2100 1) gives 6)
    ∷ (refused_with lidw (dated 2100 1) (means (Some (negsuc 94)) None None) gives 6)
    ∷ (on_day (reading (negsuc 32_767) (pos 550) (pos 720) (pos 500) (pos 7_000) (negsuc 0)) gives 7)
    ∷ (on_day (with_minimum (pos 1_292)) gives 8)
    ∷ (refused_with even (reading (pos 900) (pos 721) (pos 720) (pos 500) (pos 10_001) (pos 1_000)) (means None None None) gives 9)
    ∷ []

edges : map given table ≡ map written table
unfolding lacks_dew_point as_judged standing_of holds is_date year_length clear_of sheet.clear_sum sheet.Q sheet.above_twice_clear
edges = refl
