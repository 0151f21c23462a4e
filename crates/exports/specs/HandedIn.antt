-- A station, a day and the earlier means from the numbers that are handed in for them. Assumes nothing.
use Rattle.std.specs.Prelude.{cond, ℕ, eqb, ℤ, Option, Some, None}
use Rattle.day.specs.declared.Day.{Day}
use Rattle.day.specs.declared.Earlier.{Earlier}
use Rattle.day.specs.declared.Station.{Station}

-- the code's letters, c1 to c5, the clear-day minimum, the elevation, the wind limit
abbrev pub station_of : ℕ → ℕ → ℕ → ℕ → ℤ → ℤ → ℤ → ℤ → ℤ → ℕ → ℕ → ℕ → Station
station_of first second third fourth c1 c2 c3 c4 c5 minimum elevation limit =
    record {
      code = record { first = first; second = second; third = third; fourth = fourth };
      c1 = c1;
      c2 = c2;
      c3 = c3;
      c4 = c4;
      c5 = c5;
      minimum = minimum;
      elevation = elevation;
      limit = limit;
    }

-- the date and the six readings, in the order of the day record
abbrev pub day_of : ℕ → ℕ → ℤ → ℤ → ℤ → ℤ → ℤ → ℤ → Day
day_of year d maximum minimum mean dewpoint radiation wind =
    record {
      year = year;
      d = d;
      maximum = maximum;
      minimum = minimum;
      mean = mean;
      dewpoint = dewpoint;
      radiation = radiation;
      wind = wind;
    }

-- a mean in tenths; a flag of 0 says that there is none
abbrev pub mean_of : ℕ → ℤ → Option ℤ
mean_of flag tenths = cond (eqb flag 0) None (Some tenths)

-- the means of the three calendar days before, the nearest first
abbrev pub three_before : ℕ → ℤ → ℕ → ℤ → ℕ → ℤ → Earlier
three_before hasOne one hasTwo two hasThree three = record { one = mean_of hasOne one; two = mean_of hasTwo two; three = mean_of hasThree three }
