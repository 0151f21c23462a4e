-- Days about the end of February and of the year, in 2007 and in the leap year 2008. Assumes nothing.
use mathlib.Core.Path.{◌≡◌, refl}
use mathlib.Core.List.{[], ◌∷◌, map}
use Rattle.tables.specs.Values.{first}
use Rattle.day.specs.Calendar.{year_length}
use Rattle.totals.specs.Months.{days_by, month_of}

-- 28 February and 1 March, and 31 December
pub common_year : map (month_of 2007) (59 ∷ 60 ∷ 365 ∷ []) ≡ 2 ∷ 3 ∷ 12 ∷ []
unfolding month_of days_by year_length first
common_year = refl

-- 29 February and 1 March, and 31 December
pub leap_year : map (month_of 2008) (60 ∷ 61 ∷ 366 ∷ []) ≡ 2 ∷ 3 ∷ 12 ∷ []
unfolding month_of days_by year_length first
leap_year = refl
