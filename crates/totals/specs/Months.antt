-- The months of the calendar, by document 02, W5. Assumes nothing.
use Rattle.std.specs.Prelude.{cond, List, [], ◌∷◌, ℕ, ◌+◌, ◌*◌, ◌-◌, ◌/◌, ◌%◌, ltb, leb, get_or}
use Rattle.tables.specs.Values.{first}
use Rattle.day.specs.Calendar.{first_year, last_year, year_length}

-- "the days before each month as source document 000 lists them", and behind them the days of the year
abbrev pub offsets : List ℕ
offsets = 0 ∷ 31 ∷ 59 ∷ 90 ∷ 120 ∷ 151 ∷ 181 ∷ 212 ∷ 243 ∷ 273 ∷ 304 ∷ 334 ∷ 365 ∷ []

-- one in a leap year, else none
abbrev pub leap_days : ℕ → ℕ
leap_days year = year_length year - 365

-- the days of a year's first i months: "one more from March on in leap years"
unfoldable pub days_by : ℕ → ℕ → ℕ
days_by year i = get_or offsets i 0 + cond (ltb i 2) 0 (leap_days year)

-- the month of day d, 1 for January: the least number of months that together have d days or more. Day 0 gets 0 and a day behind the year 13,
-- which are no months
unfoldable pub month_of : ℕ → ℕ → ℕ
month_of year d = first (λ (i : ℕ). leb d (days_by year i)) 13 0

-- ---- the months of the calendar in date order, 0 for January 1950

abbrev pub year_at : ℕ → ℕ
year_at k = first_year + k / 12

abbrev pub month_at : ℕ → ℕ
month_at k = k % 12 + 1

-- the number of them all: 1,800
abbrev pub months : ℕ
months = 12 * (last_year - first_year + 1)
