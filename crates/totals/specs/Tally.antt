-- How the totals are kept while a block's answers are gone through in date order: the contracts of the tally cite it, no public promise does.
-- Assumes nothing.
use Rattle.std.specs.Prelude.{Option, Some, None, Bool, false, not, cond, List, [], ◌∷◌, ◌≡◌, ℕ, ◌+◌, ◌*◌, ◌-◌, ◌≤◌, ◌<◌}
use Rattle.answers.specs.declared.Answer.{Answer}
use Rattle.day.specs.Calendar.{first_year}
use Rattle.totals.specs.Months.{year_at, month_at, months}
use Rattle.totals.specs.Totals.{none, one, plus, is_month, counted_of}
use Rattle.totals.specs.declared.tally.Counted.{Counted}
use Rattle.totals.specs.declared.tally.Tally.{Tally}
use Rattle.totals.specs.declared.tally.Total.{Total}

-- before the first answer January 1950 is open, with nothing in it
abbrev pub begun : Tally
begun = record { year = first_year; month = 1; total = none; season = none }

-- a day of another month than the one that is open
abbrev pub begins : Tally → Option Counted → Bool
begins t None = false
begins t (Some c) = not (is_month t.year t.month c.year c.month)

-- what its month has so far
abbrev pub so_far : Tally → ℕ → ℕ → Total
so_far t year month = cond (is_month t.year t.month year month) t.total none

-- its month is open then
abbrev pub after : Tally → Option Counted → Tally
after t None = t
after t (Some c) =
    record {
      year = c.year;
      month = c.month;
      total = plus (so_far t c.year c.month) (one c.n);
      season = plus t.season (one c.n);
    }

-- what is said of each month when it ends, and of the season behind the last answer
abbrev pub ended : (ℕ → ℕ → Total → List ℕ) → Tally → Option Counted → List ℕ
ended line t c = cond (begins t c) (line t.year t.month t.total) []

-- ---- date order

-- the number of month m of a year among those of the calendar
abbrev pub month_number : ℕ → ℕ → ℕ
month_number year m = 12 * (year - first_year) + (m - 1)

-- what is counted is of month number k of the calendar, or of a later one; its number is the least for what comes behind it
abbrev pub Comes : ℕ → Option Counted → Type 0
Comes k None = Unit {0}
Comes k (Some c) =
    let i : ℕ = month_number c.year c.month in (year_at i ≡ c.year) × (month_at i ≡ c.month) × (k ≤ i) × (i < months)

abbrev pub reached : ℕ → Option Counted → ℕ
reached k None = k
reached k (Some c) = month_number c.year c.month

abbrev pub InMonthOrder : ℕ → List Answer → Type 0
InMonthOrder k [] = Unit {0}
InMonthOrder k (a ∷ rest) = Comes k (counted_of a) × InMonthOrder (reached k (counted_of a)) rest

-- ---- no overflow

-- a total of so many days at most, each with a figure of four bytes
abbrev pub AtMost : ℕ → Total → Type 0
AtMost days t = (t.days ≤ days) × (t.sum ≤ 4294967295 * days)

abbrev pub Within : ℕ → Tally → Type 0
Within days t = AtMost days t.total × AtMost days t.season

-- far more days than any log has, and neither a number of days nor a sum has grown too large
abbrev pub days_limit : ℕ
days_limit = 1000000
