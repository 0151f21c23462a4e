-- The months that the table gives are the calendar's: each day of a year is in one of them, and together they are the year. Assumes nothing.
use mathlib.Core.Path.{◌≡◌}
use mathlib.Core.Logic.{⊎_elim}
use mathlib.Core.Bool.{Bool, true, cond}
use mathlib.Core.List.{List, [], ◌∷◌}
use Prim.Native.Nat.{ℕ, zero, suc, ◌+◌, ◌-◌, ◌≤◌, ◌<◌}
use native.Mathlib.Nat.{zero-add, eq-or-lt_of_le}
use native.Mathlib.Omega.{arith}
use lib.Dec.{T, eqb, eqb→eq, ltb, leb, leb→le, nleb→lt, le→leb, not_T, lit<, lit≤}
use lib.ListN.{get_or}
use Rattle.numbers.proofs.Table.{every, entry_passes}
use Rattle.tables.proofs.Searches.{none_before, first_passes, first_at_most}
use Rattle.day.specs.Calendar.{year_length, is_date}
use Rattle.day.proofs.Dates.{year_length_in, date_tells}
use Rattle.totals.specs.Months.{offsets, leap_days, days_by, month_of, months}

-- their lengths, January to December, with so many leap days
abbrev pub lengths : ℕ → List ℕ
lengths leap = 31 ∷ (28 + leap) ∷ 31 ∷ 30 ∷ 31 ∷ 30 ∷ 31 ∷ 31 ∷ 30 ∷ 31 ∷ 30 ∷ 31 ∷ []

-- the days of the first i of these months
unfoldable pub added_up : ℕ → List ℕ → ℕ
added_up zero months = 0
added_up (suc i) [] = 0
added_up (suc i) (days ∷ months) = days + added_up i months

abbrev pub days_of_first : ℕ → ℕ → ℕ
days_of_first i year = added_up i (lengths (leap_days year))

-- day d of the year is in its month m
pub record InMonth (year d m : ℕ) : Type 0 where
  pub from_january : 1 ≤ m
  pub to_december : m ≤ 12
  pub behind : days_of_first (m - 1) year < d
  pub within : d ≤ days_of_first m year

-- ---- the table has the days that the months' lengths add up to

abbrev right : ℕ → ℕ → ℕ → Bool
right leap i before = eqb (before + cond (ltb i 2) 0 leap) (added_up i (lengths leap))

by_test : (leap : ℕ) → T (every (right leap) 0 offsets) → (i : ℕ) → i < 13 → get_or offsets i 0 + cond (ltb i 2) 0 leap ≡ added_up i (lengths leap)
by_test leap t i h = eqb→eq _ _ (entry_passes (right leap) 0 offsets t i i (zero-add i) h)

table_adds_up : (year i : ℕ) → i < 13 → days_by year i ≡ days_of_first i year
unfolding days_by added_up
table_adds_up year i h =
    ⊎_elim (λ (e : 365 ≡ year_length year). rw (← e) (by_test 0 tt i h))
    (λ (l : 365 < year_length year). let e : year_length year ≡ 366 = omega (arith, year_length_in year) in rw e (by_test 1 tt i h))
    (eq-or-lt_of_le (year_length_in year).0)

ascend : (months : List ℕ) (i j : ℕ) → i ≤ j → added_up i months ≤ added_up j months
unfolding added_up
ascend months zero j h = omega arith
ascend [] (suc i) j h = omega arith
ascend (days ∷ months) (suc i) zero h = absurd (omega arith)
ascend (days ∷ months) (suc i) (suc j) h = omega (arith, ascend months i j (omega arith))

-- the months are the year
pub months_whole : (year : ℕ) → days_of_first 12 year ≡ year_length year
unfolding added_up
months_whole year = omega (arith, year_length_in year)

-- ---- the search ends at the calendar's month

module _ (year d : ℕ) where
  -- the test of the search
  abbrev enough : ℕ → Bool
  enough i = leb d (days_by year i)

  passes : (i : ℕ) → i < 13 → d ≤ days_of_first i year → T (enough i)
  passes i h l = le→leb d (days_by year i) (rw (table_adds_up year i h) l)

  at_most : (m : ℕ) → m ≤ 12 → d ≤ days_of_first m year → month_of year d ≤ m
  unfolding month_of
  at_most m h l = let i : m < 13 = omega arith in first_at_most enough 13 m i (passes m i l)

  module _ (date : is_date year d ≡ true) where
    in_year : (1 ≤ d) × (d ≤ days_of_first 12 year)
    in_year = let told = date_tells year d date in rw (months_whole year) (told.first_day, told.last_day)

    to_december : month_of year d ≤ 12
    to_december = at_most 12 (lit≤ tt) in_year.1

    within : d ≤ days_of_first (month_of year d) year
    unfolding month_of
    within =
        rw (← table_adds_up year (month_of year d) (omega (arith, to_december)))
        (leb→le d (days_by year (month_of year d)) (first_passes enough 13 12 (lit< tt) (passes 12 (lit< tt) in_year.1)))

    behind : (i : ℕ) → i < month_of year d → days_of_first i year < d
    unfolding month_of
    behind i h =
        rw (← table_adds_up year i (omega (arith, to_december)))
        (nleb→lt d (days_by year i) (not_T (enough i) (none_before enough 13 i h)))

    -- months that do not have the day end before its month
    later : (i : ℕ) → days_of_first i year < d → i < month_of year d
    later i l =
        let n : ¬ (month_of year d ≤ i) = λ h. omega (arith, ascend (lengths (leap_days year)) (month_of year d) i h, within) in
        omega arith

pub month_range : (year d : ℕ) → is_date year d ≡ true → (1 ≤ month_of year d) × (month_of year d ≤ 12)
unfolding added_up
month_range year d date = (later year d date 0 (in_year year d date).0, to_december year d date)

-- every day of every year from 1950 to 2099 is in one month, and only in that one
pub in_one_month : (year d : ℕ) → is_date year d ≡ true → InMonth year d (month_of year d) × ((m : ℕ) → InMonth year d m → m ≡ month_of year d)
in_one_month year d date =
    let r = month_range year d date in (
      record { from_january = r.0; to_december = r.1; behind = behind year d date (month_of year d - 1) (omega arith); within = within year d date },
      λ m h. omega (arith, later year d date (m - 1) h.behind, at_most year d m h.to_december h.within),
    )

-- a later day of a year is in no earlier month
pub months_ascend : (year d d' : ℕ) → is_date year d ≡ true → is_date year d' ≡ true → d ≤ d' → month_of year d ≤ month_of year d'
months_ascend year d d' date date' l = at_most year d (month_of year d') (to_december year d' date') (omega (arith, within year d' date'))
