-- The Gregorian calendar of the years 1950 to 2099. Assumes nothing.
use Rattle.std.specs.Prelude.{Bool, false, cond, ℕ, ◌%◌, eqb, ltb, leb}

-- the years that the office takes
abbrev pub first_year : ℕ
first_year = 1950

abbrev pub last_year : ℕ
last_year = 2099

-- 366 days in a leap year: one that 4 divides, but of those that 100 divides only the ones that 400 divides
unfoldable pub year_length : ℕ → ℕ
year_length y = cond (eqb (y % 4) 0) (cond (eqb (y % 100) 0) (cond (eqb (y % 400) 0) 366 365) 366) 365

-- Year: 1950 to 2099. `d`: 1 to 365, or 366 in a Gregorian leap year.
unfoldable pub is_date : ℕ → ℕ → Bool
is_date y d = cond (ltb y first_year) false (cond (ltb last_year y) false (cond (ltb d 1) false (leb d (year_length y))))
