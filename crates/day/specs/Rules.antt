-- The rules of one day: when each refusal holds, in document 01's order and with its numbers. Assumes nothing.
use Rattle.std.specs.Prelude.{Bool, true, false, not, cond, ◌||◌, List, [], ◌∷◌, ◌++◌, ℕ, ◌+◌, ltb, eqb, ℤ, pos, negsuc, Option, Some, None, Result, MatchResult, ◌≡◌, ◌≢◌}
use Rattle.std.specs.Int.Signed.{lt_z}
use Rattle.numbers.specs.Ranges.{in_range}
use Rattle.sheet.specs.Limits as limits
-- the limit that kind 1 keeps, for the crates above, which do not rest on `sheet`
pub use Rattle.sheet.specs.Limits.{routine_limit}
use Rattle.day.specs.declared.Station.{Station}
use Rattle.day.specs.declared.Refusal.{Refusal}
use Rattle.day.specs.declared.UnknownRefusal.{UnknownRefusal}
use Rattle.day.specs.declared.Refusal.TheVariants.{StationField, BadDate, Missing, OutOfRange, OutOfOrder, AboveClear}

-- the document's number of each refusal. 11 was "D + g of the sheet below 1", which never holds of a day that the others let through. It went with
-- 02, W6, and the number is not given to anything else (proofs/WithEleven.antt).
abbrev pub number_of : Refusal → ℕ
number_of StationField = 3
number_of BadDate = 6
number_of Missing = 7
number_of OutOfRange = 8
number_of OutOfOrder = 9
number_of AboveClear = 10

-- the refusal with this number, or the number itself where no refusal has it
abbrev pub RefusalOf : ℕ → Result Refusal UnknownRefusal → Type 0
RefusalOf n r = MatchResult r (λ why. number_of why ≡ n) (λ e. (e.0 ≡ n) × ((why : Refusal) → number_of why ≢ n))

-- one of the tests holds
abbrev pub any_of : List Bool → Bool
any_of [] = false
any_of (b ∷ bs) = cond b true (any_of bs)

-- 3: a station field out of range. Code: four capitals A to Z. c1 to c5: any. "A limit out of range falls under 3" (02, W2).
abbrev pub not_capital : ℕ → Bool
not_capital x = ltb x 65 || ltb 90 x

abbrev pub code_faults : ℕ → ℕ → ℕ → ℕ → List Bool
code_faults first second third fourth = not_capital first ∷ not_capital second ∷ not_capital third ∷ not_capital fourth ∷ []

abbrev pub station_faults : ℕ → ℕ → ℕ → ℕ → ℕ → ℕ → ℕ → List Bool
station_faults first second third fourth minimum elevation limit =
    code_faults first second third fourth
    ++ (not (in_range limits.clear_minimum (pos minimum))
    ∷ not (in_range limits.elevation (pos elevation))
    ∷ not (in_range limits.wind_limit (pos limit))
    ∷ [])

abbrev pub bad_station : Station → Bool
bad_station st = any_of (station_faults st.code.first st.code.second st.code.third st.code.fourth st.minimum st.elevation st.limit)

-- 7: any of the six readings missing. "The value -32,768 means missing"; `negsuc n` is -(n + 1).
abbrev pub is_missing : ℤ → Bool
is_missing (pos n) = false
is_missing (negsuc n) = eqb (n + 1) 32_768

-- the readings other than the dew point
abbrev pub other_marks : ℤ → ℤ → ℤ → ℤ → ℤ → List Bool
other_marks maximum minimum mean radiation wind =
    is_missing maximum ∷ is_missing minimum ∷ is_missing mean ∷ is_missing radiation ∷ is_missing wind ∷ []

abbrev pub missing_marks : ℤ → ℤ → ℤ → ℤ → ℤ → ℤ → List Bool
missing_marks maximum minimum mean dewpoint radiation wind = is_missing dewpoint ∷ other_marks maximum minimum mean radiation wind

-- 8: a reading out of range, or an earlier mean that is present but out of range
abbrev pub reading_faults : ℤ → ℤ → ℤ → ℤ → ℤ → ℤ → List Bool
reading_faults maximum minimum mean dewpoint radiation wind =
    not (in_range limits.temperature maximum)
    ∷ not (in_range limits.temperature minimum)
    ∷ not (in_range limits.temperature mean)
    ∷ not (in_range limits.temperature dewpoint)
    ∷ not (in_range limits.radiation radiation)
    ∷ not (in_range limits.wind wind)
    ∷ []

abbrev pub mean_fault : Option ℤ → Bool
mean_fault (Some f) = not (in_range limits.temperature f)
mean_fault None = false

-- 9: minimum > mean, mean > maximum, or dew point > maximum
abbrev pub order_faults : ℤ → ℤ → ℤ → ℤ → List Bool
order_faults maximum minimum mean dewpoint = lt_z mean minimum ∷ lt_z maximum mean ∷ lt_z maximum dewpoint ∷ []
