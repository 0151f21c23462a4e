-- How long a line is: the sum of its fields (`day_line_size`, `crop_line_size`, `month_line_size`, `season_line_size`, `refused_line_size`), and never more
-- than the lent 64 bytes (`day_line_most`, `crop_line_most`, `month_line_most`, `season_line_most`, `refused_line_most`). What a log's totals can be makes
-- shorter lines: `month_line_of_log`, `season_line_of_log`, `month_line_of_day`. Assumes nothing.
use mathlib.Core.Path.{◌≡◌, ap}
use mathlib.Core.List.{List}
use Prim.Native.Nat.{ℕ, suc, ◌+◌, ◌/◌, ◌^◌, ◌≤◌, ◌<◌}
use native.Mathlib.Omega.{arith}
use lib.Dec.{lit<}
use lib.ListN.{length, length-append}
use denote.Laws.{Is}
use mir.Val.{Val}
use Rattle.std.specs.Prelude.{Ok, Err}
use Rattle.std.specs.contracts.result.Result.{the_row as result_row}
use Rattle.day.specs.contracts.Figure.{the_row as figure_row}
use Rattle.day.specs.contracts.Refusal.{the_row as refusal_row}
use Rattle.day.specs.Rules.{number_of}
use Rattle.day.specs.declared.Code.{Code}
use Rattle.day.specs.declared.Refusal.{Refusal}
use Rattle.day.specs.declared.Refusal.TheVariants.{StationField, BadDate, Missing, OutOfRange, OutOfOrder, AboveClear}
use Rattle.day.specs.Judgement.{Verdict}
use Rattle.day.specs.declared.Figure.TheVariants.{Measured, Estimated}
use Rattle.lines.specs.Text.{digits, padded, inches, field, verdict_text, day_line, crop_line, totals, month_line, season_line, refused_line}
use Rattle.lines.proofs.Digits.{padded_short, digits_most, padded_most, inches_most}

-- what holds of a verdict that code is handed, alone or in a line: its figure fits in 32 bits
abbrev pub Handed : Verdict → Type 0
Handed v = (stored : List Val) × Is (result_row figure_row refusal_row) v stored

two_digits : (r : Refusal) → number_of r < 10 ^ 2
two_digits StationField = lit< tt
two_digits BadDate = lit< tt
two_digits Missing = lit< tt
two_digits OutOfRange = lit< tt
two_digits OutOfOrder = lit< tt
two_digits AboveClear = lit< tt

pub refusal_most : (r : Refusal) → length (verdict_text (Err r)) ≤ 3
unfolding verdict_text
refusal_most r = omega (arith, digits_most 1 (number_of r) (two_digits r))

-- the mark is two bytes
pub estimate_size : (n : ℕ) → length (verdict_text (Ok (Estimated n))) ≡ length (inches n) + 2
unfolding verdict_text
estimate_size n = simp length-append

-- at most 6 digits, a point, 4 decimals and the mark
verdict_most : (v : Verdict) → Handed v → length (verdict_text v) ≤ 13
unfolding verdict_text
verdict_most (Ok (Measured n)) handed =
    let fits : n < 2 ^ 32 = handed.1.1.1.1.1.0.1.1.1.1.0.1 in
    omega (arith, inches_most 5 n (omega arith))
verdict_most (Ok (Estimated n)) handed =
    let fits : n < 2 ^ 32 = handed.1.1.1.1.1.0.1.1.1.1.0.1 in
    omega (arith, estimate_size n, inches_most 5 n (omega arith))
verdict_most (Err r) handed = omega (arith, refusal_most r)

pub day_line_size : (code : Code) (year d : ℕ) (v : Verdict)
    → length (day_line code year d v) ≡ 4 + length (field (padded 4 year)) + length (field (padded 3 d)) + length (field (verdict_text v)) + 1
unfolding day_line
day_line_size code year d v = simp length-append

pub day_line_most : (code : Code) (year d : ℕ) (v : Verdict) → year < 2 ^ 16 → d < 2 ^ 16 → Handed v → length (day_line code year d v) ≤ 64
day_line_most code year d v year-fits d-fits handed =
    omega (arith, day_line_size code year d v, padded_most 4 4 year (omega arith) (omega arith), padded_most 4 3 d (omega arith) (omega arith), verdict_most v handed)

pub crop_line_size : (code : Code) (n : ℕ) → length (crop_line code n) ≡ 4 + length (field (inches n)) + 1
unfolding crop_line
crop_line_size code n = simp length-append

pub crop_line_most : (code : Code) (n : ℕ) → n < 2 ^ 32 → length (crop_line code n) ≤ 64
crop_line_most code n fits = omega (arith, crop_line_size code n, inches_most 5 n (omega arith))

pub totals_size : (days sum : ℕ) → length (totals days sum) ≡ length (field (padded 0 days)) + length (field (inches sum)) + 1
unfolding totals
totals_size days sum = simp length-append (omega (arith, ap length (padded_short 0 days (omega arith))))

-- at most i + 1 digits of the days, j + 1 of the inches, a point and 4 decimals, two spaces and a newline
totals_most : (i j days sum : ℕ) → days < 10 ^ suc i → sum / 10_000 < 10 ^ suc j → length (totals days sum) ≤ i + j + 10
totals_most i j days sum few small = omega (arith, totals_size days sum, padded_most i 0 days (omega arith) few, inches_most j sum small)

module _ (code : Code) (year month days sum : ℕ) where
  pub month_line_size :
      length (month_line code year month days sum) ≡ 4 + length (field (padded 4 year)) + length (field (padded 2 month)) + length (totals days sum)
  unfolding month_line
  month_line_size = simp length-append

  -- at most a + 1 digits of the year, b + 1 of the month, and the totals as above
  month_line_digits : (a b i j : ℕ) → 3 ≤ a → 1 ≤ b → year < 10 ^ suc a → month < 10 ^ suc b → days < 10 ^ suc i → sum / 10_000 < 10 ^ suc j
      → length (month_line code year month days sum) ≤ a + b + i + j + 18
  month_line_digits a b i j four two year-fits month-fits days-fit sum_fits =
      omega (
        arith,
        month_line_size,
        padded_most a 4 year (omega arith) year-fits,
        padded_most b 2 month (omega arith) month-fits,
        totals_most i j days sum days-fit sum_fits,
      )

  pub month_line_most : year < 2 ^ 16 → month < 2 ^ 16 → days < 2 ^ 32 → sum < 2 ^ 64 → length (month_line code year month days sum) ≤ 64
  month_line_most year-fits month-fits days-fit sum_fits =
      omega (arith, month_line_digits 4 4 9 15 (omega arith) (omega arith) (omega arith) (omega arith) (omega arith) (omega arith))

  -- a month of the calendar, with fewer than 10,000 days and less than 100,000 inches
  pub month_line_of_log : year ≤ 9_999 → month ≤ 99 → days < 10_000 → sum < 1_000_000_000 → length (month_line code year month days sum) ≤ 29
  month_line_of_log dated in_year few small =
      omega (arith, month_line_digits 3 1 3 4 (omega arith) (omega arith) (omega arith) (omega arith) (omega arith) (omega arith))

  -- one with fewer than ten days and less than ten inches
  pub month_line_of_day : year ≤ 9_999 → month ≤ 99 → days < 10 → sum < 100_000 → length (month_line code year month days sum) ≤ 22
  month_line_of_day dated in_year few small =
      omega (arith, month_line_digits 3 1 0 0 (omega arith) (omega arith) (omega arith) (omega arith) (omega arith) (omega arith))

pub season_line_size : (code : Code) (days sum : ℕ) → length (season_line code days sum) ≡ 8 + length (totals days sum)
unfolding season_line
season_line_size code days sum = simp length-append

pub season_line_most : (code : Code) (days sum : ℕ) → days < 2 ^ 32 → sum < 2 ^ 64 → length (season_line code days sum) ≤ 64
season_line_most code days sum days-fit sum_fits =
    omega (arith, season_line_size code days sum, totals_most 9 15 days sum (omega arith) (omega arith))

-- a season of fewer than 10,000 days and less than 100,000 inches
pub season_line_of_log : (code : Code) (days sum : ℕ) → days < 10_000 → sum < 1_000_000_000 → length (season_line code days sum) ≤ 25
season_line_of_log code days sum few small =
    omega (arith, season_line_size code days sum, totals_most 3 4 days sum (omega arith) (omega arith))

pub refused_line_size : (number value : ℕ) → length (refused_line number value) ≡ 8 + length (digits number) + length (field (padded 0 value)) + 1
unfolding refused_line
refused_line_size number value = simp length-append (omega (arith, ap length (padded_short 0 value (omega arith))))

pub refused_line_most : (number value : ℕ) → number < 2 ^ 8 → value < 2 ^ 64 → length (refused_line number value) ≤ 64
refused_line_most number value number_fits value-fits =
    omega (arith, refused_line_size number value, digits_most 2 number (omega arith), padded_most 19 0 value (omega arith) (omega arith))
