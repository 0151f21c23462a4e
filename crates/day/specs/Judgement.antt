-- One day judged: what the step sheet is worked from, when each refusal holds, which one does first, what stands for a missing dew point, and the
-- verdict. Assumes nothing.
use Rattle.std.specs.Prelude.{Bool, false, not, cond, List, [], ◌∷◌, ◌≡◌, ℕ, ℤ, pos, nat_abs, length, Option, Some, None, Result, Ok, Err}
use Rattle.tables.specs.Values.{albedo_at, a1_at, aw_at, bw_at, pressure_at}
use Rattle.sheet.specs.StepSheet as sheet
use Rattle.sheet.specs.StepSheet.{sum_of}
use Rattle.sheet.specs.declared.Readings.{Readings}
use Rattle.sheet.specs.declared.Entries.{Entries}
use Rattle.sheet.specs.declared.Earlier.{Earlier as SheetEarlier}
use Rattle.day.specs.Calendar.{is_date}
use Rattle.day.specs.Rules.{any_of, bad_station, is_missing, other_marks, missing_marks, reading_faults, mean_fault, order_faults}
use Rattle.day.specs.declared.Station.{Station}
use Rattle.day.specs.declared.Day.{Day}
use Rattle.day.specs.declared.Earlier.{Earlier}
use Rattle.day.specs.declared.Refusal.{Refusal}
use Rattle.day.specs.declared.Refusal.TheVariants.{StationField, BadDate, Missing, OutOfRange, OutOfOrder, AboveClear}
use Rattle.day.specs.declared.Figure.{Figure}
use Rattle.day.specs.declared.Figure.TheVariants.{Measured, Estimated}

-- ---- what the sheet is worked from

-- the six readings, in tenths
unfoldable pub readings_of : Day → Readings
readings_of x =
    record {
      maximum = x.maximum;
      minimum = x.minimum;
      mean = x.mean;
      dewpoint = x.dewpoint;
      radiation = x.radiation;
      wind = x.wind;
    }

-- the tables' entries at `d` and at the elevation
abbrev pub entries_at : ℕ → ℕ → Entries
entries_at d elevation =
    record {
      albedo = pos (albedo_at d);
      a1 = pos (a1_at d);
      aw = pos (aw_at d);
      bw = pos (bw_at d);
      p = pos (pressure_at elevation);
    }

unfoldable pub entries_of : Station → Day → Entries
entries_of st x = entries_at x.d st.elevation

-- the clear-day radiation Q
unfoldable pub clear_of : Station → Day → ℤ
clear_of st x =
    sheet.Q (pos st.minimum) (sheet.clear_sum st.c1 st.c2 st.c3 st.c4 st.c5 (pos x.d))

-- the earlier means that are present
abbrev pub with_mean : Option ℤ → List ℤ → List ℤ
with_mean (Some f) fs = f ∷ fs
with_mean None fs = fs

unfoldable pub means_of : Earlier → List ℤ
means_of earlier = with_mean earlier.one (with_mean earlier.two (with_mean earlier.three []))

-- their number and their sum
unfoldable pub earlier_of : Earlier → SheetEarlier
earlier_of earlier = record { k = pos (length (means_of earlier)); z = sum_of (means_of earlier) }

-- the sheet's figure, which is never below 0
unfoldable pub figure_of : Station → Day → Earlier → ℕ
figure_of st x earlier = nat_abs (sheet.figure (readings_of x) (entries_of st x) (earlier_of earlier) (clear_of st x) (pos st.limit))

-- ---- when each refusal holds

-- 8, of the six readings and of the earlier means
abbrev pub out_of_range : Day → Earlier → Bool
out_of_range x earlier =
    any_of
    (any_of (reading_faults x.maximum x.minimum x.mean x.dewpoint x.radiation x.wind)
    ∷ mean_fault earlier.one
    ∷ mean_fault earlier.two
    ∷ mean_fault earlier.three
    ∷ [])

unfoldable pub holds : Refusal → Station → Day → Earlier → Bool
holds StationField st x earlier = bad_station st
holds BadDate st x earlier = not (is_date x.year x.d)
holds Missing st x earlier = any_of (missing_marks x.maximum x.minimum x.mean x.dewpoint x.radiation x.wind)
holds OutOfRange st x earlier = out_of_range x earlier
holds OutOfOrder st x earlier = any_of (order_faults x.maximum x.minimum x.mean x.dewpoint)
holds AboveClear st x earlier = sheet.above_twice_clear x.radiation (clear_of st x)

-- Answered: none of the refusals holds
unfoldable pub Answered : Station → Day → Earlier → Type 0
Answered st x earlier = (r : Refusal) → holds r st x earlier ≡ false

-- ---- which holds first

-- the first of some refusals that holds, or that none does
abbrev pub first_of : List Refusal → (Refusal → Bool) → Result (Unit {0}) Refusal
first_of [] held = Ok tt
first_of (r ∷ rs) held = cond (held r) (Err r) (first_of rs held)

-- "the first of 3, 6 (calendar only), 7, 8, 9, 10, 11, in that order", without 11 (02, W6)
abbrev pub in_order : List Refusal
in_order = StationField ∷ BadDate ∷ Missing ∷ OutOfRange ∷ OutOfOrder ∷ AboveClear ∷ []

unfoldable pub standing_of : Station → Day → Earlier → Result (Unit {0}) Refusal
standing_of st x earlier = first_of in_order (λ r. holds r st x earlier)

-- ---- a day without a dew point (02, W4)

-- "When the dew point is the only reading missing"
unfoldable pub lacks_dew_point : Day → Bool
lacks_dew_point x = cond (is_missing x.dewpoint) (not (any_of (other_marks x.maximum x.minimum x.mean x.radiation x.wind))) false

-- a day with another dew point
abbrev pub with_dew_point : Day → ℤ → Day
with_dew_point x dewpoint =
    record {
      year = x.year;
      d = x.d;
      maximum = x.maximum;
      minimum = x.minimum;
      mean = x.mean;
      dewpoint = dewpoint;
      radiation = x.radiation;
      wind = x.wind;
    }

-- "the minimum temperature now takes its place": the day as it is judged. All refusals are asked of this day. The other readings are as they were, so
-- that 7 "remains for any other missing reading".
unfoldable pub as_judged : Day → Day
as_judged x = with_dew_point x (cond (lacks_dew_point x) x.minimum x.dewpoint)

-- "gets its figure with a mark"
unfoldable pub with_mark : Day → ℕ → Figure
with_mark x n = cond (lacks_dew_point x) (Estimated n) (Measured n)

-- ---- the verdict: the figure, or the refusal

abbrev pub Verdict : Type 0
Verdict = Result Figure Refusal

-- "It returns its figure or the first of .."
abbrev pub verdict_with : Result (Unit {0}) Refusal → Figure → Verdict
verdict_with (Err r) f = Err r
verdict_with (Ok done) f = Ok f

unfoldable pub judged : Station → Day → Earlier → Verdict
judged st x earlier = verdict_with (standing_of st (as_judged x) earlier) (with_mark x (figure_of st (as_judged x) earlier))
