-- A log with a day without its dew point worked through, byte for byte. Beans hold; the day's answer is of kind 9, and the crop's figure follows it, so
-- what demand 3 and the crop figures ask can be met by such a day (`crop_day`, `owed`, `crop_owed`). A day that lacks the wind as well stays refused
-- with 7, and the marked day's mean counts for the day after it (`next_day`). Document 01's log stands behind, and its answers are nine bytes further
-- back than they were (`bytes`, `then_bytes`). A buffer that was long enough is now 12 (`was`, `is`). Assumes nothing.
use mathlib.Core.Path.{◌≡◌, refl, sym, ◌∙◌}
use mathlib.Core.Bool.{true, cond}
use mathlib.Core.List.{List, [], ◌∷◌, ◌++◌}
use Prim.Native.Nat.{ℕ}
use lib.Dec.{ltb}
use lib.IntN.{pos}
use lib.ListN.{length, replicate}
use Rattle.std.specs.Prelude.{Some, None, Err}
use Rattle.crops.specs.Crop.{bad_crop, in_season, above, crop_figure}
use Rattle.day.specs.Calendar.{year_length, is_date}
use Rattle.day.specs.Judgement.{holds, standing_of, lacks_dew_point, as_judged, judged, Answered, Verdict}
use Rattle.day.specs.declared.Day.{Day}
use Rattle.day.specs.declared.Earlier.{Earlier}
use Rattle.day.specs.declared.Refusal.TheVariants.{Missing}
use Rattle.day.specs.declared.Station.{Station}
use Rattle.day.specs.declared.Figure.TheVariants.{Measured, Estimated}
use Rattle.day.proofs.Examples.{days, estimates}
use Rattle.day.proofs.WithoutSubstitute.{judged_strictly}
use Rattle.day.proofs.DaySince.{since}
use Rattle.answers.specs.Answers.{day_answer, bytes_of}
use Rattle.answers.specs.declared.Answer.{Answer}
use Rattle.answers.specs.declared.Answer.TheVariants as answer
use Rattle.records.specs.Bytes.{word_at, signed_of, signed_at}
use Rattle.records.specs.Record.{station_at, day_at, crop_at, found_at}
use Rattle.promises.specs.CropFigures.{CropDay, CropFigureAt, CropFiguresOwed}
use Rattle.promises.proofs.CropFigures.{EveryCropFigure, crop_figures_met}
use Rattle.promises.specs.Days.{DayAt}
use Rattle.promises.specs.Demand.{AnsweredLog, FigureAt, FiguresOwed}
use Rattle.station_log.specs.History.{days_before, good_date, counted, earlier_means, verdict_of}
use Rattle.station_log.specs.Log.{planted, crop_answers, answers_to, read_from, reading_of, outcome_of, leaves, buffer_after}
use Rattle.station_log.specs.Parts.{entries_of}
use Rattle.std.specs.Prelude.{Ok}
use Rattle.station_log.specs.Log.{refusal}
use Rattle.promises.proofs.Demand.{log_within_bound}
use Rattle.promises.proofs.WithoutSubstitute.{verdict_strictly, all_strictly, outcome_strictly, buffer_strictly}
use Rattle.station_log.proofs.Sample.{sample, station, windless, beans, lidw, missing, no_mean, one_mean, two_means}
use Rattle.promises.proofs.DayThere.{day_there}
use Rattle.station_log.specs.declared.Fault.TheVariants.{ShortBuffer}

-- day 179 of 2008, 71 °F, neither a dew point nor the wind; day 180: 90, 55 and 72 °F, no dew point, 700 cal/cm²/d, 100 miles
abbrev two_missing : List ℕ
two_missing = 2 ∷ 7 ∷ 216 ∷ 0 ∷ 179 ∷ 2 ∷ 198 ∷ 2 ∷ 198 ∷ 2 ∷ 198 ∷ 128 ∷ 0 ∷ 0 ∷ 0 ∷ 128 ∷ 0 ∷ []

abbrev no_dew_point : List ℕ
no_dew_point = 2 ∷ 7 ∷ 216 ∷ 0 ∷ 180 ∷ 3 ∷ 132 ∷ 2 ∷ 38 ∷ 2 ∷ 208 ∷ 128 ∷ 0 ∷ 27 ∷ 88 ∷ 3 ∷ 232 ∷ []

abbrev pub estimate_log : List ℕ
estimate_log = station ++ beans ++ windless 178 2 188 ++ two_missing ++ no_dew_point ++ windless 181 2 188 ++ sample

-- the means of the three days before day 181: 72 °F is that of the day without a dew point
abbrev three_means : Earlier
three_means = record { one = Some (pos 720); two = Some (pos 710); three = Some (pos 700) }

-- ---- the days with another reading missing are refused, now as before; and before so was day 180

abbrev at : (Station → Day → Earlier → Verdict) → ℕ → Earlier → Verdict
at judge offset earlier = judge (station_at estimate_log 1) (day_at estimate_log offset) earlier

lacking : (at judged 42 no_mean ≡ Err Missing) × (at judged 59 (one_mean 700) ≡ Err Missing) × (at judged 93 three_means ≡ Err Missing)
    × (at judged 129 no_mean ≡ Err Missing) × (at judged 146 (one_mean 200) ≡ Err Missing)
unfolding judged lacks_dew_point as_judged standing_of holds station_at day_at word_at signed_of signed_at is_date year_length
lacking = (refl, refl, refl, refl, refl)

lacking_then : (at judged_strictly 42 no_mean ≡ Err Missing) × (at judged_strictly 59 (one_mean 700) ≡ Err Missing)
    × (at judged_strictly 76 two_means ≡ Err Missing) × (at judged_strictly 93 three_means ≡ Err Missing)
    × (at judged_strictly 129 no_mean ≡ Err Missing) × (at judged_strictly 146 (one_mean 200) ≡ Err Missing)
unfolding judged_strictly standing_of holds station_at day_at word_at signed_of signed_at is_date year_length
lacking_then = (refl, refl, refl, refl, refl, refl)

-- day 12 of document 01's log had the figure that it has
answered_then : at judged_strictly 163 (record { one = Some (pos 200); two = Some (pos 200); three = None }) ≡ Ok (Measured 0)
unfolding lacks_dew_point station_at day_at word_at signed_of signed_at
answered_then = sym ((since (station_at estimate_log 1) (day_at estimate_log 163) _).remains refl) ∙ days.0.told

-- ---- the answers, by the verdicts

abbrev sown : ℕ → Verdict → List Answer
sown offset v = day_answer (day_at estimate_log offset) v ∷ crop_answers (planted (crop_at estimate_log 20)) (day_at estimate_log offset) v

-- those of document 01's log
abbrev bare_days : Verdict → Verdict → Verdict → List Answer
bare_days v w x =
    answer.Station (station_at estimate_log 110).code
    ∷ day_answer (day_at estimate_log 129) v ∷ day_answer (day_at estimate_log 146) w ∷ day_answer (day_at estimate_log 163) x ∷ []

abbrev all : Verdict → Verdict → Verdict → Verdict → Verdict → Verdict → Verdict → List Answer
all t u v w x y z =
    answer.Station (station_at estimate_log 1).code ∷ (sown 42 t ++ (sown 59 u ++ (sown 76 v ++ (sown 93 w ++ bare_days x y z))))

-- 37.5 per cent of 3,347 ten-thousandths of an inch
pub worked : answers_to estimate_log ≡
    answer.Station (station_at estimate_log 1).code
    ∷ answer.Day 2008 178 (Err Missing) ∷ answer.Day 2008 179 (Err Missing) ∷ answer.Day 2008 180 (Ok (Estimated 3_347))
    ∷ answer.Crop (crop_at estimate_log 20).code 1_255
    ∷ answer.Day 2008 181 (Err Missing)
    ∷ answer.Station (station_at estimate_log 1).code
    ∷ answer.Day 2008 10 (Err Missing) ∷ answer.Day 2008 11 (Err Missing) ∷ answer.Day 2008 12 (Ok (Measured 0))
    ∷ []
unfolding reading_of read_from found_at station_at day_at crop_at word_at signed_of signed_at is_date year_length days_before good_date counted earlier_means verdict_of bad_crop in_season above crop_figure
worked = λ i. all (lacking.0 i) (lacking.1 i) (estimates.told i) (lacking.2 i) (lacking.3 i) (lacking.4 i) (days.0.told i) ++ []

-- record 4 is an answered day of the beans' season
pub crop_day : CropDay estimate_log 4 (station_at estimate_log 1) (day_at estimate_log 76) two_means 23 (crop_at estimate_log 20)
unfolding reading_of read_from found_at station_at day_at crop_at word_at signed_of signed_at is_date year_length days_before good_date counted earlier_means verdict_of Answered bad_crop in_season day_there
crop_day =
    record {
      answered = record {
        at = day_there estimate_log 4
            (record { station = station_at estimate_log 1; days = day_at estimate_log 59 ∷ day_at estimate_log 42 ∷ []; crop = planted (crop_at estimate_log 20) })
            (day_at estimate_log 76) refl refl
            (sym (λ i. length (bytes_of (answer.Station (station_at estimate_log 1).code ∷ (sown 42 (lacking.0 i) ++ (sown 59 (lacking.1 i) ++ []))))));
        others = λ r t. estimates.answered r;
      };
      holds = refl;
      season = refl;
    }

-- record 5 has its mean among the earlier ones
pub next_day : DayAt estimate_log 5 (station_at estimate_log 1) (day_at estimate_log 93) three_means true 41
unfolding reading_of read_from found_at station_at day_at crop_at word_at signed_of signed_at is_date year_length days_before good_date counted earlier_means verdict_of bad_crop in_season above crop_figure day_there
next_day =
    day_there estimate_log 5
    (record {
      station = station_at estimate_log 1;
      days = day_at estimate_log 76 ∷ day_at estimate_log 59 ∷ day_at estimate_log 42 ∷ [];
      crop = planted (crop_at estimate_log 20);
    })
    (day_at estimate_log 93) refl refl
    (sym (λ i. length (bytes_of (answer.Station (station_at estimate_log 1).code ∷ (sown 42 (lacking.0 i) ++ (sown 59 (lacking.1 i) ++ (sown 76 (estimates.told i) ++ [])))))))

-- ---- a buffer of 84 bytes

abbrev lent : List ℕ
lent = replicate 84 8

-- 82 are needed
outcome_is : (size : ℕ) → outcome_of estimate_log size ≡ cond (ltb size 82) (refusal ShortBuffer 82) (Ok 82)
unfolding outcome_of reading_of read_from found_at station_at day_at crop_at word_at signed_of signed_at bad_crop
outcome_is size = λ i. let n = length (bytes_of (worked i)) in cond (ltb size n) (refusal ShortBuffer n) (Ok n)

-- so every hypothesis is met, and what is owed holds of this day
pub owed : FigureAt (station_at estimate_log 1) (day_at estimate_log 76) two_means 23 (buffer_after estimate_log lent)
unfolding FiguresOwed AnsweredLog
owed = log_within_bound estimate_log lent (82, outcome_is 84) 4 23 (station_at estimate_log 1) (day_at estimate_log 76) two_means crop_day.answered

pub crop_owed : CropFigureAt (station_at estimate_log 1) (day_at estimate_log 76) two_means 23 (crop_at estimate_log 20) (buffer_after estimate_log lent)
unfolding EveryCropFigure CropFiguresOwed AnsweredLog
crop_owed = crop_figures_met estimate_log lent (82, outcome_is 84) 4 23 (station_at estimate_log 1) (day_at estimate_log 76) two_means (crop_at estimate_log 20) crop_day

-- behind day 180 and the beans
abbrev later : List ℕ
later = missing 181 ++ lidw ++ missing 10 ++ missing 11 ++ (3 ∷ 7 ∷ 216 ∷ 0 ∷ 12 ∷ 0 ∷ 0 ∷ 0 ∷ 0 ∷ [])

-- the last two bytes are as they were
pub bytes : buffer_after estimate_log lent ≡
    lidw ++ missing 178 ++ missing 179
    ++ (9 ∷ 7 ∷ 216 ∷ 0 ∷ 180 ∷ 0 ∷ 0 ∷ 13 ∷ 19 ∷ [])
    ++ (7 ∷ 66 ∷ 69 ∷ 65 ∷ 78 ∷ 0 ∷ 0 ∷ 4 ∷ 231 ∷ [])
    ++ later ++ (8 ∷ 8 ∷ [])
unfolding buffer_after station_at crop_at
bytes = λ i. leaves (outcome_is 84 i) (bytes_of (worked i)) lent

-- ---- 73 bytes were needed before

then_worked : all_strictly (entries_of (reading_of estimate_log)) ≡
    all (Err Missing) (Err Missing) (Err Missing) (Err Missing) (Err Missing) (Err Missing) (Ok (Measured 0))
unfolding reading_of read_from found_at station_at day_at crop_at word_at signed_of signed_at is_date year_length days_before good_date counted earlier_means verdict_strictly bad_crop in_season above crop_figure
then_worked =
    λ i.
    all (lacking_then.0 i) (lacking_then.1 i) (lacking_then.2 i) (lacking_then.3 i) (lacking_then.4 i) (lacking_then.5 i) (answered_then i) ++ []

outcome_was : (size : ℕ) → outcome_strictly estimate_log size ≡ cond (ltb size 73) (refusal ShortBuffer 73) (Ok 73)
unfolding outcome_strictly reading_of read_from found_at station_at day_at crop_at word_at signed_of signed_at bad_crop
outcome_was size = λ i. let n = length (bytes_of (then_worked i)) in cond (ltb size n) (refusal ShortBuffer n) (Ok n)

-- day 180 was refused with 7, and what stands behind it was nine bytes nearer
pub then_bytes : buffer_strictly estimate_log lent ≡ lidw ++ missing 178 ++ missing 179 ++ missing 180 ++ later ++ replicate 11 8
unfolding buffer_strictly station_at day_at word_at
then_bytes = λ i. leaves (outcome_was 84 i) (bytes_of (then_worked i)) lent

-- a buffer of 73 bytes was enough
pub was : outcome_strictly estimate_log 73 ≡ Ok 73
was = outcome_was 73

pub is : outcome_of estimate_log 73 ≡ refusal ShortBuffer 82
is = outcome_is 73
