-- A log with a crop worked through, byte for byte. Beans hold in the first block: two days that are refused have no crop figure, the third, an answered
-- day, has one, so what is promised of crop figures can be met (`crop_day`, `kept`). A station of the same code then opens a block in which no crop
-- holds. And a log without a crop (`without`). Assumes nothing.
use mathlib.Core.Path.{◌≡◌, refl, sym}
use mathlib.Core.Bool.{cond}
use mathlib.Core.List.{List, [], ◌∷◌, ◌++◌}
use Prim.Native.Nat.{ℕ}
use native.Mathlib.Omega.{arith}
use lib.Dec.{ltb}
use lib.IntN.{pos}
use lib.ListN.{length, replicate}
use Rattle.std.specs.Prelude.{Some, None, Err}
use Rattle.crops.specs.Crop.{bad_crop, in_season, above, crop_figure}
use Rattle.day.specs.Calendar.{year_length, is_date}
use Rattle.day.specs.Judgement.{holds, standing_of, lacks_dew_point, as_judged, judged, Answered, Verdict}
use Rattle.day.specs.declared.Earlier.{Earlier}
use Rattle.day.specs.declared.Refusal.TheVariants.{Missing}
use Rattle.day.specs.declared.Figure.TheVariants.{Measured}
use Rattle.day.proofs.Examples.{days}
use Rattle.answers.specs.Answers.{day_answer, bytes_of}
use Rattle.answers.specs.declared.Answer.{Answer}
use Rattle.answers.specs.declared.Answer.TheVariants as answer
use Rattle.records.specs.Bytes.{word_at, signed_of, signed_at}
use Rattle.records.specs.Record.{station_at, day_at, crop_at, found_at}
use Rattle.promises.specs.CropFigures.{CropDay, CropFigureAt, CropFiguresOwed}
use Rattle.promises.proofs.CropFigures.{EveryCropFigure, crop_figures_met}
use Rattle.promises.specs.Demand.{AnsweredLog, AnsweredDay}
use Rattle.station_log.specs.History.{days_before, good_date, counted, earlier_means, verdict_of}
use Rattle.station_log.specs.Log.{bare, planted, crop_answers, answers_to, read_from, reading_of, outcome_of, leaves, buffer_after}
use Rattle.std.specs.Prelude.{Ok}
use Rattle.station_log.specs.Log.{refusal}
use Rattle.promises.proofs.WithoutKind.{found_without, read_without, reading_without, Without}
use Rattle.station_log.proofs.Sample.{sample, station, windless, beans, lidw, missing, no_mean, one_mean, two_means}
use Rattle.promises.proofs.DayThere.{day_there}
use Rattle.station_log.specs.declared.Fault.TheVariants.{ShortBuffer}

-- day 180 of 2008: 90, 55, 72 and 50 °F, 700 cal/cm²/d, 100 miles
abbrev summer : List ℕ
summer = 2 ∷ 7 ∷ 216 ∷ 0 ∷ 180 ∷ 3 ∷ 132 ∷ 2 ∷ 38 ∷ 2 ∷ 208 ∷ 1 ∷ 244 ∷ 27 ∷ 88 ∷ 3 ∷ 232 ∷ []

-- means of 70 and 71 °F before it in the first block, of 45.5, 61 and 85 °F in the second
abbrev pub crop_log : List ℕ
crop_log =
    station ++ beans ++ windless 178 2 188 ++ windless 179 2 198 ++ summer
    ++ station ++ windless 177 1 199 ++ windless 178 2 98 ++ windless 179 3 82 ++ summer

-- ---- the days without wind are refused

-- the verdict at the offset of a day
abbrev at : ℕ → Earlier → Verdict
at offset earlier = judged (station_at crop_log 1) (day_at crop_log offset) earlier

lacking : (at 42 no_mean ≡ Err Missing) × (at 59 (one_mean 700) ≡ Err Missing) × (at 112 no_mean ≡ Err Missing) × (at 129 (one_mean 455) ≡ Err Missing)
    × (at 146 (record { one = Some (pos 610); two = Some (pos 455); three = None }) ≡ Err Missing)
unfolding judged lacks_dew_point as_judged standing_of holds station_at day_at word_at signed_of signed_at is_date year_length
lacking = (refl, refl, refl, refl, refl)

-- ---- the answers, by the verdicts

-- those of a day while the beans hold
abbrev sown : ℕ → Verdict → List Answer
sown offset v = day_answer (day_at crop_log offset) v ∷ crop_answers (planted (crop_at crop_log 20)) (day_at crop_log offset) v

-- the answers before that of day 180, in the first block
abbrev front : Verdict → Verdict → List Answer
front v w = answer.Station (station_at crop_log 1).code ∷ (sown 42 v ++ (sown 59 w ++ []))

-- record 4 is an answered day of the beans' season
pub crop_day : CropDay crop_log 4 (station_at crop_log 1) (day_at crop_log 76) two_means 23 (crop_at crop_log 20)
unfolding reading_of read_from found_at station_at day_at crop_at word_at signed_of signed_at is_date year_length days_before good_date counted earlier_means verdict_of Answered bad_crop in_season day_there
crop_day =
    record {
      answered = record {
        at = day_there crop_log 4
            (record { station = station_at crop_log 1; days = day_at crop_log 59 ∷ day_at crop_log 42 ∷ []; crop = planted (crop_at crop_log 20) })
            (day_at crop_log 76) refl refl (sym (λ i. length (bytes_of (front (lacking.0 i) (lacking.1 i)))));
        others = λ r t. days.1.answered r;
      };
      holds = refl;
      season = refl;
    }

-- 37.5 per cent of 3,518 ten-thousandths of an inch, between stages 2 and 3; and no crop figure in the second block
pub worked : answers_to crop_log ≡
    answer.Station (station_at crop_log 1).code
    ∷ answer.Day 2008 178 (Err Missing) ∷ answer.Day 2008 179 (Err Missing) ∷ answer.Day 2008 180 (Ok (Measured 3_518))
    ∷ answer.Crop (crop_at crop_log 20).code 1_319
    ∷ answer.Station (station_at crop_log 1).code
    ∷ answer.Day 2008 177 (Err Missing) ∷ answer.Day 2008 178 (Err Missing) ∷ answer.Day 2008 179 (Err Missing)
    ∷ answer.Day 2008 180 (Ok (Measured 3_356))
    ∷ []
unfolding reading_of read_from found_at station_at day_at crop_at word_at signed_of signed_at is_date year_length days_before good_date counted earlier_means verdict_of bad_crop in_season above crop_figure
worked =
    λ i.
    (answer.Station (station_at crop_log 1).code
    ∷ (sown 42 (lacking.0 i) ++ (sown 59 (lacking.1 i) ++ (sown 76 (days.1.told i)
    ++ (answer.Station (station_at crop_log 93).code
    ∷ day_answer (day_at crop_log 112) (lacking.2 i) ∷ day_answer (day_at crop_log 129) (lacking.3 i) ∷ day_answer (day_at crop_log 146) (lacking.4 i)
    ∷ day_answer (day_at crop_log 163) (days.2.told i)
    ∷ []))))) ++ []

-- the answers before that of day 180 in the second block
abbrev front_two : Verdict → Verdict → Verdict → Verdict → Verdict → Verdict → List Answer
front_two v w u a b c =
    answer.Station (station_at crop_log 1).code
    ∷ (sown 42 v ++ (sown 59 w ++ (sown 76 u
    ++ (answer.Station (station_at crop_log 93).code
    ∷ day_answer (day_at crop_log 112) a ∷ day_answer (day_at crop_log 129) b ∷ day_answer (day_at crop_log 146) c
    ∷ []))))

-- record 9 is the same day after other means
abbrev pub other_means : Earlier
other_means = record { one = Some (pos 850); two = Some (pos 610); three = Some (pos 455) }

pub second_day : AnsweredDay crop_log 9 (station_at crop_log 93) (day_at crop_log 163) other_means 73
unfolding reading_of read_from found_at station_at day_at crop_at word_at signed_of signed_at is_date year_length days_before good_date counted earlier_means verdict_of Answered bad_crop in_season above crop_figure day_there
second_day =
    record {
      at = day_there crop_log 9
          (record { station = station_at crop_log 93; days = day_at crop_log 146 ∷ day_at crop_log 129 ∷ day_at crop_log 112 ∷ []; crop = bare })
          (day_at crop_log 163) refl refl
          (sym (λ i. length (bytes_of (front_two (lacking.0 i) (lacking.1 i) (days.1.told i) (lacking.2 i) (lacking.3 i) (lacking.4 i)))));
      others = λ r t. days.2.answered r;
    }

-- ---- a buffer of 84 bytes

abbrev lent : List ℕ
lent = replicate 84 9

-- 82 are needed
pub outcome_is : outcome_of crop_log 84 ≡ Ok 82
unfolding outcome_of reading_of read_from found_at station_at day_at crop_at word_at signed_of signed_at bad_crop
outcome_is = λ i. let n = length (bytes_of (worked i)) in cond (ltb 84 n) (refusal ShortBuffer n) (Ok n)

-- so every hypothesis is met, and what is promised holds of this day
pub kept : CropFigureAt (station_at crop_log 1) (day_at crop_log 76) two_means 23 (crop_at crop_log 20) (buffer_after crop_log lent)
unfolding EveryCropFigure CropFiguresOwed AnsweredLog
kept = crop_figures_met crop_log lent (82, outcome_is) 4 23 (station_at crop_log 1) (day_at crop_log 76) two_means (crop_at crop_log 20) crop_day

-- the last two bytes are as they were
pub bytes : buffer_after crop_log lent ≡
    lidw ++ missing 178 ++ missing 179
    ++ (3 ∷ 7 ∷ 216 ∷ 0 ∷ 180 ∷ 0 ∷ 0 ∷ 13 ∷ 190 ∷ [])
    ++ (7 ∷ 66 ∷ 69 ∷ 65 ∷ 78 ∷ 0 ∷ 0 ∷ 5 ∷ 39 ∷ [])
    ++ lidw ++ missing 177 ++ missing 178 ++ missing 179
    ++ (3 ∷ 7 ∷ 216 ∷ 0 ∷ 180 ∷ 0 ∷ 0 ∷ 13 ∷ 28 ∷ [])
    ++ (9 ∷ 9 ∷ [])
unfolding buffer_after station_at crop_at
bytes = λ i. leaves (outcome_is i) (bytes_of (worked i)) lent

-- ---- a log without a crop

pub without : Without 6 sample
unfolding reading_without read_without found_without found_at station_at day_at word_at signed_of signed_at
without at e = let z : ◌≡◌ {A = ℕ} 0 1 = cc in absurd (omega arith)
