-- A log with a wind limit worked through, byte for byte: the same three days at LIDW as kind 8 with the limit 1,000 and as kind 1. The third day, an
-- answered day with more wind than either limit, has another figure in each block (`bytes`), and demand 3 holds of it (`answered`, `kept`). A front
-- and fields of which `same_answers` speaks (`there`), and a log without a kind 8 (`without`). Assumes nothing.
use mathlib.Core.Path.{◌≡◌, refl, sym}
use mathlib.Core.Bool.{cond}
use mathlib.Core.List.{List, [], ◌∷◌, ◌++◌}
use Prim.Native.Nat.{ℕ}
use native.Mathlib.Omega.{arith}
use lib.Dec.{ltb}
use lib.ListN.{length, replicate}
use Rattle.day.specs.Calendar.{year_length, is_date}
use Rattle.day.specs.Judgement.{holds, standing_of, lacks_dew_point, as_judged, judged, Answered, Verdict}
use Rattle.day.specs.declared.Refusal.TheVariants.{Missing}
use Rattle.day.specs.declared.Station.{Station}
use Rattle.day.specs.declared.Figure.TheVariants.{Measured}
use Rattle.day.proofs.Examples.{limits}
use Rattle.answers.specs.Answers.{day_answer, bytes_of}
use Rattle.answers.specs.declared.Answer.{Answer}
use Rattle.answers.specs.declared.Answer.TheVariants as answer
use Rattle.records.specs.Bytes.{word_at, signed_of, signed_at}
use Rattle.records.specs.Record.{station_at, limited_station_at, day_at, found_at}
use Rattle.promises.specs.Demand.{AnsweredLog, AnsweredDay, FigureAt, FiguresOwed}
use Rattle.station_log.specs.History.{days_before, good_date, counted, earlier_means, verdict_of}
use Rattle.promises.proofs.LimitedStations.{StationThere}
use Rattle.station_log.specs.Log.{bare, answers_to, read_from, reading_of, outcome_of, leaves, buffer_after}
use Rattle.station_log.specs.Parts.{entries_of}
use Rattle.promises.proofs.WithoutKind.{found_without, read_without, reading_without, Without}
use Rattle.std.specs.Prelude.{Ok, Err}
use Rattle.station_log.specs.Log.{refusal}
use Rattle.promises.proofs.Demand.{log_within_bound}
use Rattle.station_log.proofs.Sample.{sample, fields, station, windless, lidw, missing, no_mean, one_mean, two_means}
use Rattle.promises.proofs.DayThere.{day_there}
use Rattle.station_log.specs.declared.Fault.TheVariants.{ShortBuffer}

-- LIDW as kind 8 with the limit 1,000
abbrev limited_station : List ℕ
limited_station = 8 ∷ (fields ++ (3 ∷ 232 ∷ []))

-- day 180 of 2008: 90, 55, 72 and 50 °F, 700 cal/cm²/d, 200 miles
abbrev windy : List ℕ
windy = 2 ∷ 7 ∷ 216 ∷ 0 ∷ 180 ∷ 3 ∷ 132 ∷ 2 ∷ 38 ∷ 2 ∷ 208 ∷ 1 ∷ 244 ∷ 27 ∷ 88 ∷ 7 ∷ 208 ∷ []

abbrev three_days : List ℕ
three_days = windless 178 2 188 ++ windless 179 2 198 ++ windy

abbrev pub limit_log : List ℕ
limit_log = limited_station ++ three_days ++ station ++ three_days

abbrev first : Station
first = limited_station_at limit_log 1

abbrev second : Station
second = station_at limit_log 73

lacking : (judged first (day_at limit_log 22) no_mean ≡ Err Missing) × (judged first (day_at limit_log 39) (one_mean 700) ≡ Err Missing)
    × (judged second (day_at limit_log 92) no_mean ≡ Err Missing) × (judged second (day_at limit_log 109) (one_mean 700) ≡ Err Missing)
unfolding judged lacks_dew_point as_judged standing_of holds station_at limited_station_at day_at word_at signed_of signed_at is_date year_length
lacking = (refl, refl, refl, refl)

-- the answers before that of day 180, in the first block
abbrev front : Verdict → Verdict → List Answer
front v w = answer.Station first.code ∷ day_answer (day_at limit_log 22) v ∷ day_answer (day_at limit_log 39) w ∷ []

-- record 3 is an answered day at a station of kind 8
pub answered : AnsweredDay limit_log 3 first (day_at limit_log 56) two_means 23
unfolding reading_of read_from found_at station_at limited_station_at day_at word_at signed_of signed_at is_date year_length days_before good_date counted earlier_means verdict_of Answered
answered =
    record {
      at = day_there limit_log 3 (record { station = first; days = day_at limit_log 39 ∷ day_at limit_log 22 ∷ []; crop = bare }) (day_at limit_log 56) refl refl
          (sym (λ i. length (bytes_of (front (lacking.0 i) (lacking.1 i)))));
      others = λ r t. limits.2.answered r;
    }

-- 3,518 ten-thousandths of an inch with the limit of 100 miles, 3,925 with that of 150
pub worked : answers_to limit_log ≡
    answer.Station first.code
    ∷ answer.Day 2008 178 (Err Missing) ∷ answer.Day 2008 179 (Err Missing) ∷ answer.Day 2008 180 (Ok (Measured 3_518))
    ∷ answer.Station second.code
    ∷ answer.Day 2008 178 (Err Missing) ∷ answer.Day 2008 179 (Err Missing) ∷ answer.Day 2008 180 (Ok (Measured 3_925))
    ∷ []
unfolding reading_of read_from found_at station_at limited_station_at day_at word_at signed_of signed_at is_date year_length days_before good_date counted earlier_means verdict_of
worked =
    λ i.
    answer.Station first.code
    ∷ day_answer (day_at limit_log 22) (lacking.0 i) ∷ day_answer (day_at limit_log 39) (lacking.1 i) ∷ day_answer (day_at limit_log 56) (limits.2.told i)
    ∷ answer.Station second.code
    ∷ day_answer (day_at limit_log 92) (lacking.2 i) ∷ day_answer (day_at limit_log 109) (lacking.3 i) ∷ day_answer (day_at limit_log 126) (limits.0.told i)
    ∷ []

-- ---- a buffer of 66 bytes

abbrev lent : List ℕ
lent = replicate 66 9

-- 64 are needed
outcome_is : outcome_of limit_log 66 ≡ Ok 64
unfolding outcome_of reading_of read_from found_at station_at limited_station_at day_at word_at signed_of signed_at
outcome_is = λ i. let n = length (bytes_of (worked i)) in cond (ltb 66 n) (refusal ShortBuffer n) (Ok n)

-- so every hypothesis is met, and demand 3 holds of this day
pub kept : FigureAt first (day_at limit_log 56) two_means 23 (buffer_after limit_log lent)
unfolding FiguresOwed AnsweredLog
kept = log_within_bound limit_log lent (64, outcome_is) 3 23 first (day_at limit_log 56) two_means answered

-- the last two bytes are as they were
pub bytes : buffer_after limit_log lent ≡
    lidw ++ missing 178 ++ missing 179
    ++ (3 ∷ 7 ∷ 216 ∷ 0 ∷ 180 ∷ 0 ∷ 0 ∷ 13 ∷ 190 ∷ [])
    ++ lidw ++ missing 178 ++ missing 179
    ++ (3 ∷ 7 ∷ 216 ∷ 0 ∷ 180 ∷ 0 ∷ 0 ∷ 15 ∷ 85 ∷ [])
    ++ (9 ∷ 9 ∷ [])
unfolding buffer_after station_at limited_station_at
bytes = λ i. leaves (outcome_is i) (bytes_of (worked i)) lent

-- ---- what the theorems on old logs ask for

-- document 01's log in front of LIDW's fields
pub there : StationThere sample fields
unfolding reading_of read_from found_at station_at day_at word_at signed_of signed_at
there = record { before = entries_of (reading_of sample); whole = refl; eighteen = refl }

pub without : Without 8 sample
unfolding reading_without read_without found_without found_at station_at day_at word_at signed_of signed_at
without at e = let z : ◌≡◌ {A = ℕ} 0 1 = cc in absurd (omega arith)
