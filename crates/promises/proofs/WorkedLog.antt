-- Two logs worked through, byte for byte. Document 01's: its three days are answered in 32 bytes, and the third is an answered day, so what demand
-- 3 asks can be met. And one of two blocks, with a year's end, refused days whose means count, and a date that comes again. Assumes nothing.
use mathlib.Core.Path.{◌≡◌, refl}
use mathlib.Core.Bool.{true}
use mathlib.Core.List.{List, [], ◌∷◌, ◌++◌}
use Prim.Native.Nat.{ℕ}
use lib.IntN.{pos}
use lib.ListN.{take, drop}
use Rattle.std.specs.Prelude.{Some, None, Ok, Err}
use Rattle.day.specs.Calendar.{year_length, is_date}
use Rattle.day.specs.Judgement.{holds, standing_of, lacks_dew_point, as_judged, judged, Answered}
use Rattle.day.specs.declared.Earlier.{Earlier}
use Rattle.day.specs.declared.Refusal.TheVariants.{BadDate, Missing}
use Rattle.day.specs.declared.Figure.TheVariants.{Measured}
use Rattle.day.proofs.Examples.{days}
use Rattle.answers.specs.Answers.{day_answer, answer_bytes, bytes_of}
use Rattle.records.specs.Bytes.{word_at, signed_of, signed_at}
use Rattle.promises.specs.Days.{DayAt}
use Rattle.promises.specs.Demand.{AnsweredDay}
use Rattle.station_log.specs.History.{days_before, good_date, counted, earlier_means, verdict_of}
use Rattle.station_log.specs.Log.{bare, answers_to, read_from, reading_of, outcome_of, buffer_after}
use Rattle.answers.specs.declared.Answer.TheVariants as answer
use Rattle.records.specs.Record.{station_at, day_at, found_at}
use Rattle.station_log.proofs.Sample.{sample, fields, station, plain_day}
use Rattle.promises.proofs.DayThere.{day_there}

-- day 12, the third: two earlier means, of days that are refused
abbrev pub means : Earlier
means = record { one = Some (pos 200); two = Some (pos 200); three = None }

pub third : DayAt sample 3 (station_at sample 1) (day_at sample 54) means true 23
unfolding reading_of read_from found_at station_at day_at word_at signed_of signed_at is_date year_length days_before good_date counted earlier_means
third =
    day_there sample 3 (record { station = station_at sample 1; days = day_at sample 37 ∷ day_at sample 20 ∷ []; crop = bare }) (day_at sample 54) refl refl refl

pub answered : AnsweredDay sample 3 (station_at sample 1) (day_at sample 54) means 23
unfolding station_at day_at word_at signed_of signed_at Answered
answered = record { at = third; others = λ r t. days.0.answered r }

-- days 10 and 11 lack the wind
lacking : (judged (station_at sample 1) (day_at sample 20) (record { one = None; two = None; three = None }) ≡ Err Missing)
    × (judged (station_at sample 1) (day_at sample 37) (record { one = Some (pos 200); two = None; three = None }) ≡ Err Missing)
unfolding judged lacks_dew_point as_judged standing_of holds station_at day_at word_at signed_of signed_at is_date year_length
lacking = (refl, refl)

-- LIDW; day 10 and day 11 of 2008 refused with 7; day 12 with the figure 0
pub worked : answers_to sample ≡
    answer.Station (station_at sample 1).code
    ∷ answer.Day 2008 10 (Err Missing) ∷ answer.Day 2008 11 (Err Missing) ∷ answer.Day 2008 12 (Ok (Measured 0))
    ∷ []
unfolding reading_of read_from found_at station_at day_at word_at signed_of signed_at is_date year_length days_before good_date counted earlier_means verdict_of
worked =
    λ i.
    answer.Station (station_at sample 1).code
    ∷ day_answer (day_at sample 20) (lacking.0 i) ∷ day_answer (day_at sample 37) (lacking.1 i) ∷ day_answer (day_at sample 54) (days.0.told i)
    ∷ []

-- a buffer of 34 bytes
abbrev lent : List ℕ
lent =
    9 ∷ 9 ∷ 9 ∷ 9 ∷ 9 ∷ 9 ∷ 9 ∷ 9 ∷ 9 ∷ 9 ∷ 9 ∷ 9 ∷ 9 ∷ 9 ∷ 9 ∷ 9 ∷ 9 ∷ 9 ∷ 9 ∷ 9 ∷ 9 ∷ 9 ∷ 9 ∷ 9 ∷ 9 ∷ 9 ∷ 9 ∷ 9 ∷ 9 ∷ 9 ∷ 9 ∷ 9 ∷ 9 ∷ 9 ∷ []

-- the last two bytes as they were
pub bytes : buffer_after sample lent ≡
    5 ∷ 76 ∷ 73 ∷ 68 ∷ 87
    ∷ 4 ∷ 7 ∷ 216 ∷ 0 ∷ 10 ∷ 0 ∷ 0 ∷ 0 ∷ 7
    ∷ 4 ∷ 7 ∷ 216 ∷ 0 ∷ 11 ∷ 0 ∷ 0 ∷ 0 ∷ 7
    ∷ 3 ∷ 7 ∷ 216 ∷ 0 ∷ 12 ∷ 0 ∷ 0 ∷ 0 ∷ 0
    ∷ 9 ∷ 9 ∷ []
unfolding buffer_after outcome_of reading_of read_from found_at station_at day_at word_at signed_of signed_at
bytes = λ i. bytes_of (worked i) ++ (9 ∷ 9 ∷ [])

-- a refused log leaves every byte: the same one cut off within its last day, and with a buffer that is one byte too short
pub untouched : (buffer_after (take 69 sample) lent ≡ lent) × (buffer_after sample (take 31 lent) ≡ take 31 lent)
unfolding buffer_after outcome_of reading_of read_from found_at station_at day_at word_at signed_of signed_at
untouched = (refl, refl)

-- ---- two blocks

-- LIDX with LIDW's other fields
abbrev other_station : List ℕ
other_station = 1 ∷ 76 ∷ 73 ∷ 68 ∷ 88 ∷ drop 4 fields

-- LIDX: day 365 of 2007 and day 1 of 2008, the wind missing. LIDW: days 10 and 11 of 2008 as before, day 11 again but warmer, and day 12.
abbrev two_blocks : List ℕ
two_blocks =
    other_station ++ plain_day 215 1 109 0 200 128 0 ++ plain_day 216 0 1 0 200 128 0
    ++ station ++ plain_day 216 0 10 0 200 128 0 ++ plain_day 216 0 11 0 200 128 0 ++ plain_day 216 0 11 1 64 0 0 ++ plain_day 216 0 12 1 64 0 0

-- over the year's end: day 1 has the mean of day 365, whose day is refused
pub year_end : DayAt two_blocks 2 (station_at two_blocks 1) (day_at two_blocks 37) (record { one = Some (pos 200); two = None; three = None }) true 14
unfolding reading_of read_from found_at station_at day_at word_at signed_of signed_at is_date year_length days_before good_date counted earlier_means
year_end =
    day_there two_blocks 2 (record { station = station_at two_blocks 1; days = day_at two_blocks 20 ∷ []; crop = bare }) (day_at two_blocks 37) refl refl refl

lacking_too : (judged (station_at two_blocks 1) (day_at two_blocks 20) (record { one = None; two = None; three = None }) ≡ Err Missing)
    × (judged (station_at two_blocks 1) (day_at two_blocks 37) (record { one = Some (pos 200); two = None; three = None }) ≡ Err Missing)
unfolding judged lacks_dew_point as_judged standing_of holds station_at day_at word_at signed_of signed_at is_date year_length
lacking_too = (refl, refl)

abbrev room : List ℕ
room = lent ++ lent

-- the day 11 that comes again is refused with 6; that its mean counts for nothing is in station_log/proofs/WorkedRules.antt, since day 12 has 0 either way
pub two_blocks_lem : buffer_after two_blocks room ≡
    5 ∷ 76 ∷ 73 ∷ 68 ∷ 88
    ∷ 4 ∷ 7 ∷ 215 ∷ 1 ∷ 109 ∷ 0 ∷ 0 ∷ 0 ∷ 7
    ∷ 4 ∷ 7 ∷ 216 ∷ 0 ∷ 1 ∷ 0 ∷ 0 ∷ 0 ∷ 7
    ∷ 5 ∷ 76 ∷ 73 ∷ 68 ∷ 87
    ∷ 4 ∷ 7 ∷ 216 ∷ 0 ∷ 10 ∷ 0 ∷ 0 ∷ 0 ∷ 7
    ∷ 4 ∷ 7 ∷ 216 ∷ 0 ∷ 11 ∷ 0 ∷ 0 ∷ 0 ∷ 7
    ∷ 4 ∷ 7 ∷ 216 ∷ 0 ∷ 11 ∷ 0 ∷ 0 ∷ 0 ∷ 6
    ∷ 3 ∷ 7 ∷ 216 ∷ 0 ∷ 12 ∷ 0 ∷ 0 ∷ 0 ∷ 0
    ∷ drop 64 room
unfolding buffer_after outcome_of reading_of read_from found_at station_at day_at word_at signed_of signed_at is_date year_length days_before good_date counted earlier_means verdict_of
two_blocks_lem =
    λ i.
    (5 ∷ 76 ∷ 73 ∷ 68 ∷ 88 ∷ [])
    ++ answer_bytes (day_answer (day_at two_blocks 20) (lacking_too.0 i))
    ++ answer_bytes (day_answer (day_at two_blocks 37) (lacking_too.1 i))
    ++ (5 ∷ 76 ∷ 73 ∷ 68 ∷ 87 ∷ [])
    ++ answer_bytes (day_answer (day_at sample 20) (lacking.0 i))
    ++ answer_bytes (day_answer (day_at sample 37) (lacking.1 i))
    ++ answer_bytes (day_answer (day_at sample 37) (Err BadDate))
    ++ answer_bytes (day_answer (day_at sample 54) (days.0.told i))
    ++ drop 64 room
