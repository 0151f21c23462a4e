-- A log worked through to the lines of its months and seasons, over a year's end and a leap February. In the first block 31 December, 1 January, 28
-- and 29 February and 1 March are answered, the last without its dew point; 1 February is refused and adds nothing. In the second block no day is
-- answered, so it has a season line and no month's. Assumes nothing.
use mathlib.Core.Path.{◌≡◌, refl, sym, ap, ◌∙◌}
use mathlib.Core.List.{List, [], ◌∷◌, ◌++◌}
use mathlib.Core.Logic.{inl}
use Prim.Native.Nat.{ℕ}
use lib.IntN.{ℤ, pos, negsuc}
use Rattle.std.specs.Prelude.{Some, None, Ok, Err}
use Rattle.tables.specs.Values.{sum_to, more, exp_sum, sin_sum, rounded, curve_at, arc_sum, arc_sums, bell_sums, first}
use Rattle.sheet.specs.declared.Entries.{Entries}
use Rattle.sheet.specs.StepSheet as sheet
use Rattle.day.specs.Calendar.{year_length, is_date}
use Rattle.day.specs.Judgement.{readings_of, entries_of, clear_of, means_of, earlier_of, holds, standing_of, lacks_dew_point, as_judged, with_mark, judged}
use Rattle.day.specs.declared.Day.{Day}
use Rattle.day.specs.declared.Earlier.{Earlier}
use Rattle.day.specs.declared.Refusal.TheVariants.{Missing}
use Rattle.day.specs.declared.Figure.TheVariants.{Measured, Estimated}
use Rattle.day.proofs.Examples.{Worked, worked, station, constants, pressure, roots}
use Rattle.answers.specs.Answers.{day_answer}
use Rattle.answers.specs.declared.Answer.{Answer}
use Rattle.answers.specs.declared.Answer.TheVariants as answer
use Rattle.records.specs.Bytes.{word_at, signed_of, signed_at}
use Rattle.records.specs.Record.{station_at, day_at, found_at}
use Rattle.station_log.specs.History.{days_before, good_date, counted, earlier_means, verdict_of}
use Rattle.station_log.specs.Log.{answers_to, read_from, reading_of, outcome_of}
use Rattle.station_log.proofs.Sample as sample
use Rattle.station_log.proofs.Sample.{windless, no_mean, one_mean}
use Rattle.lines.specs.Text.{totals, month_line, season_line, leading, digits, padded, inches, verdict_text, header, day_line}
use Rattle.totals.specs.Months.{days_by, month_of}
use Rattle.text.specs.Report.{report_of, whole_report}
use Rattle.text.proofs.TotalsOwed.{BlockOf, CountsOnce, TotalsOwed}
use Rattle.text.proofs.Totals.{totals_owed}
use Rattle.text.proofs.WorkedReport.{in_turn, lidw_in, lidw, missing, lidw_month, lidw_season, told}

-- ---- the days

-- 50 °F at the most, 32 °F at the least and as the dew point, 200 cal/cm²/d, 100 miles; a day's mean is not that of the day before it, so the figure
-- shows that the earlier one counts
abbrev mild : ℕ → ℕ → ℕ → ℤ → Day
mild year d mean dewpoint =
    record { year = year; d = d; maximum = pos 500; minimum = pos 320; mean = pos mean; dewpoint = dewpoint; radiation = pos 2_000; wind = pos 1_000 }

abbrev december31 : Day
december31 = mild 2007 365 400 (pos 320)

abbrev january1 : Day
january1 = mild 2008 1 410 (pos 320)

abbrev february28 : Day
february28 = mild 2008 59 400 (pos 320)

abbrev february29 : Day
february29 = mild 2008 60 410 (pos 320)

abbrev march1 : Day
march1 = mild 2008 61 420 (negsuc 32_767)

-- before 1 March
abbrev means : Earlier
means = record { one = Some (pos 410); two = Some (pos 400); three = None }

-- the tables' entries at a day, with the pressure
abbrev at : ℕ → ℕ → ℕ → ℕ → ℕ → Entries
at albedo a1 aw bw p = record { albedo = pos albedo; a1 = pos a1; aw = pos aw; bw = pos bw; p = pos p }

days : Worked station december31 no_mean Measured 298
    × Worked station january1 (one_mean 400) Measured 173
    × Worked station february28 no_mean Measured 535
    × Worked station february29 (one_mean 400) Measured 523
    × Worked station march1 means Estimated 519
unfolding curve_at rounded arc_sum arc_sums sin_sum bell_sums exp_sum sum_to more lacks_dew_point as_judged with_mark entries_of standing_of holds is_date year_length readings_of clear_of means_of earlier_of sheet.sum_of sheet.clear_sum sheet.Q sheet.above_twice_clear sheet.U sheet.V2 sheet.V4 sheet.V6 sheet.V7 sheet.V8 sheet.e sheet.D sheet.M sheet.g sheet.w1 sheet.w2 sheet.ρ sheet.K sheet.N sheet.fourth_power sheet.B sheet.emittance sheet.Rb sheet.S sheet.Rn sheet.soil_heat sheet.H sheet.counted_wind sheet.Wf sheet.«V» sheet.T sheet.drying sheet.A sheet.Figure
days =
    let t = at 348_480_992 260_022_891 400_024_376 7_390_889 in
    let u = at 349_274_348 260_064_499 400_212_234 7_000_425 in
    let v = at 313_520_961 263_680_153 429_399_260 7_020_167 in
    let w = at 312_554_049 263_891_081 431_451_563 7_021_357 in
    let x = at 311_580_267 264_112_147 433_627_135 7_022_611 in (
      worked station december31 no_mean (t 954_675) (ap t (sym pressure)) constants roots.0 refl refl refl,
      worked station january1 (one_mean 400) (u 954_675) (ap u (sym pressure)) constants roots.0 refl refl refl,
      worked station february28 no_mean (v 954_675) (ap v (sym pressure)) constants roots.0 refl refl refl,
      worked station february29 (one_mean 400) (w 954_675) (ap w (sym pressure)) constants roots.0 refl refl refl,
      worked station march1 means (x 954_675) (ap x (sym pressure)) constants roots.0 refl refl refl,
    )

-- ---- the log

-- the record of such a day: the year's low byte, the day, the mean's low byte, the dew point
abbrev record_of : ℕ → ℕ → ℕ → ℕ → ℕ → ℕ → List ℕ
record_of year-low d-high d-low mean-low dew-high dew-low =
    2 ∷ 7 ∷ year-low ∷ d-high ∷ d-low ∷ 1 ∷ 244 ∷ 1 ∷ 64 ∷ 1 ∷ mean-low ∷ dew-high ∷ dew-low ∷ 7 ∷ 208 ∷ 3 ∷ 232 ∷ []

-- 1 February and 1 April, days 32 and 92, lack the wind
abbrev pub months_log : List ℕ
months_log =
    sample.station
    ++ record_of 215 1 109 144 1 64 ++ record_of 216 0 1 154 1 64 ++ windless 32 1 144
    ++ record_of 216 0 59 144 1 64 ++ record_of 216 0 60 154 1 64 ++ record_of 216 0 61 164 128 0
    ++ sample.station ++ windless 92 1 144

lacking : (judged (station_at months_log 1) (day_at months_log 54) no_mean ≡ Err Missing)
    × (judged (station_at months_log 122) (day_at months_log 141) no_mean ≡ Err Missing)
unfolding judged lacks_dew_point as_judged standing_of holds station_at day_at word_at signed_of signed_at is_date year_length
lacking = (refl, refl)

pub worked_months : answers_to months_log ≡
    answer.Station (station_at months_log 1).code
    ∷ answer.Day 2007 365 (Ok (Measured 298)) ∷ answer.Day 2008 1 (Ok (Measured 173)) ∷ answer.Day 2008 32 (Err Missing)
    ∷ answer.Day 2008 59 (Ok (Measured 535)) ∷ answer.Day 2008 60 (Ok (Measured 523)) ∷ answer.Day 2008 61 (Ok (Estimated 519))
    ∷ answer.Station (station_at months_log 1).code ∷ answer.Day 2008 92 (Err Missing)
    ∷ []
unfolding reading_of read_from found_at station_at day_at word_at signed_of signed_at is_date year_length days_before good_date counted earlier_means verdict_of
worked_months =
    λ i.
    answer.Station (station_at months_log 1).code
    ∷ day_answer december31 (days.0.told i) ∷ day_answer january1 (days.1.told i) ∷ day_answer (day_at months_log 54) (lacking.0 i)
    ∷ day_answer february28 (days.2.told i) ∷ day_answer february29 (days.3.told i) ∷ day_answer march1 (days.4.told i)
    ∷ answer.Station (station_at months_log 122).code ∷ day_answer (day_at months_log 141) (lacking.1 i)
    ∷ []

-- `LIDW 2007 365 0.0298`, `LIDW 2008 001 0.0173`, `LIDW 2008 032 R7`, `LIDW 2008 059 0.0535`, `LIDW 2008 060 0.0523`, `LIDW 2008 061 0.0519 E`;
-- `LIDW 2007 12 1 0.0298`, `LIDW 2008 01 1 0.0173`, `LIDW 2008 02 2 0.1058`, `LIDW 2008 03 1 0.0519`, `LIDW ALL 5 0.2048`;
-- `LIDW 2008 092 R7`, `LIDW ALL 0 0.0000`
pub with_months : whole_report months_log ≡
    header
    ++ lidw_in 55 (51 ∷ 54 ∷ 53 ∷ []) (48 ∷ 46 ∷ 48 ∷ 50 ∷ 57 ∷ 56 ∷ [])
    ++ lidw (48 ∷ 48 ∷ 49 ∷ []) (48 ∷ 46 ∷ 48 ∷ 49 ∷ 55 ∷ 51 ∷ [])
    ++ lidw (48 ∷ 51 ∷ 50 ∷ []) missing
    ++ lidw (48 ∷ 53 ∷ 57 ∷ []) (48 ∷ 46 ∷ 48 ∷ 53 ∷ 51 ∷ 53 ∷ [])
    ++ lidw (48 ∷ 54 ∷ 48 ∷ []) (48 ∷ 46 ∷ 48 ∷ 53 ∷ 50 ∷ 51 ∷ [])
    ++ lidw (48 ∷ 54 ∷ 49 ∷ []) (48 ∷ 46 ∷ 48 ∷ 53 ∷ 49 ∷ 57 ∷ 32 ∷ 69 ∷ [])
    ++ lidw_in 55 (49 ∷ 50 ∷ []) (49 ∷ 32 ∷ 48 ∷ 46 ∷ 48 ∷ 50 ∷ 57 ∷ 56 ∷ [])
    ++ lidw_month (48 ∷ 49 ∷ []) (49 ∷ []) (48 ∷ 46 ∷ 48 ∷ 49 ∷ 55 ∷ 51 ∷ [])
    ++ lidw_month (48 ∷ 50 ∷ []) (50 ∷ []) (48 ∷ 46 ∷ 49 ∷ 48 ∷ 53 ∷ 56 ∷ [])
    ++ lidw_month (48 ∷ 51 ∷ []) (49 ∷ []) (48 ∷ 46 ∷ 48 ∷ 53 ∷ 49 ∷ 57 ∷ [])
    ++ lidw_season (53 ∷ []) (48 ∷ 46 ∷ 50 ∷ 48 ∷ 52 ∷ 56 ∷ [])
    ++ lidw (48 ∷ 57 ∷ 50 ∷ []) missing
    ++ lidw_season (48 ∷ []) (48 ∷ 46 ∷ 48 ∷ 48 ∷ 48 ∷ 48 ∷ [])
unfolding whole_report report_of outcome_of reading_of read_from found_at station_at day_at word_at signed_of signed_at day_line padded verdict_text inches digits leading month_line season_line totals month_of first days_by year_length
with_months = (λ i. told (worked_months i)) ∙ in_turn months_log worked_months

-- ---- what is owed of its totals

-- the first block, and 29 February in it: every hypothesis of `totals_owed` is met
abbrev february : List Answer
february = answer.Day 2007 365 (Ok (Measured 298)) ∷ answer.Day 2008 1 (Ok (Measured 173)) ∷ answer.Day 2008 32 (Err Missing) ∷ answer.Day 2008 59 (Ok (Measured 535)) ∷ []

abbrev march : List Answer
march = answer.Day 2008 61 (Ok (Estimated 519)) ∷ []

pub first_block : BlockOf months_log (station_at months_log 1).code (february ++ answer.Day 2008 60 (Ok (Measured 523)) ∷ march)
first_block =
    record {
      before = [];
      rest = february ++ answer.Day 2008 60 (Ok (Measured 523)) ∷ (march ++ answer.Station (station_at months_log 1).code ∷ answer.Day 2008 92 (Err Missing) ∷ []);
      stands = worked_months;
      its = refl;
    }

pub leap_day : CountsOnce 2008 60 (Ok (Measured 523)) 523
unfolding TotalsOwed
leap_day =
    (totals_owed months_log (station_at months_log 1).code (february ++ answer.Day 2008 60 (Ok (Measured 523)) ∷ march) first_block).once 2008 60 (Ok (Measured 523)) 523
    (record { before = february; rest = march; stands = refl; kind = inl refl })
