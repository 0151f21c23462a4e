-- Reports worked out from the log's bytes to the last newline: document 01's, with its four lines and the two of its totals; the same log cut off; the same with an answer
-- buffer that is one byte too short; that of a log of 0 bytes; that of a log with a crop; that of a log with a day without its
-- dew point; and that of a log of two stations. Assumes nothing.
use mathlib.Core.Path.{◌≡◌, refl, ap, ◌∙◌, subst}
use mathlib.Core.List.{List, [], ◌∷◌, ◌++◌}
use mathlib.Core.Bool.{cond}
use Prim.Native.Nat.{ℕ}
use lib.Dec.{ltb}
use lib.ListN.{length, take, drop}
use Rattle.answers.specs.Answers.{bytes_of}
use Rattle.answers.specs.declared.Answer.{Answer}
use Rattle.answers.specs.declared.Answer.TheVariants as answer
use Rattle.crops.specs.Crop.{bad_crop}
use Rattle.records.specs.Bytes.{word_at, signed_of, signed_at}
use Rattle.records.specs.Record.{station_at, day_at, crop_at, found_at}
use Rattle.day.specs.Calendar.{year_length, is_date}
use Rattle.day.specs.Judgement.{holds, standing_of, lacks_dew_point, as_judged, judged}
use Rattle.day.specs.declared.Refusal.TheVariants.{Missing}
use Rattle.station_log.specs.History.{days_before, good_date, counted, earlier_means, verdict_of}
use Rattle.tables.specs.Values.{first}
use Rattle.totals.specs.Months.{days_by, month_of}
use Rattle.station_log.specs.Log.{answers_to, read_from, reading_of, outcome_of}
use Rattle.station_log.proofs.Sample.{sample, fields, station, windless}
use Rattle.std.specs.Prelude.{Ok, Err}
use Rattle.station_log.specs.Log.{refusal}
use Rattle.station_log.specs.declared.Fault.TheVariants.{ShortBuffer}
use Rattle.promises.proofs.WorkedLog.{worked}
use Rattle.promises.proofs.WorkedCrop.{crop_log, worked as crop-worked}
use Rattle.promises.proofs.WorkedEstimate.{estimate_log, worked as estimate-worked}
use Rattle.text.specs.Report.{lines_of, text_of, report_of, whole_report}
use Rattle.text.specs.Walk.{Ordered}
use Rattle.text.proofs.DateOrder.{answers_ordered}
use Rattle.text.proofs.InTurn.{lines_in_turn, lines_in_turn_lem}
use Rattle.lines.specs.Text.{totals, month_line, season_line, newline, leading, digits, padded, inches, verdict_text, header, day_line, crop_line, refused_line}

-- the months of a log's answers are in date order
pub in_turn : (s : List ℕ) {answers : List Answer} → answers_to s ≡ answers → header ++ lines_of answers ≡ header ++ lines_in_turn answers
in_turn s {answers} e = ap (λ (l : List ℕ). header ++ l) (lines_in_turn_lem answers (subst Ordered e (answers_ordered s)))

-- `STN YEAR DAY ET`, `LIDW 2008 010 R7`, `LIDW 2008 011 R7`, `LIDW 2008 012 0.0000`, `LIDW 2008 01 1 0.0000`, `LIDW ALL 1 0.0000`
pub report : whole_report sample ≡
    83 ∷ 84 ∷ 78 ∷ 32 ∷ 89 ∷ 69 ∷ 65 ∷ 82 ∷ 32 ∷ 68 ∷ 65 ∷ 89 ∷ 32 ∷ 69 ∷ 84 ∷ newline
    ∷ 76 ∷ 73 ∷ 68 ∷ 87 ∷ 32 ∷ 50 ∷ 48 ∷ 48 ∷ 56 ∷ 32 ∷ 48 ∷ 49 ∷ 48 ∷ 32 ∷ 82 ∷ 55 ∷ newline
    ∷ 76 ∷ 73 ∷ 68 ∷ 87 ∷ 32 ∷ 50 ∷ 48 ∷ 48 ∷ 56 ∷ 32 ∷ 48 ∷ 49 ∷ 49 ∷ 32 ∷ 82 ∷ 55 ∷ newline
    ∷ 76 ∷ 73 ∷ 68 ∷ 87 ∷ 32 ∷ 50 ∷ 48 ∷ 48 ∷ 56 ∷ 32 ∷ 48 ∷ 49 ∷ 50 ∷ 32 ∷ 48 ∷ 46 ∷ 48 ∷ 48 ∷ 48 ∷ 48 ∷ newline
    ∷ 76 ∷ 73 ∷ 68 ∷ 87 ∷ 32 ∷ 50 ∷ 48 ∷ 48 ∷ 56 ∷ 32 ∷ 48 ∷ 49 ∷ 32 ∷ 49 ∷ 32 ∷ 48 ∷ 46 ∷ 48 ∷ 48 ∷ 48 ∷ 48 ∷ newline
    ∷ 76 ∷ 73 ∷ 68 ∷ 87 ∷ 32 ∷ 65 ∷ 76 ∷ 76 ∷ 32 ∷ 49 ∷ 32 ∷ 48 ∷ 46 ∷ 48 ∷ 48 ∷ 48 ∷ 48 ∷ newline
    ∷ []
unfolding whole_report report_of outcome_of reading_of read_from found_at station_at day_at word_at signed_of signed_at day_line padded verdict_text inches digits leading month_line season_line totals month_of first days_by year_length
report = (λ i. header ++ lines_of (worked i)) ∙ in_turn sample worked

-- cut off within day 12, whose kind byte is at 53: `REFUSED 2 53`
pub cut_off : whole_report (take 69 sample) ≡ 82 ∷ 69 ∷ 70 ∷ 85 ∷ 83 ∷ 69 ∷ 68 ∷ 32 ∷ 50 ∷ 32 ∷ 53 ∷ 51 ∷ newline ∷ []
unfolding whole_report report_of outcome_of reading_of read_from found_at station_at day_at word_at signed_of signed_at refused_line digits leading
cut_off = refl

-- 31 bytes for 32 of answers: `REFUSED 12 32`
pub answers_short : report_of sample 31 ≡ 82 ∷ 69 ∷ 70 ∷ 85 ∷ 83 ∷ 69 ∷ 68 ∷ 32 ∷ 49 ∷ 50 ∷ 32 ∷ 51 ∷ 50 ∷ newline ∷ []
unfolding report_of outcome_of reading_of read_from found_at station_at day_at word_at signed_of signed_at refused_line digits leading
answers_short = refl

-- "a log of 0 bytes prints the header alone"
pub empty : whole_report [] ≡ header
unfolding whole_report report_of outcome_of reading_of read_from found_at
empty = refl

-- the line of a day of LIDW in a year of the last digit `y`, and in 2008: its day and what is said of it; `R7`
abbrev pub lidw_in : ℕ → List ℕ → List ℕ → List ℕ
lidw_in y d says = 76 ∷ 73 ∷ 68 ∷ 87 ∷ 32 ∷ 50 ∷ 48 ∷ 48 ∷ y ∷ 32 ∷ (d ++ 32 ∷ (says ++ newline ∷ []))

abbrev pub lidw : List ℕ → List ℕ → List ℕ
lidw = lidw_in 56

abbrev pub missing : List ℕ
missing = 82 ∷ 55 ∷ []

-- the line of a month of LIDW in 2008, with the days answered and their sum, and the season line
abbrev pub lidw_month : List ℕ → List ℕ → List ℕ → List ℕ
lidw_month month days sum = lidw month (days ++ 32 ∷ sum)

abbrev pub lidw_season : List ℕ → List ℕ → List ℕ
lidw_season days sum = 76 ∷ 73 ∷ 68 ∷ 87 ∷ 32 ∷ 65 ∷ 76 ∷ 76 ∷ 32 ∷ (days ++ 32 ∷ (sum ++ newline ∷ []))

-- the report of some answers, in a buffer of the length that they need
abbrev pub told : List Answer → List ℕ
told answers = let n = length (bytes_of answers) in text_of (cond (ltb n n) (refusal ShortBuffer n) (Ok n)) answers

-- `LIDW 2008 178 R7`, `LIDW 2008 179 R7`, `LIDW 2008 180 0.3518`, `BEAN 0.1319`; and the second block without a crop, its last day `0.3356`
pub with_crop : whole_report crop_log ≡
    header
    ++ lidw (49 ∷ 55 ∷ 56 ∷ []) missing
    ++ lidw (49 ∷ 55 ∷ 57 ∷ []) missing
    ++ lidw (49 ∷ 56 ∷ 48 ∷ []) (48 ∷ 46 ∷ 51 ∷ 53 ∷ 49 ∷ 56 ∷ [])
    ++ (66 ∷ 69 ∷ 65 ∷ 78 ∷ 32 ∷ 48 ∷ 46 ∷ 49 ∷ 51 ∷ 49 ∷ 57 ∷ newline ∷ [])
    ++ lidw_month (48 ∷ 54 ∷ []) (49 ∷ []) (48 ∷ 46 ∷ 51 ∷ 53 ∷ 49 ∷ 56 ∷ [])
    ++ lidw_season (49 ∷ []) (48 ∷ 46 ∷ 51 ∷ 53 ∷ 49 ∷ 56 ∷ [])
    ++ lidw (49 ∷ 55 ∷ 55 ∷ []) missing
    ++ lidw (49 ∷ 55 ∷ 56 ∷ []) missing
    ++ lidw (49 ∷ 55 ∷ 57 ∷ []) missing
    ++ lidw (49 ∷ 56 ∷ 48 ∷ []) (48 ∷ 46 ∷ 51 ∷ 51 ∷ 53 ∷ 54 ∷ [])
    ++ lidw_month (48 ∷ 54 ∷ []) (49 ∷ []) (48 ∷ 46 ∷ 51 ∷ 51 ∷ 53 ∷ 54 ∷ [])
    ++ lidw_season (49 ∷ []) (48 ∷ 46 ∷ 51 ∷ 51 ∷ 53 ∷ 54 ∷ [])
unfolding whole_report report_of outcome_of reading_of read_from found_at station_at day_at crop_at word_at signed_of signed_at bad_crop day_line crop_line padded verdict_text inches digits leading month_line season_line totals month_of first days_by year_length
with_crop = (λ i. told (crop-worked i)) ∙ in_turn crop_log crop-worked

-- `LIDW 2008 178 R7`, `LIDW 2008 179 R7`, `LIDW 2008 180 0.3347 E`, `BEAN 0.1255`, `LIDW 2008 181 R7`, and document 01's
pub with_estimate : whole_report estimate_log ≡
    header
    ++ lidw (49 ∷ 55 ∷ 56 ∷ []) missing
    ++ lidw (49 ∷ 55 ∷ 57 ∷ []) missing
    ++ lidw (49 ∷ 56 ∷ 48 ∷ []) (48 ∷ 46 ∷ 51 ∷ 51 ∷ 52 ∷ 55 ∷ 32 ∷ 69 ∷ [])
    ++ (66 ∷ 69 ∷ 65 ∷ 78 ∷ 32 ∷ 48 ∷ 46 ∷ 49 ∷ 50 ∷ 53 ∷ 53 ∷ newline ∷ [])
    ++ lidw (49 ∷ 56 ∷ 49 ∷ []) missing
    ++ lidw_month (48 ∷ 54 ∷ []) (49 ∷ []) (48 ∷ 46 ∷ 51 ∷ 51 ∷ 52 ∷ 55 ∷ [])
    ++ lidw_season (49 ∷ []) (48 ∷ 46 ∷ 51 ∷ 51 ∷ 52 ∷ 55 ∷ [])
    ++ lidw (48 ∷ 49 ∷ 48 ∷ []) missing
    ++ lidw (48 ∷ 49 ∷ 49 ∷ []) missing
    ++ lidw (48 ∷ 49 ∷ 50 ∷ []) (48 ∷ 46 ∷ 48 ∷ 48 ∷ 48 ∷ 48 ∷ [])
    ++ lidw_month (48 ∷ 49 ∷ []) (49 ∷ []) (48 ∷ 46 ∷ 48 ∷ 48 ∷ 48 ∷ 48 ∷ [])
    ++ lidw_season (49 ∷ []) (48 ∷ 46 ∷ 48 ∷ 48 ∷ 48 ∷ 48 ∷ [])
unfolding whole_report report_of outcome_of reading_of read_from found_at station_at day_at crop_at word_at signed_of signed_at bad_crop day_line crop_line padded verdict_text inches digits leading month_line season_line totals month_of first days_by year_length
with_estimate = (λ i. told (estimate-worked i)) ∙ in_turn estimate_log estimate-worked

-- ---- two stations

-- LIDX and LIDW, with a day each that lacks the wind
abbrev two_codes : List ℕ
two_codes = (1 ∷ 76 ∷ 73 ∷ 68 ∷ 88 ∷ drop 4 fields) ++ windless 10 0 200 ++ station ++ windless 11 0 200

codes_worked : answers_to two_codes ≡
    answer.Station (station_at two_codes 1).code ∷ answer.Day 2008 10 (Err Missing)
    ∷ answer.Station (station_at two_codes 37).code ∷ answer.Day 2008 11 (Err Missing)
    ∷ []
unfolding reading_of read_from found_at station_at day_at word_at signed_of signed_at is_date year_length days_before good_date counted earlier_means verdict_of judged lacks_dew_point as_judged standing_of holds
codes_worked = refl

-- each line has its own block's code: `LIDX 2008 010 R7`, `LIDX ALL 0 0.0000`, `LIDW 2008 011 R7`, `LIDW ALL 0 0.0000`
pub two_codes_lem : whole_report two_codes ≡
    header
    ++ (76 ∷ 73 ∷ 68 ∷ 88 ∷ 32 ∷ 50 ∷ 48 ∷ 48 ∷ 56 ∷ 32 ∷ 48 ∷ 49 ∷ 48 ∷ 32 ∷ 82 ∷ 55 ∷ newline ∷ [])
    ++ (76 ∷ 73 ∷ 68 ∷ 88 ∷ 32 ∷ 65 ∷ 76 ∷ 76 ∷ 32 ∷ 48 ∷ 32 ∷ 48 ∷ 46 ∷ 48 ∷ 48 ∷ 48 ∷ 48 ∷ newline ∷ [])
    ++ lidw (48 ∷ 49 ∷ 49 ∷ []) missing
    ++ lidw_season (48 ∷ []) (48 ∷ 46 ∷ 48 ∷ 48 ∷ 48 ∷ 48 ∷ [])
unfolding whole_report report_of outcome_of reading_of read_from found_at station_at day_at word_at signed_of signed_at day_line padded verdict_text inches digits leading month_line season_line totals
two_codes_lem = (λ i. told (codes_worked i)) ∙ in_turn two_codes codes_worked
