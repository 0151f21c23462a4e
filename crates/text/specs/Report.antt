-- The report of a log, from the log's bytes to the last newline, by document 01, "Proved days and edges"; and what is left of a buffer that it is
-- written to. Assumes nothing.
use Rattle.std.specs.Prelude.{Result, cond, List, [], ◌∷◌, ◌++◌, ◌≡◌, ℕ, ltb, eqb, length, drop, Ok, Err}
use Rattle.answers.specs.Answers.{Role, opens, of_day, beside, role_of, bytes_of}
use Rattle.day.specs.declared.Code.{Code}
use Rattle.station_log.specs.Log.{number_of_fault, Outcome, outcome_of, answers_to}
use Rattle.answers.specs.declared.Answer.{Answer}
use Rattle.answers.specs.declared.Answer.TheVariants as answer
use Rattle.lines.specs.Text.{header, day_line, crop_line, month_line, season_line, refused_line}
use Rattle.promises.specs.Demand.{AnsweredLog}
use Rattle.totals.specs.Months.{months}
use Rattle.totals.specs.Totals.{month_total, season_total, each_month}
use Rattle.totals.specs.declared.tally.Total.{Total}
use Rattle.text.specs.declared.TooShort.{TooShort}

-- "An answer kind that a request adds prints its fields after the kind in the same way, figures in inches": a day has its line, with its block's code,
-- and a crop's figure has one. "A station prints no line of its own".
abbrev pub line_of : Code → Answer → List ℕ
line_of block (answer.Station code) = []
line_of block (answer.Day year d verdict) = day_line block year d verdict
line_of block (answer.Crop code n) = crop_line code n

-- "in answer order"
abbrev pub answer_lines : Code → List Answer → List ℕ
answer_lines block [] = []
answer_lines block (a ∷ rest) = line_of block a ++ answer_lines block rest

-- "a line for each month that had an answered day" (02, W5)
abbrev pub month_text : Code → ℕ → ℕ → Total → List ℕ
month_text block year month total = cond (eqb total.days 0) [] (month_line block year month total.days total.sum)

abbrev pub season_text : Code → Total → List ℕ
season_text block total = season_line block total.days total.sum

-- "lines about a whole block follow all its answers": the months in date order, "and then a season line" (02, W5)
abbrev pub about_block : Code → List Answer → List ℕ
about_block block answers = each_month (month_text block) (month_total answers) months ++ season_text block (season_total answers)

-- by what an answer is to its block: a station's ends the block before it, any other is the block's, and `later` are those behind it
abbrev pub own_from : Role → Answer → List Answer → List Answer
own_from (opens code) a later = []
own_from (of_day year d verdict) a later = a ∷ later
own_from beside a later = a ∷ later

-- the answers of the block that is open: those before the next station
abbrev pub own : List Answer → List Answer
own [] = []
own (a ∷ rest) = own_from (role_of a) a (own rest)

-- the lines of the block that an answer opens: those of its own answers, and those about it
abbrev pub block_lines : Role → List Answer → List ℕ
block_lines (opens code) rest = answer_lines code (own rest) ++ about_block code (own rest)
block_lines (of_day year d verdict) rest = []
block_lines beside rest = []

-- block after block. No log answers a day before a station: it is refused with 4 (`station_first` in station_log/proofs/Longest.antt).
abbrev pub lines_of : List Answer → List ℕ
lines_of [] = []
lines_of (a ∷ rest) = block_lines (role_of a) rest ++ lines_of rest

-- "a log of 0 bytes prints the header alone"; a refused log prints its line and nothing else
abbrev pub text_of : Outcome → List Answer → List ℕ
text_of (Ok n) answers = header ++ lines_of answers
text_of (Err r) answers = refused_line (number_of_fault r.why) r.place

-- the report of a log that is read with an answer buffer of `size` bytes
unfoldable pub report_of : List ℕ → ℕ → List ℕ
report_of s size = text_of (outcome_of s size) (answers_to s)

-- ---- a lent text buffer

-- the length written, or the length needed where the buffer has fewer bytes
abbrev pub printed_in : ℕ → List ℕ → Result ℕ TooShort
printed_in size text = cond (ltb size (length text)) (Err (record { needed = length text })) (Ok (length text))

-- the text from the front, later bytes as they were; a buffer that is too short is as it was
abbrev pub text_over : List ℕ → List ℕ → List ℕ
text_over before text = cond (ltb (length before) (length text)) before (text ++ drop (length text) before)

-- what a writer of a text owes: the number that it returns, and each byte of the buffer afterwards
pub record Prints (text before : List ℕ) (returned : Result ℕ TooShort) (after : List ℕ) : Type 0 where
  pub told : returned ≡ printed_in (length before) text
  pub bytes : after ≡ text_over before text

-- "An answered day gets a figure and no refusal": of a log that the rules answer the text that is printed, or found too long, is the report, and no line of
-- a refusal
unfoldable pub ReportOwed : List ℕ → List ℕ → List ℕ → Result ℕ TooShort → List ℕ → Type 0
ReportOwed s buffer before returned after = AnsweredLog s buffer → Prints (header ++ lines_of (answers_to s)) before returned after

-- the report of a log, with room for its answers: 12 does not hold
unfoldable pub whole_report : List ℕ → List ℕ
whole_report s = report_of s (length (bytes_of (answers_to s)))
