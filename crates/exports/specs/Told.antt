-- What a number that an exported function returns says of a day, of a log or of a report. Every number of 64 bits says one thing, and no two say the same (proofs/Told.antt, `told_apart`).
-- Assumes nothing.
use Rattle.std.specs.Prelude.{cond, List, ◌≡◌, ℕ, ◌/◌, ◌%◌, eqb, Result, Ok, Err}
use Rattle.day.specs.Bound.{WithinBound}
use Rattle.day.specs.Judgement.{Answered, as_judged, with_mark, Verdict}
use Rattle.day.specs.Rules.{number_of}
use Rattle.day.specs.declared.Day.{Day}
use Rattle.day.specs.declared.Earlier.{Earlier}
use Rattle.day.specs.declared.Station.{Station}
use Rattle.day.specs.declared.Figure.TheVariants.{Measured, Estimated}
use Rattle.station_log.specs.Log.{number_of_fault, Outcome}
use Rattle.promises.specs.Demand.{AnsweredLog}
use Rattle.text.specs.Report.{ReportOwed}
use Rattle.text.specs.declared.TooShort.{TooShort}

-- a figure or a length; or a refusal's number, with its offset or the length needed, and 0 where it has neither; or a figure with the mark
pub data Said : Type 0 where
  accepted : ℕ → Said
  refused : ℕ → ℕ → Said
  estimated : ℕ → Said

-- the number of the mark: a refusal's has one byte
abbrev pub mark_number : ℕ
mark_number = 256

-- the number of no refusal is 0
abbrev pub said : ℕ → ℕ → Said
said number value = cond (eqb number 0) (accepted value) (cond (eqb number mark_number) (estimated value) (refused number value))

-- the high half is the refusal's number or the mark's, the low half the value
unfoldable pub said_by : ℕ → Said
said_by r = said (r / 4294967296) (r % 4294967296)

abbrev pub verdict_said : Verdict → Said
verdict_said (Ok (Measured n)) = accepted n
verdict_said (Ok (Estimated n)) = estimated n
verdict_said (Err why) = refused (number_of why) 0

abbrev pub outcome_said : Outcome → Said
outcome_said (Ok n) = accepted n
outcome_said (Err r) = refused (number_of_fault r.why) r.place

-- a text buffer that is too short is refused with 12, as an answer buffer is
abbrev pub printed_said : Result ℕ TooShort → Said
printed_said (Ok n) = accepted n
printed_said (Err short) = refused 12 short.needed

-- Demand 3, of the number: an answered day has a figure there, with the mark where the minimum stands for its dew point, and within the bound
unfoldable pub FigureSaid : Station → Day → Earlier → ℕ → Type 0
FigureSaid st x earlier r =
    Answered st (as_judged x) earlier → (n : ℕ) × (said_by r ≡ verdict_said (Ok (with_mark x n))) × WithinBound st (as_judged x) earlier n

-- of the number returned for a log that the rules answer: a length and no refusal
unfoldable pub LengthSaid : List ℕ → List ℕ → ℕ → Type 0
LengthSaid s buffer r = AnsweredLog s buffer → (n : ℕ) × (said_by r ≡ accepted n)

-- of the number returned for such a log's report: it says the length of the report, or 12 and the length needed, and not those of a refusal's line
unfoldable pub ReportSaid : List ℕ → List ℕ → List ℕ → ℕ → List ℕ → Type 0
ReportSaid s buffer before r after = (p : Result ℕ TooShort) × (said_by r ≡ printed_said p) × ReportOwed s buffer before p after
