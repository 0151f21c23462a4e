-- Demand 3, entire: every answered day, of a log or handed in alone, gets a figure within 6/100,000 of an inch of the unrounded equation, and no log that
-- the rules answer is refused. One definition over any reader of logs and any judge of days. Assumes nothing.
use Rattle.std.specs.Prelude.{true, false, List, ◌≡◌, ℕ, T, leb, length, take, drop}
use Rattle.day.specs.Bound.{WithinBound, JudgesWithinBound}
use Rattle.day.specs.Judgement.{holds, as_judged, with_mark, Verdict}
use Rattle.day.specs.Rules.{number_of}
use Rattle.day.specs.declared.Day.{Day}
use Rattle.day.specs.declared.Earlier.{Earlier}
use Rattle.day.specs.declared.Refusal.{Refusal}
use Rattle.day.specs.declared.Station.{Station}
use Rattle.answers.specs.Answers.{kind_of, dated}
use Rattle.promises.specs.Days.{DayAt}
use Rattle.station_log.specs.Log.{outcome_of}
use Rattle.std.specs.Prelude.{Ok}
use Rattle.station_log.specs.Log.{Outcome}

-- "none of 1 to 5 and 12 and no log refusal that a request adds holds of the log and its answer buffer", by the rules and not by what a reader
-- returns
unfoldable pub AnsweredLog : List ℕ → List ℕ → Type 0
AnsweredLog s buffer = (n : ℕ) × (outcome_of s (length buffer) ≡ Ok n)

-- "none of 6 to 11 holds of the day", without 11 (02, W6): record i of the log is the day x of a block of `st`, its date is good, its earlier means
-- are those that the block's records give, and none of 7 to 10 holds of it as it is judged. Its answer is due at `place`.
pub record AnsweredDay (s : List ℕ) (i : ℕ) (st : Station) (x : Day) (earlier : Earlier) (place : ℕ) : Type 0 where
  pub at : DayAt s i st x earlier true place
  pub others : (r : Refusal) → T (leb 7 (number_of r)) → holds r st (as_judged x) earlier ≡ false

-- In the buffer at exit the nine bytes at the day's own place are an answer of kind 3, or of kind 9 where the minimum stands for its dew point, with
-- its year and `d`, and a figure within the bound. The equation is fed the day as it is judged.
unfoldable pub FigureAt : Station → Day → Earlier → ℕ → List ℕ → Type 0
FigureAt st x earlier place after =
    (n : ℕ) × (take 9 (drop place after) ≡ dated (kind_of (Ok (with_mark x n))) x.year x.d n) × WithinBound st (as_judged x) earlier n

-- "An answered day gets a figure and no refusal": no log that the rules answer is refused, with an answered day or without. Which length is returned
-- `Read` says, and not the demand.
unfoldable pub NotRefused : List ℕ → List ℕ → Outcome → Type 0
NotRefused s buffer returned = AnsweredLog s buffer → (n : ℕ) × (returned ≡ Ok n)

-- what is owed for a log: `buffer` is the answer buffer as it was lent, `after` as it is left
unfoldable pub FiguresOwed : List ℕ → List ℕ → List ℕ → Type 0
FiguresOwed s buffer after =
    AnsweredLog s buffer →
    (i place : ℕ) (st : Station) (x : Day) (earlier : Earlier) → AnsweredDay s i st x earlier place → FigureAt st x earlier place after

-- the demand: of a log and the buffer lent, `returned` gives what a reader hands back and `left` the buffer that it leaves
unfoldable pub EveryFigureWithinBound : (List ℕ → List ℕ → Outcome) → (List ℕ → List ℕ → List ℕ) → (Station → Day → Earlier → Verdict) → Type 0
EveryFigureWithinBound returned left judge =
    ((s buffer : List ℕ) → NotRefused s buffer (returned s buffer) × FiguresOwed s buffer (left s buffer)) × JudgesWithinBound judge
