-- What is owed for the totals of a log's blocks (document 02, W5), from its bytes: `TotalsOwed`, which Totals.antt proves. Assumes nothing.
use mathlib.Core.Path.{◌≡◌}
use mathlib.Core.List.{List, ◌∷◌, ◌++◌}
use mathlib.Core.Logic.{◌⊎◌}
use Prim.Native.Nat.{ℕ, ◌<◌}
use Rattle.std.specs.Prelude.{Ok}
use Rattle.answers.specs.declared.Answer.{Answer}
use Rattle.answers.specs.declared.Answer.TheVariants as answer
use Rattle.day.specs.declared.Code.{Code}
use Rattle.day.specs.Judgement.{Verdict}
use Rattle.day.specs.declared.Figure.TheVariants.{Measured, Estimated}
use Rattle.station_log.specs.Log.{answers_to}
use Rattle.totals.specs.Months.{year_at, month_at, months}
use Rattle.totals.proofs.Calendar.{InMonth}
use Rattle.totals.specs.Totals.{none, one, counted_of, share_of, is_month, month_total, season_total}
use Rattle.totals.proofs.Shares.{together}
use Rattle.text.specs.Report.{answer_lines, about_block, own, lines_of}

-- a block of a log: its station's code, and its answers
pub record BlockOf (s : List ℕ) (code : Code) (answers : List Answer) : Type 0 where
  pub before : List Answer
  pub rest : List Answer
  pub stands : answers_to s ≡ before ++ answer.Station code ∷ rest
  pub its : answers ≡ own rest

-- an answered day of the block, of kind 3 or 9, with the figure n
pub record AnsweredIn (answers : List Answer) (year d : ℕ) (v : Verdict) (n : ℕ) : Type 0 where
  pub before : List Answer
  pub rest : List Answer
  pub stands : answers ≡ before ++ answer.Day year d v ∷ rest
  pub kind : (v ≡ Ok (Measured n)) ⊎ (v ≡ Ok (Estimated n))

-- The day adds itself and its figure to the total of one month, and nothing to that of another. By the calendar it is a day of that month, and the
-- month is one of those that can have a line.
pub record CountsOnce (year d : ℕ) (v : Verdict) (n : ℕ) : Type 0 where
  pub month : ℕ
  pub calendar : InMonth year d month
  pub listed : (k : ℕ) × (k < months) × (year_at k ≡ year) × (month_at k ≡ month)
  pub its_own : share_of (is_month year month) (counted_of (answer.Day year d v)) ≡ one n
  pub no_other : (y m : ℕ) → ((y ≡ year) × (m ≡ month) → ⊥) → share_of (is_month y m) (counted_of (answer.Day year d v)) ≡ none

-- of a block: its totals stand in the report right behind the lines of its answers; each answered day is in one month's; and "the season line equals the
-- month lines added"
pub record BlockTotals (s : List ℕ) (code : Code) (answers : List Answer) : Type 0 where
  pub stand : (front back : List ℕ) × (lines_of (answers_to s) ≡ front ++ (answer_lines code answers ++ (about_block code answers ++ back)))
  pub once : (year d : ℕ) (v : Verdict) (n : ℕ) → AnsweredIn answers year d v n → CountsOnce year d v n
  pub season : together (month_total answers) months ≡ season_total answers

unfoldable pub TotalsOwed : List ℕ → Type 0
TotalsOwed s = (code : Code) (answers : List Answer) → BlockOf s code answers → BlockTotals s code answers
