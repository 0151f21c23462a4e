-- The totals of a block's answers, by the month and for the season, by document 02, W5. Assumes nothing.
use Rattle.std.specs.Prelude.{Option, Some, None, Bool, true, cond, ◌&&◌, List, [], ◌∷◌, ◌++◌, ℕ, zero, suc, ◌+◌, eqb, Ok, Err}
use Rattle.answers.specs.Answers.{Role, opens, of_day, beside, role_of}
use Rattle.answers.specs.declared.Answer.{Answer}
use Rattle.day.specs.declared.Figure.TheVariants.{Measured, Estimated}
use Rattle.totals.specs.Months.{year_at, month_at, month_of}
use Rattle.totals.specs.declared.tally.Counted.{Counted}
use Rattle.totals.specs.declared.tally.Total.{Total}

-- a day, with its figure, of a month: "the figures in the block's kind 3 and 9 answers"; "Kind 4 answers add nothing", nor do the others
abbrev pub counted_in : Role → Option Counted
counted_in (opens code) = None
counted_in (of_day year d (Ok (Measured n))) = Some (record { year = year; month = month_of year d; n = n })
counted_in (of_day year d (Ok (Estimated n))) = Some (record { year = year; month = month_of year d; n = n })
counted_in (of_day year d (Err r)) = None
counted_in beside = None

abbrev pub counted_of : Answer → Option Counted
counted_of a = counted_in (role_of a)

-- days answered, and the sum of their figures: of none, of one, and of two totals together
abbrev pub none : Total
none = record { days = 0; sum = 0 }

abbrev pub one : ℕ → Total
one n = record { days = 1; sum = n }

abbrev pub plus : Total → Total → Total
plus t u = record { days = t.days + u.days; sum = t.sum + u.sum }

-- what is counted of the months that are chosen, of an answer and of a block's answers
abbrev pub share_of : (ℕ → ℕ → Bool) → Option Counted → Total
share_of chosen None = none
share_of chosen (Some c) = cond (chosen c.year c.month) (one c.n) none

abbrev pub total_of : (ℕ → ℕ → Bool) → List Answer → Total
total_of chosen [] = none
total_of chosen (a ∷ rest) = plus (share_of chosen (counted_of a)) (total_of chosen rest)

-- of one month: "the sum of the figures in the block's kind 3 and 9 answers for that month"
abbrev pub is_month : ℕ → ℕ → ℕ → ℕ → Bool
is_month year month y m = eqb y year && eqb m month

abbrev pub month_total : List Answer → ℕ → ℕ → Total
month_total answers year month = total_of (is_month year month) answers

-- of all: "the days answered in the whole block and the sum"
abbrev pub season_total : List Answer → Total
season_total answers = total_of (λ year month. true) answers

-- "Month lines stand in date order": what is said of each of the first k months and its total, one after another
unfoldable pub each_month : (ℕ → ℕ → Total → List ℕ) → (ℕ → ℕ → Total) → ℕ → List ℕ
each_month line total zero = []
each_month line total (suc k) = each_month line total k ++ line (year_at k) (month_at k) (total (year_at k) (month_at k))
