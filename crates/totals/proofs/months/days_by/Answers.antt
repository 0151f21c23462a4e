-- `totals::months::days_by` meets its contract. Assumes nothing.
use native.Mathlib.Omega.{arith}
use borrow.Author.Tests.{lt-ltb, le-ltb}
use Rattle.day.proofs.Dates.{year_length_in}
use Rattle.totals.specs.Months.{days_by}
use Rattle.totals.proofs.months.days_by.Goals as goal

pub returns-then-i-lt2 : goal.returns-then-i-lt2
unfolding days_by
returns-then-i-lt2 c = simp (c.from.ensures, lt-ltb c.args.i 2 (omega arith)) (omega arith)

pub overflow_sub-result : goal.overflow_sub-result
overflow_sub-result c = omega (arith, c.year_length.ensures, year_length_in c.args.year)

pub returns : goal.returns
unfolding days_by
returns c = simp (c.from.ensures, le-ltb c.args.i 2 (omega arith), c.year_length.ensures)
