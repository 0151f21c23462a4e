-- The loop of `totals::months::month_of`. The invariant: the search goes on from i. Assumes nothing.
use mathlib.Core.Path.{◌≡◌}
use Prim.Native.Nat.{ℕ, ◌-◌}
use lib.Dec.{leb}
use Rattle.tables.specs.Values.{first}
use Rattle.totals.specs.Months.{days_by, month_of}
use Rattle.totals.proofs.months.month_of.Given as goal

-- the search for the month of day d, from i on
abbrev pub from : ℕ → ℕ → ℕ → ℕ
from year d i = first (λ (k : ℕ). leb d (days_by year k)) (13 - i) i

abbrev pub invariant-loop-i : goal.invariant-loop-i
invariant-loop-i l = from l.year l.d l.i ≡ month_of l.year l.d
