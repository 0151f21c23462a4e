-- `totals::months::month_of` meets its contract. Assumes nothing.
use mathlib.Core.Path.{◌≡◌, refl, sym, ◌∙◌}
use Prim.Native.Nat.{ℕ, suc, ◌+◌, ◌-◌, ◌≤◌, ◌<◌}
use native.Mathlib.Numerals.{add-one}
use native.Mathlib.Omega.{arith}
use borrow.Author.Tests.{le-leb, lt-leb}
use Rattle.tables.specs.Values.{first}
use Rattle.totals.specs.Months.{days_by, month_of}
use Rattle.totals.proofs.months.month_of.Invariants.{from}
use Rattle.totals.proofs.months.month_of.Goals as goal

module _ (year d i : ℕ) (inside : i < 13) where
  left : 13 - i ≡ suc (13 - (i + 1))
  left = omega arith

  goes_on : days_by year i < d → from year d i ≡ from year d (i + 1)
  unfolding first
  goes_on h = rw (left, lt-leb d (days_by year i) h, add-one)

  ends : d ≤ days_by year i → from year d i ≡ i
  unfolding first
  ends h = rw (left, le-leb d (days_by year i) h)

pub loop-i-init : goal.loop-i-init
unfolding month_of
loop-i-init c = refl

pub loop-i-preserved : goal.loop-i-preserved
loop-i-preserved c = sym (goes_on c.args.year c.args.d c.loop-i.i c.loop-i-test.true (omega arith)) ∙ c.loop-i.invariant

pub returns-then-d-days_by : goal.returns-then-d-days_by
returns-then-d-days_by c = sym (ends c.args.year c.args.d c.loop-i.i c.loop-i-test.true (omega arith)) ∙ c.loop-i.invariant

pub returns : goal.returns
unfolding first
returns c =
    let e : c.loop-i.i ≡ 13 = omega arith in
    rw e at c.loop-i.invariant
