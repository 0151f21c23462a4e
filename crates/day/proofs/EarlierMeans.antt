-- The earlier means that are present, as the sheet takes them: three at the most, each a temperature in range. Assumes nothing.
use mathlib.Core.Path.{◌≡◌}
use mathlib.Core.Bool.{false}
use mathlib.Core.List.{List, []}
use Prim.Native.Nat.{ℕ, suc, ◌≤◌, zero-le, suc-le-suc}
use native.Mathlib.Omega.{arith}
use lib.IntN.{ℤ}
use lib.ListN.{length}
use Rattle.std.specs.Prelude.{Option, Some, None}
use Rattle.sheet.specs.Quantities as quantities
use Rattle.equation.proofs.FigureNear.{AllTemperatures, none, more}
use Rattle.day.specs.Rules.{mean_fault}
use Rattle.day.specs.Judgement.{with_mean, means_of, holds}
use Rattle.day.specs.declared.Station.{Station}
use Rattle.day.specs.declared.Day.{Day}
use Rattle.day.specs.declared.Earlier.{Earlier}
use Rattle.day.specs.declared.Refusal.TheVariants.{OutOfRange}
use Rattle.day.proofs.Tests.{passed}
use Rattle.day.proofs.Passed as passed-tests

with_mean_lem : (m : Option ℤ) {fs : List ℤ} → mean_fault m ≡ false → AllTemperatures fs → AllTemperatures (with_mean m fs)
with_mean_lem (Some f) e all = more (passed quantities.temperature e) all
with_mean_lem None e all = all

one_more : (m : Option ℤ) (fs : List ℤ) (n : ℕ) → length fs ≤ n → length (with_mean m fs) ≤ suc n
one_more (Some f) fs n h = suc-le-suc h
one_more None fs n h = omega arith

pub few_means : (earlier : Earlier) → length (means_of earlier) ≤ 3
unfolding means_of
few_means earlier = one_more earlier.one _ 2 (one_more earlier.two _ 1 (one_more earlier.three [] 0 zero-le))

pub all_temperatures : (st : Station) (day : Day) (earlier : Earlier) → holds OutOfRange st day earlier ≡ false → AllTemperatures (means_of earlier)
unfolding means_of
all_temperatures st day earlier h =
    with_mean_lem earlier.one (passed-tests.one_passed st day earlier h)
    (with_mean_lem earlier.two (passed-tests.two_passed st day earlier h) (with_mean_lem earlier.three (passed-tests.three_passed st day earlier h) none))
