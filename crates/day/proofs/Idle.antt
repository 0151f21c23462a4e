-- Idle judges of days that demand 3 stops by itself ("Which idle programs must be caught?" in document 01): one that refuses every day, and one that
-- gives 0 for every day. The equation has a value of every answered day (`one_value`), so that two figures within the bound of one day are near each other
-- (`two_figures`), and one that is two units off is beyond it (`not_two_off`). Assumes nothing.
use mathlib.Core.Path.{◌≡◌, refl, sym, ◌∙◌, ap, subst}
use Prim.Native.Nat.{ℕ}
use native.Mathlib.Omega.{arith}
use lib.IntN.{pos}
use Rattle.std.specs.Prelude.{Ok, Err}
use Rattle.ratios.specs.Ratios.{◌over◌}
use Rattle.numbers.specs.Fractions.{ℚ, from_ℤ, ◌/ℚ◌, ◌+ℚ◌, ◌-ℚ◌, -ℚ◌, ◌*ℚ◌, ◌≤ℚ◌, abs_ℚ, nonneg, Near}
use Rattle.numbers.proofs.Bounds.{bounded_abs, bounded_weaken}
use Rattle.numbers.proofs.Near.{near, near_trans, near_sym}
use Rattle.equation.proofs.Ends.{temperature_ends}
use Rattle.equation.proofs.FigureLimit.{half_unit_self, vapour_root}
use Rattle.day.specs.Bound.{OfEveryValue, Within, WithinBound, SignedConstants, FigureOwed, JudgesWithinBound}
use Rattle.day.specs.Judgement.{readings_of, Answered, as_judged, with_mark, Verdict}
use Rattle.day.specs.declared.Station.{Station}
use Rattle.day.specs.declared.Day.{Day}
use Rattle.day.specs.declared.Earlier.{Earlier}
use Rattle.day.specs.declared.Refusal.{Refusal}
use Rattle.day.specs.declared.Figure.TheVariants.{Measured, Estimated}
use Rattle.day.proofs.DayBound.{accepted}
use Rattle.day.proofs.Examples.{station, constants, summer_day, summer_means, days}
use Rattle.day.proofs.Marks.{either_way}

-- n ten-thousandths of an inch
abbrev pub inches : ℕ → ℚ
inches n = from_ℤ (pos n) *ℚ 1 /ℚ 10000

pub near_of : (y v : ℚ) {ε : ℚ} → abs_ℚ (y -ℚ v) ≤ℚ ε → Near y v ε
near_of y v h = near refl (bounded_weaken (bounded_abs (y -ℚ v)) h)

-- an answered day has a value: each entry may stand for itself, and there is a root
pub one_value : (st : Station) (x : Day) (earlier : Earlier) → SignedConstants st → Answered st x earlier → (Holds : ℚ → Type 0)
    → OfEveryValue st x earlier Holds → (v : ℚ) × Holds v
unfolding readings_of
one_value st x earlier signed answered Holds every =
    let root = vapour_root x.dewpoint (temperature_ends (accepted st x earlier signed answered).readings.dewpoint) in (
      _,
      every _ _ _ _ _ root.0 (half_unit_self (1 over 1000000000) tt _) (half_unit_self (1 over 1000000000) tt _)
          (half_unit_self (1 over 1000000000) tt _) (half_unit_self (1 over 1000000000) tt _) (half_unit_self (1 over 10000) tt _) root.1,
    )

pub two_figures : (st : Station) (x : Day) (earlier : Earlier) → SignedConstants st → Answered st x earlier → (n m : ℕ)
    → WithinBound st x earlier n → WithinBound st x earlier m → Near (inches n) (inches m) (6 /ℚ 100000 +ℚ 6 /ℚ 100000)
unfolding WithinBound Within
two_figures st x earlier signed answered n m a b =
    let both = one_value st x earlier signed answered (λ v. (abs_ℚ (inches n -ℚ v) ≤ℚ 6 /ℚ 100000) × (abs_ℚ (inches m -ℚ v) ≤ℚ 6 /ℚ 100000))
    (λ α a1 aw bw P y hα ha1 haw hbw hP hy. (a α a1 aw bw P y hα ha1 haw hbw hP hy, b α a1 aw bw P y hα ha1 haw hbw hP hy)) in
    near_trans (near_of (inches n) _ both.1.0) (near_sym (near_of (inches m) _ both.1.1))

-- 1 for a figure, 0 for a refusal; and the figure
abbrev figured : Verdict → ℕ
figured (Ok (Measured n)) = 1
figured (Ok (Estimated n)) = 1
figured (Err r) = 0

abbrev figure_in : Verdict → ℕ
figure_in (Ok (Measured n)) = n
figure_in (Ok (Estimated n)) = n
figure_in (Err r) = 0

-- 0 and 0.3518 inch are not that near
pub apart : Near (inches 0) (inches 3_518) (6 /ℚ 100000 +ℚ 6 /ℚ 100000) → ⊥
unfolding ◌*ℚ◌ ◌+ℚ◌ -ℚ◌ nonneg
apart h = absurd h.low.le

-- nor are 0.3520 and 0.3518 inch: a figure that is two units from the right one is beyond the bound. With one of 10/100,000 or more it would not be.
two_apart : Near (inches 3_520) (inches 3_518) (6 /ℚ 100000 +ℚ 6 /ℚ 100000) → ⊥
unfolding ◌*ℚ◌ ◌+ℚ◌ -ℚ◌ nonneg
two_apart h = absurd h.high.le

pub not_two_off : WithinBound station (as_judged summer_day) summer_means 3_520 → ⊥
not_two_off w = two_apart (two_figures station (as_judged summer_day) summer_means constants days.1.answered 3_520 3_518 w days.1.bound)

module _ (judge : Station → Day → Earlier → Verdict) (met : JudgesWithinBound judge) where
  owed : (n : ℕ) × (judge station summer_day summer_means ≡ Ok (with_mark summer_day n)) × WithinBound station (as_judged summer_day) summer_means n
  unfolding JudgesWithinBound FigureOwed
  owed = met station summer_day summer_means constants days.1.answered

  -- "One refusing all days"
  pub not_all_refused : (r : Refusal) → judge station summer_day summer_means ≡ Err r → ⊥
  not_all_refused r says =
      let marked : figured (Ok (with_mark summer_day owed.0)) ≡ 1 = either_way (λ f. figured (Ok f) ≡ 1) summer_day refl refl in
      let one : ◌≡◌ {A = ℕ} 0 1 = ap figured (sym says) ∙ ap figured owed.1 ∙ marked in absurd (omega (arith, one))

  -- "one printing 0 for all"
  pub not_all_zero : judge station summer_day summer_means ≡ Ok (Measured 0) → ⊥
  not_all_zero says =
      let marked : figure_in (Ok (with_mark summer_day owed.0)) ≡ owed.0 = either_way (λ f. figure_in (Ok f) ≡ owed.0) summer_day refl refl in
      let zero_is : owed.0 ≡ 0 = sym (ap figure_in (sym says) ∙ ap figure_in owed.1 ∙ marked) in
      apart (two_figures station (as_judged summer_day) summer_means constants days.1.answered 0 3_518
      (subst (WithinBound station (as_judged summer_day) summer_means) zero_is owed.2) days.1.bound)
