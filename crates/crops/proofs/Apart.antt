-- A crop's figure that is four units from the right one is beyond the bound of 1.7 units, so that one of 2 units or more would be refused
-- (`not_four_off`): two figures within the bound of one answered day are within 3.4 units of each other (`two_crop_figures`). Assumes nothing.
use mathlib.Core.Bool.{false}
use mathlib.Core.Path.{◌≡◌, refl, subst}
use Prim.Native.Nat.{ℕ}
use Rattle.numbers.specs.Fractions.{◌/ℚ◌, ◌+ℚ◌, ◌-ℚ◌, -ℚ◌, ◌*ℚ◌, ◌≤ℚ◌, abs_ℚ, nonneg, Near}
use Rattle.numbers.proofs.Near.{near_trans, near_sym}
use Rattle.day.specs.Bound.{SignedConstants}
use Rattle.day.specs.Judgement.{Answered, as_judged}
use Rattle.day.specs.declared.Day.{Day}
use Rattle.day.specs.declared.Earlier.{Earlier}
use Rattle.day.specs.declared.Station.{Station}
use Rattle.day.proofs.Examples.{station, constants, summer_day, summer_means, days}
use Rattle.day.proofs.Idle.{inches, near_of, one_value}
use Rattle.crops.specs.Bound.{percentage, CropWithin, CropWithinBound}
use Rattle.crops.specs.Crop.{bad_crop, above, crop_figure}
use Rattle.crops.specs.declared.Crop.{Crop}
use Rattle.crops.proofs.CropBound.{crop_within_bound}
use Rattle.crops.proofs.Examples.{beans}

pub two_crop_figures : (st : Station) (x : Day) (earlier : Earlier) → SignedConstants st → Answered st x earlier → (c : Crop) (n m : ℕ)
    → CropWithinBound st x earlier c n → CropWithinBound st x earlier c m → Near (inches n) (inches m) (17 /ℚ 100000 +ℚ 17 /ℚ 100000)
unfolding CropWithinBound CropWithin
two_crop_figures st x earlier signed answered c n m a b =
    let both = one_value st x earlier signed answered
    (λ v. (abs_ℚ (inches n -ℚ v *ℚ (percentage c x.d *ℚ 1 /ℚ 100)) ≤ℚ 17 /ℚ 100000)
    × (abs_ℚ (inches m -ℚ v *ℚ (percentage c x.d *ℚ 1 /ℚ 100)) ≤ℚ 17 /ℚ 100000))
    (λ α a1 aw bw P y hα ha1 haw hbw hP hy. (a α a1 aw bw P y hα ha1 haw hbw hP hy, b α a1 aw bw P y hα ha1 haw hbw hP hy)) in
    near_trans (near_of (inches n) _ both.1.0) (near_sym (near_of (inches m) _ both.1.1))

faultless : bad_crop beans ≡ false
unfolding bad_crop
faultless = refl

-- on day 180 the beans have 45 per cent of the summer day's 3,518
its_figure : crop_figure beans 180 3_518 ≡ 1_583
unfolding crop_figure above
its_figure = refl

four_apart : Near (inches 1_587) (inches 1_583) (17 /ℚ 100000 +ℚ 17 /ℚ 100000) → ⊥
unfolding ◌*ℚ◌ ◌+ℚ◌ -ℚ◌ nonneg
four_apart h = absurd h.high.le

pub not_four_off : CropWithinBound station (as_judged summer_day) summer_means beans 1_587 → ⊥
unfolding as_judged
not_four_off w =
    four_apart
    (two_crop_figures station (as_judged summer_day) summer_means constants days.1.answered beans 1_587 1_583 w
    (subst (CropWithinBound station (as_judged summer_day) summer_means beans) its_figure
    (crop_within_bound beans faultless station (as_judged summer_day) summer_means 3_518 days.1.bound)))
