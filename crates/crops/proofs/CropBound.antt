-- A crop's figure lies near the unrounded equation's value times the percentage: twice as far as the day's figure from the value, since no percentage is
-- over 200, and half a ten-thousandth of an inch for the one rounding. The theorems are `crop_within_proved`, at the sharper bound, and
-- `crop_within_bound`, at the demanded one. Assumes nothing.
use mathlib.Core.Path.{◌≡◌, refl, sym, ◌∙◌, ap}
use mathlib.Core.Bool.{false}
use Prim.Native.Nat.{ℕ, ◌*◌}
use native.Mathlib.Omega.{arith}
use lib.Dec.{T, lt→ltb}
use lib.IntN.{pos}
use lib.Signed.{◌<ℤ◌}
use Rattle.ratios.specs.Solver.{◌:-◌, ◌:*◌, :-◌, ◌:=◌}
use Rattle.ratios.specs.Ratios.{Ratio, ◌over◌, ◌+ᴿ◌, ◌*ᴿ◌}
use Rattle.numbers.proofs.RatioTests.{leᴿ}
use Rattle.numbers.specs.Fractions.{ℚ, fraction, from_ℤ, ◌/ℚ◌, ◌+ℚ◌, ◌*ℚ◌, -ℚ◌, inverse, ◌÷ℚ◌, ◌≤ℚ◌, ◌<ℚ◌, Near}
use Rattle.numbers.proofs.RoundingErrors.{nearest_error}
use Rattle.numbers.proofs.FractionSolver.{ring_ℚ, from_multiple_ℚ, ◌#◌, fraction_sum, fraction_product}
use Rattle.numbers.proofs.Order.{NonNeg, nonneg_mul, nonneg_ratio, gap, from_gap, ≤ℚ_ratio, ≤ℚ_eq, ≤ℚ_trans, *ℚ_mono}
use Rattle.numbers.proofs.WholeFractions.{nonneg_ℕ, from_ℤ_mul, from_ℕ_mono}
use Rattle.numbers.proofs.Inverse.{*ℚ_inverse, nonneg_inverse_of}
use Rattle.numbers.proofs.Bounds.{bounded_abs, bounded_weaken, bound_nonneg}
use Rattle.numbers.proofs.Near.{near, error, near_eq, near_trans, near_weaken, near_scale, near_abs}
use Rattle.numbers.proofs.Quotients.{from_ℤ_above, rounds_nearest}
use Rattle.day.specs.Bound.{Within, WithinBound}
use Rattle.day.proofs.DayBound.{proved_bound}
use Rattle.day.specs.declared.Day.{Day}
use Rattle.day.specs.declared.Earlier.{Earlier}
use Rattle.day.specs.declared.Station.{Station}
use Rattle.crops.specs.Crop.{bad_crop, L, above, crop_figure}
use Rattle.crops.specs.Bound.{percentage, CropWithin, CropWithinBound, proved_crop_bound}
use Rattle.crops.specs.declared.Crop.{Crop}
use Rattle.crops.proofs.Faultless.{Faultless, faultless, length_some, above_most}

module _ {c : Crop} (sound : Faultless c) (d : ℕ) where
  -- the percentage over 100
  abbrev portion : ℚ
  portion = percentage c d *ℚ 1 /ℚ 100

  length_above : from_ℤ (pos 0) <ℚ from_ℤ (pos (L c))
  length_above = from_ℤ_above (record { lt = lt→ltb 0 (L c) (length_some sound) })

  divisor_above : pos 0 <ℤ pos (100 * L c)
  divisor_above = record { lt = lt→ltb 0 (100 * L c) (omega (arith, length_some sound)) }

  portion_nonneg : NonNeg portion
  portion_nonneg = nonneg_mul (nonneg_mul (nonneg_ℕ (above c d)) (nonneg_inverse_of length_above)) (nonneg_ratio (1 over 100) tt)

  -- 2 - a/L/100 = (200 L - a)/L/100
  portion_most : portion ≤ℚ from_ℤ (pos 2)
  portion_most =
      let i = inverse (from_ℤ (pos (L c))) in
      from_gap
      (nonneg_mul (nonneg_mul (gap (from_ℕ_mono (above_most sound d))) (nonneg_inverse_of length_above)) (nonneg_ratio (1 over 100) tt))
      (from_multiple_ℚ (-ℚ (i *ℚ 1 /ℚ 100)) (from_ℤ_mul (pos 200) (pos (L c)))
      (from_multiple_ℚ (-ℚ from_ℤ (pos 2)) (*ℚ_inverse length_above)
      (ring_ℚ 4 (λ a w i t. 2 # 1 :- a :* i :* 1 # 100 :- (t :- a) :* i :* 1 # 100 :- :- (i :* 1 # 100) :* (t :- 200 # 1 :* w) := :- 2 # 1 :* (w :* i :- 1 # 1)) tt
      (from_ℤ (pos (above c d))) (from_ℤ (pos (L c))) i (from_ℤ (pos (200 * L c))))))

  module _ (n : ℕ) where
    -- n a/(100 L), which is rounded, is n times the portion
    quotient_is : from_ℤ (pos n) *ℚ portion ≡ from_ℤ (pos (n * above c d)) ÷ℚ from_ℤ (pos (100 * L c))
    quotient_is =
        let N = from_ℤ (pos n) in
        let a = from_ℤ (pos (above c d)) in
        let w = from_ℤ (pos (L c)) in
        let h = from_ℤ (pos (100 * L c)) in
        from_multiple_ℚ (-ℚ (N *ℚ a *ℚ inverse w *ℚ 1 /ℚ 100)) (*ℚ_inverse (from_ℤ_above divisor_above))
        (from_multiple_ℚ (N *ℚ a *ℚ inverse h) (*ℚ_inverse length_above)
        (from_multiple_ℚ (N *ℚ a *ℚ inverse w *ℚ inverse h *ℚ 1 /ℚ 100) (from_ℤ_mul (pos 100) (pos (L c)))
        (ring_ℚ 6 (λ n a w h i j. n :* (a :* i :* 1 # 100) :- n :* a :* j :- :- (n :* a :* i :* 1 # 100) :* (h :* j :- 1 # 1) :- n :* a :* j :* (w :* i :- 1 # 1) := n :* a :* i :* j :* 1 # 100 :* (h :- 100 # 1 :* w)) tt
        N a w h (inverse w) (inverse h))))
        ∙ ap (λ (t : ℚ). t *ℚ inverse h) (sym (from_ℤ_mul (pos n) (pos (above c d))))

    rounded_near : Near (from_ℤ (pos (crop_figure c d n))) (from_ℤ (pos n) *ℚ portion) (fraction nearest_error)
    unfolding crop_figure
    rounded_near = near_eq refl quotient_is (rounds_nearest (pos (n * above c d)) (pos (100 * L c)) divisor_above)

    -- m/10⁴ - v q = (m - n q)/10⁴ + (n/10⁴ - v) q
    figure_near : {v e : ℚ} → Near (from_ℤ (pos n) *ℚ 1 /ℚ 10000) v e →
        Near (from_ℤ (pos (crop_figure c d n)) *ℚ 1 /ℚ 10000) (v *ℚ portion) (1 /ℚ 20000 +ℚ from_ℤ (pos 2) *ℚ e)
    figure_near {v} h =
        near_trans
        (near_weaken
        (near_eq (ring_ℚ 1 (λ m. m :* 1 # 10000 := 1 # 10000 :* m) tt (from_ℤ (pos (crop_figure c d n))))
        (ring_ℚ 2 (λ n q. q :* (n :* 1 # 10000) := 1 # 10000 :* (n :* q)) tt (from_ℤ (pos n)) portion)
        (near_scale (1 /ℚ 10000) (nonneg_ratio (1 over 10000) tt) rounded_near))
        (≤ℚ_eq (ring_ℚ 0 (1 # 10000 :* 1 # 2 := 1 # 20000) tt)))
        (near_weaken
        (near_eq refl (ring_ℚ 2 (λ v q. v :* q := q :* v) tt v portion) (near_scale portion portion_nonneg h))
        (*ℚ_mono (bound_nonneg (error h)) portion_most))

-- from the day's bound e to the crop's bound f, where 2 e and half a ten-thousandth are at most f
pub crop_within : (e f : Ratio) → T (leᴿ ((1 over 20000) +ᴿ (2 over 1) *ᴿ e) f) → (c : Crop) → bad_crop c ≡ false →
    (st : Station) (x : Day) (earlier : Earlier) (n : ℕ) → Within (fraction e) st x earlier n → CropWithin (fraction f) st x earlier c (crop_figure c x.d n)
unfolding Within CropWithin
crop_within e f enough c good st x earlier n within α a1 aw bw P y hα ha1 haw hbw hP hy =
    ≤ℚ_trans
    (near_abs
    (figure_near (faultless c good) x.d n (near refl (bounded_weaken (bounded_abs _) (within α a1 aw bw P y hα ha1 haw hbw hP hy)))))
    (≤ℚ_trans (≤ℚ_eq (sym (fraction_sum (1 over 20000) ((2 over 1) *ᴿ e) ∙ ap (λ (t : ℚ). 1 /ℚ 20000 +ℚ t) (fraction_product (2 over 1) e))))
    (≤ℚ_ratio ((1 over 20000) +ᴿ (2 over 1) *ᴿ e) f enough))

pub crop_within_proved : (c : Crop) → bad_crop c ≡ false → (st : Station) (x : Day) (earlier : Earlier) (n : ℕ) →
    Within proved_bound st x earlier n → CropWithin proved_crop_bound st x earlier c (crop_figure c x.d n)
crop_within_proved = crop_within _ _ tt

pub crop_within_bound : (c : Crop) → bad_crop c ≡ false → (st : Station) (x : Day) (earlier : Earlier) (n : ℕ) →
    WithinBound st x earlier n → CropWithinBound st x earlier c (crop_figure c x.d n)
unfolding WithinBound CropWithinBound
crop_within_bound = crop_within _ _ tt
