-- The whole sheet against the whole equation, for numbers in range: the figure lies within 5.15/100,000 of an inch of the equation's value. What the
-- entries stand for, and x, are any fractions of the enclosures. The theorem is `sheet_rounded`. Assumes nothing.
use mathlib.Core.Path.{◌≡◌, ap}
use mathlib.Core.Bool.{false}
use mathlib.Core.List.{List, map}
use Prim.Native.Nat.{ℕ, ◌≤◌}
use lib.IntN.{ℤ, pos, ◌*ℤ◌}
use lib.ListN.{length}
use lib.Signed.{◌≤ℤ◌}
use Rattle.ratios.specs.Ratios.{◌over◌}
use Rattle.numbers.specs.Fractions.{ℚ, from_ℤ, ◌/ℚ◌, ◌+ℚ◌, ◌-ℚ◌, ◌*ℚ◌, ◌≤ℚ◌, ◌<ℚ◌, at_least_ℚ}
use Rattle.numbers.specs.Rounding.{RootOf}
use Rattle.numbers.proofs.Order.{NonNeg, nonneg_ratio, <ℚ_ratio, <ℚ-≤ℚ_trans}
use Rattle.numbers.proofs.Bounds.{Bounded, bounded_mul, bounded_scale}
use Rattle.numbers.proofs.Near.{error}
use Rattle.numbers.proofs.Rounded.{Rounded, of_value}
use Rattle.numbers.proofs.RoundedRoot.{root_nonneg}
use Rattle.sheet.specs.declared.Readings.{Readings}
use Rattle.sheet.specs.declared.Entries.{Entries}
use Rattle.sheet.specs.StepSheet.{sum_of}
use Rattle.sheet.specs.StepSheet as sheet
use Rattle.equation.specs.Equation as equation
use Rattle.equation.proofs.FigureNear.{AllTemperatures, bound}
use Rattle.equation.specs.Equation.{tenths}
use Rattle.equation.proofs.Units.{billionths}
use Rattle.equation.proofs.Ends.{IsTemperature, IsLimit}
use Rattle.equation.proofs.TemperatureBound.{nonneg_above, product_at_least, e_rounded, e_low, e_high, e_rises, Δ_low, M_rounded, L_low, fourth_power_rounded}
use Rattle.equation.proofs.WeightsBound.{mean_error, W_nonneg, rest_nonneg, sum_low, sum_above, W}
use Rattle.equation.proofs.CloudBound.{R_rounded, K_rounded}
use Rattle.equation.proofs.RadiationBound.{B_rounded, r_rounded, emittance_rounded, Rb_rounded, Rn_rounded}
use Rattle.equation.proofs.SoilBound.{soil_rounded}
use Rattle.equation.proofs.WindBound.{u_rounded, Wf_rounded, V_rounded, V_bounded, T_rounded}
use Rattle.equation.proofs.FigureBound.{H_rounded, apart, A_rounded, figure_rounded, weighed}

module _ (x : Readings) (t : Entries)
    (maximum : IsTemperature x.maximum) (minimum : IsTemperature x.minimum) (mean : IsTemperature x.mean) (dewpoint : IsTemperature x.dewpoint)
    (minimum_mean : x.minimum ≤ℤ x.mean) (dewpoint_maximum : x.dewpoint ≤ℤ x.maximum)
    (s-low : pos 0 ≤ℤ x.radiation) (s-high : x.radiation ≤ℤ pos 12000) (w-low : pos 0 ≤ℤ x.wind) (w-high : x.wind ≤ℤ pos 9999)
    (limit : ℤ) (is-limit : IsLimit limit)
    (fs : List ℤ) (all : AllTemperatures fs) (few : length fs ≤ 3)
    (q : ℤ) (C : ℚ) (hC : Rounded q billionths C (3000000 over 1) (0 over 1)) (C_low : 50 /ℚ 1 ≤ℚ C) (accepted : sheet.above_twice_clear x.radiation q ≡ false)
    (α a1 aw bw P : ℚ) (hα : Rounded t.albedo billionths α (36 over 100) (1 over 2000000000)) (ha1 : Rounded t.a1 billionths a1 (361 over 1000) (1 over 2000000000))
    (haw : Rounded t.aw billionths aw (1801 over 1000) (1 over 2000000000)) (hbw : Rounded t.bw billionths bw (111 over 10000) (1 over 2000000000))
    (α-low : 22 /ℚ 100 ≤ℚ α) (a1-low : 25 /ℚ 100 ≤ℚ a1) (hP : Rounded t.p (1 over 10000) P (102 over 1) (1 over 20000)) (P-low : 6999 /ℚ 100 ≤ℚ P)
    (root : ℚ) (hx : RootOf (1 /ℚ 100000000) (equation.e (tenths x.dewpoint)) root) (n : ℕ) (is : pos 10000000 *ℤ sheet.e x.dewpoint ≡ pos n) where
  abbrev Δ : ℚ
  Δ = equation.Δ (tenths x.mean)

  abbrev L : ℚ
  L = equation.L (tenths x.mean)

  abbrev γ : ℚ
  γ = equation.γ P (equation.L (tenths x.mean))

  -- the letters of the equation
  abbrev Rn : ℚ
  Rn =
      equation.Rn α (tenths x.radiation) a1 root (equation.B (tenths x.maximum) (tenths x.minimum)) (equation.K (tenths x.radiation) C)

  abbrev G : ℚ
  G = equation.G (tenths x.mean) (map tenths fs)

  abbrev T' : ℚ
  T' =
      equation.T aw bw (equation.u (tenths limit) (tenths x.wind)) (equation.e (tenths x.maximum)) (equation.e (tenths x.minimum)) (equation.e (tenths x.dewpoint))

  heat_rounded : Rounded (sheet.heat x t (record { k = pos (length fs); z = sum_of fs }) q) (1 over 10000000) (Rn -ℚ G) (1165 over 10) (46 over 10000000)
  unfolding sheet.heat equation.Rn
  heat_rounded =
      H_rounded
      (Rn_rounded α-low hα (R_rounded x.radiation s-low s-high q C hC C_low accepted)
      (Rb_rounded
      (emittance_rounded (root_nonneg (nonneg_ratio (1 over 100000000) tt) hx) a1-low (r_rounded (e_rounded x.dewpoint dewpoint.low dewpoint.high) (e_low x.dewpoint dewpoint.low dewpoint.high) hx n is) ha1)
      (B_rounded x.maximum x.minimum (fourth_power_rounded x.maximum maximum.low maximum.high) (fourth_power_rounded x.minimum minimum.low minimum.high))
      (K_rounded x.radiation s-low s-high q C hC C_low accepted)))
      (soil_rounded x.mean mean.low mean.high fs all few)

  drying_rounded : Rounded (sheet.drying x t limit) (1 over 10000000) T' (440 over 1) (196 over 10000000)
  unfolding sheet.drying equation.T
  drying_rounded =
      T_rounded
      (V_rounded (e_rounded x.maximum maximum.low maximum.high) (e_rounded x.minimum minimum.low minimum.high) (e_rounded x.dewpoint dewpoint.low dewpoint.high)
      (e_low x.maximum maximum.low maximum.high) (e_low x.minimum minimum.low minimum.high) (e_low x.dewpoint dewpoint.low dewpoint.high))
      (Wf_rounded haw hbw (u_rounded is-limit x.wind w-low w-high))

  Δ_nonneg : NonNeg Δ
  Δ_nonneg = nonneg_above (nonneg_ratio (84 over 10000) tt) (Δ_low x.mean mean.low mean.high)

  -- how large the drying term is at the mean's slope
  drying_bounded : Bounded T' (643 /ℚ 100 *ℚ 45 /ℚ 10 *ℚ (76 /ℚ 10 +ℚ 1021 /ℚ 100 *ℚ Δ))
  unfolding equation.T
  drying_bounded =
      bounded_mul (bounded_scale (643 /ℚ 100) (nonneg_ratio (643 over 100) tt) (Wf_rounded haw hbw (u_rounded is-limit x.wind w-low w-high)).size)
      (V_bounded (e_rounded x.maximum maximum.low maximum.high).size.high (e_rounded x.dewpoint dewpoint.low dewpoint.high).size.high
      (e_low x.minimum minimum.low minimum.high) (e_low x.dewpoint dewpoint.low dewpoint.high) Δ_nonneg
      (e_rises x.minimum x.mean minimum.low minimum.high mean.low mean.high minimum_mean) (e_high x.mean mean.low mean.high)
      (e_rises x.dewpoint x.maximum dewpoint.low dewpoint.high maximum.low maximum.high dewpoint_maximum))

  L_above : from_ℤ (pos 0) <ℚ L
  L_above = <ℚ-≤ℚ_trans (<ℚ_ratio (23735 over 10000) tt) (L_low x.mean mean.low mean.high)

  both_above : from_ℤ (pos 0) <ℚ (Δ +ℚ γ) *ℚ L
  both_above =
      <ℚ-≤ℚ_trans (<ℚ_ratio (1 over 10) tt)
      (product_at_least (526 over 10000) (23735 over 10000) (1 over 10) tt tt tt (sum_low x.mean mean.low mean.high t.p P hP P-low) (L_low x.mean mean.low mean.high))

  pub sheet_rounded : Rounded (sheet.figure x t (record { k = pos (length fs); z = sum_of fs }) q limit) (1 over 10000) (equation.inches Δ γ L Rn G T') (8 over 1) bound
  unfolding sheet.figure sheet.w2 equation.inches W
  sheet_rounded =
      of_value (ap (λ (v : ℚ). at_least_ℚ (0 /ℚ 1) v) (weighed Δ γ L (Rn -ℚ G) T' (sum_above x.mean mean.low mean.high t.p P hP P-low) L_above both_above))
      (figure_rounded
      (A_rounded heat_rounded drying_rounded _ (W_nonneg x.mean mean.low mean.high t.p P hP P-low) (rest_nonneg x.mean mean.low mean.high t.p P hP P-low)
      (mean_error x.mean mean.low mean.high t.p P hP P-low (error heat_rounded.near) (error drying_rounded.near) (apart heat_rounded drying_rounded Δ_nonneg drying_bounded)))
      (M_rounded x.mean mean.low mean.high) (L_low x.mean mean.low mean.high))
