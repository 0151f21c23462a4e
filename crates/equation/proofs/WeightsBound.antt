-- The psychrometric constant g of the sheet against γ, and its weight w1 against W = Δ/(Δ + γ), as the difference counts in the end: times the heat
-- less the drying term. Assumes nothing.
use mathlib.Core.Path.{◌≡◌, refl, sym, ◌∙◌, ap, ap₂}
use lib.IntN.{ℤ, pos, negsuc, ◌+ℤ◌, ◌*ℤ◌}
use lib.Signed.{◌≤ℤ◌}
use Rattle.ratios.specs.Solver.{◌:+◌, ◌:-◌, ◌:*◌, ◌:=◌}
use Rattle.ratios.specs.Ratios.{◌over◌, ◌+ᴿ◌, ◌*ᴿ◌, inverseᴿ}
use Rattle.numbers.specs.Fractions.{ℚ, from_ℤ, ◌/ℚ◌, ◌+ℚ◌, ◌-ℚ◌, ◌*ℚ◌, inverse, ◌÷ℚ◌, ◌≤ℚ◌, ◌<ℚ◌, Near}
use Rattle.numbers.proofs.RoundingErrors.{down_error}
use Rattle.numbers.proofs.FractionSolver.{ring_ℚ, from_multiple_ℚ, ◌#◌, fraction_sum, fraction_product}
use Rattle.numbers.proofs.Order.{NonNeg, nonneg_add, nonneg_mul, nonneg_square, nonneg_ratio, gap, from_gap, ≤ℚ_ratio, <ℚ_ratio, ≤ℚ_eq, ≤ℚ_trans, <ℚ-≤ℚ_trans, +ℚ_mono}
use Rattle.numbers.proofs.WholeFractions.{from_ℤ_add, from_ℤ_mul}
use Rattle.numbers.proofs.Inverse.{*ℚ_inverse, fraction_inverse, nonneg_inverse, quotient_at_least}
use Rattle.numbers.proofs.Bounds.{Bounded, above, bounded, bounded_eq, bounded_weaken, bounded_add, bounded_mul, bounded_scale, bounded_part}
use Rattle.numbers.proofs.Near.{error, near_eq, near_weaken, near_add, part_error}
use Rattle.numbers.proofs.Quotients.{rounds_down}
use Rattle.numbers.proofs.Rounded.{Rounded, weaken, of_value, sum, multiple, scaled, at_least}
use Rattle.numbers.proofs.RoundedQuotient.{quotient_near, plain_quotient}
use Rattle.sheet.specs.StepSheet as sheet
use Rattle.equation.specs.Equation as equation
use Rattle.equation.specs.Equation.{tenths}
use Rattle.equation.proofs.Units.{billionths}
use Rattle.equation.proofs.TemperatureBound.{nonneg_above, D_rounded, M_rounded, Δ_low, L_low, L_high}

module _ (m : ℤ) (lo : negsuc 93 ≤ℤ m) (hi : m ≤ℤ pos 1291) (p : ℤ) (P : ℚ) (hP : Rounded p (1 over 10000) P (102 over 1) (1 over 20000)) (P-low : 6999 /ℚ 100 ≤ℚ P) where
  L : ℚ
  L = equation.L (tenths m)

  Δ : ℚ
  Δ = equation.Δ (tenths m)

  γ : ℚ
  γ = equation.γ P (equation.L (tenths m))

  -- ---- g, against 0.001005 P / (0.622 L)

  divisor_low : 1476 /ℚ 1000 ≤ℚ 622 /ℚ 1000 *ℚ equation.L (tenths m)
  divisor_low =
      from_gap (nonneg_add (nonneg_mul (nonneg_ratio (622 over 1000) tt) (gap (L_low m lo hi))) (nonneg_ratio (317 over 1000000) tt))
      (ring_ℚ 1 (λ l. 622 # 1000 :* l :- 1476 # 1000 := 622 # 1000 :* (l :- 23735 # 10000) :+ 317 # 1000000) tt (equation.L (tenths m)))

  divisor : Rounded (pos 622 *ℤ sheet.M m) (1 over 6000000000) (622 /ℚ 1000 *ℚ equation.L (tenths m)) (17 over 10) (0 over 1)
  divisor =
      of_value (ring_ℚ 1 (λ l. 1 # 1000 :* (622 # 1 :* l) := 622 # 1000 :* l) tt (equation.L (tenths m)))
      (weaken tt tt tt (scaled (1 over 1000) tt (multiple 622 (M_rounded m lo hi))))

  dividend : Rounded (pos 603000000000 *ℤ p) (1 over 6000000000000000000) (1005 /ℚ 1000000 *ℚ P) (103 over 1000) (5025 over 100000000000)
  dividend =
      of_value (ring_ℚ 1 (λ p. 1 # 600000000000000 :* (603000000000 # 1 :* p) := 1005 # 1000000 :* p) tt P)
      (weaken tt tt tt (scaled (1 over 600000000000000) tt (multiple 603000000000 hP)))

  pub g_rounded : Rounded (sheet.g p (sheet.M m)) billionths (equation.γ P (equation.L (tenths m))) (7 over 100) (351 over 10000000000)
  unfolding sheet.g equation.γ
  g_rounded = weaken tt tt tt (plain_quotient rounds_down billionths (1476 over 1000) tt tt tt tt divisor_low dividend divisor)

  pub γ_low : 442 /ℚ 10000 ≤ℚ equation.γ P (equation.L (tenths m))
  unfolding equation.γ
  γ_low =
      ≤ℚ_trans
      (≤ℚ_trans (≤ℚ_ratio (442 over 10000) ((7033 over 100000) *ᴿ inverseᴿ (159 over 100)) tt)
      (≤ℚ_eq (fraction_product (7033 over 100000) (inverseᴿ (159 over 100)) ∙ ap (λ (t : ℚ). 7033 /ℚ 100000 *ℚ t) (sym (fraction_inverse (159 over 100))))))
      (quotient_at_least (nonneg_ratio (7033 over 100000) tt) (<ℚ-≤ℚ_trans (<ℚ_ratio (1476 over 1000) tt) divisor_low)
      (from_gap (nonneg_add (nonneg_mul (nonneg_ratio (1005 over 1000000) tt) (gap P-low)) (nonneg_ratio (995 over 100000000) tt))
      (ring_ℚ 1 (λ p. 1005 # 1000000 :* p :- 7033 # 100000 := 1005 # 1000000 :* (p :- 6999 # 100) :+ 995 # 100000000) tt P))
      (from_gap (nonneg_add (nonneg_mul (nonneg_ratio (622 over 1000) tt) (gap (L_high m lo hi))) (nonneg_ratio (168 over 1000000) tt))
      (ring_ℚ 1 (λ l. 159 # 100 :- 622 # 1000 :* l := 622 # 1000 :* (2556 # 1000 :- l) :+ 168 # 1000000) tt (equation.L (tenths m)))))

  -- ---- the weights: Δ and γ are above 0, so both lie between 0 and 1

  nΔ : NonNeg Δ
  unfolding Δ
  nΔ = nonneg_above (nonneg_ratio (84 over 10000) tt) (Δ_low m lo hi)

  nγ : NonNeg γ
  unfolding γ
  nγ = nonneg_above (nonneg_ratio (442 over 10000) tt) γ_low

  pub sum_low : 526 /ℚ 10000 ≤ℚ equation.Δ (tenths m) +ℚ equation.γ P (equation.L (tenths m))
  sum_low =
      ≤ℚ_trans
      (≤ℚ_trans (≤ℚ_ratio (526 over 10000) ((84 over 10000) +ᴿ (442 over 10000)) tt) (≤ℚ_eq (fraction_sum (84 over 10000) (442 over 10000))))
      (+ℚ_mono (Δ_low m lo hi) γ_low)

  pub sum_above : from_ℤ (pos 0) <ℚ equation.Δ (tenths m) +ℚ equation.γ P (equation.L (tenths m))
  sum_above = <ℚ-≤ℚ_trans (<ℚ_ratio (526 over 10000) tt) sum_low

  unfoldable pub W : ℚ
  W = equation.Δ (tenths m) ÷ℚ (equation.Δ (tenths m) +ℚ equation.γ P (equation.L (tenths m)))

  W_bounded : Bounded W (1 /ℚ 1)
  unfolding W Δ γ
  W_bounded = bounded_part sum_above (bounded (nonneg_add nΔ (nonneg_add nΔ nγ)) refl nγ (ring_ℚ 2 (λ d g. d :+ g :- d := g) tt Δ γ))

  pub W_nonneg : NonNeg W
  unfolding W Δ γ
  W_nonneg = nonneg_mul nΔ (nonneg_inverse (nonneg_add nΔ nγ))

  pub rest_nonneg : NonNeg (1 /ℚ 1 -ℚ W)
  rest_nonneg = gap W_bounded.high

  -- ---- w1, first against the quotient of the sheet's own D and D + g

  abbrev d : ℚ
  d = from_ℤ (sheet.D m) *ℚ 1 /ℚ 1000000000

  abbrev g : ℚ
  g = from_ℤ (sheet.g p (sheet.M m)) *ℚ 1 /ℚ 1000000000

  scaled_D : Rounded (pos 1000000000 *ℤ sheet.D m) (1 over 1000000000000000000) (equation.Δ (tenths m)) (7402 over 10000) (34 over 10000000000)
  scaled_D =
      of_value (ring_ℚ 1 (λ d. 1 # 1000000000 :* (1000000000 # 1 :* d) := d) tt (equation.Δ (tenths m)))
      (weaken tt tt tt (scaled (1 over 1000000000) tt (multiple 1000000000 (D_rounded m lo hi))))

  sum_rounded : Rounded (sheet.D m +ℤ sheet.g p (sheet.M m)) billionths (equation.Δ (tenths m) +ℚ equation.γ P (equation.L (tenths m))) (82 over 100) (385 over 10000000000)
  sum_rounded = weaken tt tt tt (sum (D_rounded m lo hi) g_rounded)

  sum_is : from_ℤ (sheet.D m +ℤ sheet.g p (sheet.M m)) *ℚ 1 /ℚ 1000000000 ≡ d +ℚ g
  sum_is =
      ap (λ (z : ℚ). z *ℚ 1 /ℚ 1000000000) (from_ℤ_add (sheet.D m) (sheet.g p (sheet.M m)))
      ∙ ring_ℚ 2 (λ d g. (d :+ g) :* 1 # 1000000000 := d :* 1 # 1000000000 :+ g :* 1 # 1000000000) tt (from_ℤ (sheet.D m)) (from_ℤ (sheet.g p (sheet.M m)))

  abbrev w : ℚ
  w = from_ℤ (sheet.w1 (sheet.D m) (sheet.g p (sheet.M m))) *ℚ 1 /ℚ 1000000000

  w_near : Near w (d ÷ℚ (d +ℚ g)) (1 /ℚ 1000000000)
  unfolding sheet.w1
  w_near =
      near_weaken
      (near_eq refl
      (sym
      (ap₂ ◌÷ℚ◌
      (ap (λ (z : ℚ). z *ℚ 1 /ℚ 1000000000000000000) (from_ℤ_mul (pos 1000000000) (sheet.D m))
      ∙ ring_ℚ 1 (λ d. 1000000000 # 1 :* d :* 1 # 1000000000000000000 := d :* 1 # 1000000000) tt (from_ℤ (sheet.D m)))
      sum_is)) (quotient_near rounds_down billionths (526 over 10000) tt tt tt tt sum_low scaled_D sum_rounded))
      (≤ℚ_ratio (billionths *ᴿ down_error) billionths tt)

  -- ---- and against W, as it counts in A: times k, the heat less the drying term, which is at most 337 + 296 Δ; with the errors a of the heat and b of
  -- the drying term, of which W and 1 - W count

  -- what these leave of 895 units
  room : ℚ
  room = 895 /ℚ 10000000 -ℚ (W *ℚ 46 /ℚ 10000000 +ℚ (1 /ℚ 1 -ℚ W) *ℚ 196 /ℚ 10000000)

  room_is : room *ℚ ((d +ℚ g) *ℚ (Δ +ℚ γ)) ≡ (d +ℚ g) *ℚ (849 /ℚ 10000000 *ℚ Δ +ℚ 699 /ℚ 10000000 *ℚ γ)
  unfolding room W Δ γ
  room_is =
      from_multiple_ℚ (150 /ℚ 10000000 *ℚ ((d +ℚ g) *ℚ Δ)) (*ℚ_inverse sum_above)
      (ring_ℚ 4 (λ d g s i. (895 # 10000000 :- (d :* i :* 46 # 10000000 :+ (1 # 1 :- d :* i) :* 196 # 10000000)) :* (s :* (d :+ g)) :- s :* (849 # 10000000 :* d :+ 699 # 10000000 :* g) := 150 # 10000000 :* (s :* d) :* ((d :+ g) :* i :- 1 # 1)) tt
      Δ γ (d +ℚ g) (inverse (Δ +ℚ γ)))

  -- (3.4 γ + 35.1 Δ)(337 + 296 Δ) is at most (84,900 Δ + 69,900 γ)(Δ + γ): the difference is a square in Δ, and more for each γ above 0.0442
  errors_small : (γ *ℚ 34 /ℚ 10000000000 +ℚ Δ *ℚ 351 /ℚ 10000000000) *ℚ (337 /ℚ 1 +ℚ 296 /ℚ 1 *ℚ Δ) ≤ℚ room *ℚ ((d +ℚ g) *ℚ (Δ +ℚ γ))
  unfolding Δ γ
  errors_small =
      ≤ℚ_trans
      (from_gap
      (nonneg_add
      (nonneg_mul (above (error (near_add (D_rounded m lo hi).near g_rounded.near)))
      (nonneg_add (nonneg_mul (nonneg_ratio (849 over 10000000) tt) nΔ) (nonneg_mul (nonneg_ratio (699 over 10000000) tt) nγ)))
      (nonneg_mul (nonneg_ratio billionths tt)
      (nonneg_add
      (nonneg_add (nonneg_mul (nonneg_ratio (372552 over 5) tt) (nonneg_square (Δ -ℚ 338 /ℚ 10000)))
      (nonneg_mul (gap γ_low) (nonneg_add (nonneg_ratio (100667146177 over 20000000) tt) (nonneg_mul (nonneg_ratio (768968 over 5) tt) nΔ))))
      (nonneg_add (nonneg_mul (nonneg_ratio (69900 over 1) tt) (nonneg_square (γ -ℚ 442 /ℚ 10000)))
      (nonneg_add (nonneg_mul (nonneg_ratio (117537827 over 20000000) tt) nΔ) (nonneg_ratio (79129567517 over 100000000000) tt))))))
      (ring_ℚ 3 (λ d g s. s :* (849 # 10000000 :* d :+ 699 # 10000000 :* g) :- (g :* 34 # 10000000000 :+ d :* 351 # 10000000000) :* (337 # 1 :+ 296 # 1 :* d) := (s :- (d :+ g) :+ (34 # 10000000000 :+ 351 # 10000000000)) :* (849 # 10000000 :* d :+ 699 # 10000000 :* g) :+ 1 # 1000000000 :* (372552 # 5 :* ((d :- 338 # 10000) :* (d :- 338 # 10000)) :+ (g :- 442 # 10000) :* (100667146177 # 20000000 :+ 768968 # 5 :* d) :+ (69900 # 1 :* ((g :- 442 # 10000) :* (g :- 442 # 10000)) :+ (117537827 # 20000000 :* d :+ 79129567517 # 100000000000)))) tt
      Δ γ (d +ℚ g)))
      (≤ℚ_eq (sym room_is))

  pub mean_error : {a b k : ℚ} → Bounded a (46 /ℚ 10000000) → Bounded b (196 /ℚ 10000000) → Bounded k (337 /ℚ 1 +ℚ 296 /ℚ 1 *ℚ equation.Δ (tenths m)) →
      Bounded (W *ℚ a +ℚ (1 /ℚ 1 -ℚ W) *ℚ b +ℚ (from_ℤ (sheet.w1 (sheet.D m) (sheet.g p (sheet.M m))) *ℚ 1 /ℚ 1000000000 -ℚ W) *ℚ k) (901 /ℚ 10000000)
  unfolding W Δ γ room
  mean_error {a} {b} {k} ha hb hk =
      bounded_weaken
      (bounded_eq
      (ring_ℚ 6 (λ w q v a b k. v :* a :+ (1 # 1 :- v) :* b :+ (w :- v) :* k := v :* a :+ (1 # 1 :- v) :* b :+ ((w :- q) :* k :+ (q :- v) :* k)) tt w (d ÷ℚ (d +ℚ g)) W a b k)
      (bounded_add (bounded_add (bounded_scale W W_nonneg ha) (bounded_scale (1 /ℚ 1 -ℚ W) rest_nonneg hb))
      (bounded_add (bounded_mul (error w_near) hk) (part_error nΔ nγ d+g_above sum_above (D_rounded m lo hi).near g_rounded.near hk errors_small))))
      (from_gap (nonneg_add (nonneg_mul (nonneg_ratio (296 over 1000000000) tt) (gap (D_rounded m lo hi).size.high)) (nonneg_ratio (13719 over 312500000000) tt))
      (ring_ℚ 2 (λ d v. 901 # 10000000 :- (v :* 46 # 10000000 :+ (1 # 1 :- v) :* 196 # 10000000 :+ (1 # 1000000000 :* (337 # 1 :+ 296 # 1 :* d) :+ (895 # 10000000 :- (v :* 46 # 10000000 :+ (1 # 1 :- v) :* 196 # 10000000)))) := 296 # 1000000000 :* (7402 # 10000 :- d) :+ 13719 # 312500000000) tt Δ W))
    where
      d+g_above : from_ℤ (pos 0) <ℚ d +ℚ g
      d+g_above = <ℚ-≤ℚ_trans (<ℚ_ratio (525 over 10000) tt) (≤ℚ_trans (at_least (526 over 10000) (525 over 10000) tt sum_low sum_rounded) (≤ℚ_eq sum_is))
