-- What the sheet makes of a temperature f in tenths °F against the equation at F = f/10: the vapour pressure, its slope, the latent heat and the
-- fourth power of the absolute temperature; and how small the equation's own values can be. Assumes nothing.
use mathlib.Core.Path.{◌≡◌, sym, ◌∙◌, ap, ap₂}
use lib.Dec.{T}
use lib.IntN.{ℤ, pos, negsuc, ◌+ℤ◌, ◌-ℤ◌, ◌*ℤ◌, *ℤ_comm}
use lib.Signed.{◌≤ℤ◌}
use Rattle.numbers.specs.Whole.{◌÷↓◌}
use Rattle.ratios.specs.Solver.{con, ◌:+◌, ◌:-◌, ◌:*◌, ◌:^◌, ◌:=◌}
use Rattle.ratios.specs.IntegerSolver.{ring_ℤ}
use Rattle.ratios.specs.Ratios.{Ratio, ◌over◌, ◌*ᴿ◌, -ᴿ◌, nonnegᴿ}
use Rattle.numbers.proofs.RatioTests.{leᴿ}
use Rattle.numbers.specs.Fractions.{ℚ, fraction, from_ℤ, ◌/ℚ◌, ◌+ℚ◌, ◌-ℚ◌, ◌*ℚ◌, ◌^ℚ◌, ◌≤ℚ◌, abs_ℚ}
use Rattle.numbers.proofs.FractionSolver.{ring_ℚ, ◌#◌, fraction_product}
use Rattle.numbers.proofs.Order.{NonNeg, nonneg_add, nonneg_mul, nonneg_eq, nonneg_ratio, gap, from_gap, ≤ℚ_ratio, ≤ℚ_eq, ≤ℚ_trans, *ℚ_at_least}
use Rattle.numbers.proofs.WholeFractions.{from_ℤ_mono}
use Rattle.numbers.proofs.FractionPowers.{power_nonneg, power_mono}
use Rattle.numbers.proofs.Inverse.{fraction_inverse}
use Rattle.numbers.proofs.Bounds.{abs_nonneg, abs_is_nonneg}
use Rattle.numbers.proofs.Quotients.{rounds_down}
use Rattle.numbers.proofs.Rounded.{Rounded, wholeᴿ, weaken, in_unit, of_value, of_whole, in_range_lem, literal, sum, difference, product, multiple, scaled, divided, portion}
use Rattle.sheet.specs.StepSheet as sheet
use Rattle.equation.specs.Equation as equation
use Rattle.equation.specs.Equation.{tenths}
use Rattle.equation.proofs.Units.{billionths}

-- a product from below, with a number for the product of the bounds
pub product_at_least : {x y : ℚ} (l m n : Ratio) → T (nonnegᴿ l) → T (nonnegᴿ m) → T (leᴿ n (l *ᴿ m)) → fraction l ≤ℚ x → fraction m ≤ℚ y → fraction n ≤ℚ x *ℚ y
product_at_least l m n hl hm t p q =
    ≤ℚ_trans (≤ℚ_trans (≤ℚ_ratio n (l *ᴿ m) t) (≤ℚ_eq (fraction_product l m))) (*ℚ_at_least (nonneg_ratio l hl) (nonneg_ratio m hm) p q)

-- what is at least a number that is not below 0
pub nonneg_above : {x l : ℚ} → NonNeg l → l ≤ℚ x → NonNeg x
nonneg_above {x} {l} n h = nonneg_eq (ring_ℚ 2 (λ x l. x := x :- l :+ l) tt x l) (nonneg_add (gap h) n)

-- t as a polynomial
pub t_is : (F : ℚ) → equation.t F ≡ (F -ℚ 32 /ℚ 1) *ℚ 10 /ℚ 18
unfolding equation.t
t_is F = ap (λ (i : ℚ). (F -ℚ 32 /ℚ 1) *ℚ i) (fraction_inverse (18 over 10))

module _ (f : ℤ) (lo : negsuc 93 ≤ℤ f) (hi : f ≤ℤ pos 1291) where
  y : ℚ
  y = equation.y (tenths f)

  y_is : y ≡ 738 /ℚ 100000 *ℚ ((tenths f -ℚ 32 /ℚ 1) *ℚ 10 /ℚ 18) +ℚ 8072 /ℚ 10000
  unfolding y equation.y
  y_is = ap (λ (t : ℚ). 738 /ℚ 100000 *ℚ t +ℚ 8072 /ℚ 10000) (t_is (tenths f))

  in_units : (u a : Ratio) → T (nonnegᴿ u) → T (leᴿ (-ᴿ a) (wholeᴿ (negsuc 93) *ᴿ u)) → T (leᴿ (wholeᴿ (pos 1291) *ᴿ u) a) → Rounded f u (from_ℤ f *ℚ fraction u) a (0 over 1)
  in_units u a = in_range_lem f (negsuc 93) (pos 1291) u a lo hi

  -- ---- the powers of y

  U_rounded : Rounded (sheet.U f) (1 over 100000) y (120531 over 100000) (0 over 1)
  unfolding sheet.U
  U_rounded =
      of_value
      (ring_ℚ 1 (λ f. 41 # 1 :* (f :* 1 # 100000) :+ 67600 # 100000 := 738 # 100000 :* ((f :* 1 # 10 :- 32 # 1) :* 10 # 18) :+ 8072 # 10000) tt (from_ℤ f) ∙ sym y_is)
      (weaken tt tt tt
      (sum (multiple 41 (in_units (1 over 100000) (1291 over 100000) tt tt tt)) (literal (pos 67600) (1 over 100000) (67600 over 100000) (67600 over 100000) tt tt tt)))

  V2_rounded : Rounded (sheet.V2 f) billionths (y *ℚ y) (14528 over 10000) (1 over 1000000000)
  unfolding sheet.V2
  V2_rounded = weaken tt tt tt (divided rounds_down 10 tt tt (product U_rounded U_rounded))

  V4_rounded : Rounded (sheet.V4 f) billionths (y *ℚ y *ℚ (y *ℚ y)) (2111 over 1000) (4 over 1000000000)
  unfolding sheet.V4
  V4_rounded = weaken tt tt tt (divided rounds_down 1000000000 tt tt (product V2_rounded V2_rounded))

  V8_rounded : Rounded (sheet.V8 f) billionths (y ^ℚ 8) (4457 over 1000) (18 over 1000000000)
  unfolding sheet.V8
  V8_rounded =
      of_value (ring_ℚ 1 (λ y. y :* y :* (y :* y) :* (y :* y :* (y :* y)) := y :^ 8) tt y)
      (weaken tt tt tt (divided rounds_down 1000000000 tt tt (product V4_rounded V4_rounded)))

  V6_rounded : Rounded (sheet.V6 f) billionths (y *ℚ y *ℚ (y *ℚ y) *ℚ (y *ℚ y)) (3067 over 1000) (9 over 1000000000)
  unfolding sheet.V6
  V6_rounded = weaken tt tt tt (divided rounds_down 1000000000 tt tt (product V4_rounded V2_rounded))

  V7_rounded : Rounded (sheet.V7 f) billionths (y ^ℚ 7) (37 over 10) (12 over 1000000000)
  unfolding sheet.V7
  V7_rounded =
      of_value (ring_ℚ 1 (λ y. y :* y :* (y :* y) :* (y :* y) :* y := y :^ 7) tt y)
      (weaken tt tt tt (divided rounds_down 100000 tt tt (product V6_rounded U_rounded)))

  -- ---- the vapour pressure, the slope, the latent heat

  -- F + 16 is at least 6.6
  above_16 : NonNeg (tenths f +ℚ 16 /ℚ 1)
  above_16 =
      nonneg_eq (ring_ℚ 1 (λ f. f :* 1 # 10 :+ 16 # 1 := (f :- con (wholeᴿ (negsuc 93))) :* 1 # 10 :+ 66 # 10) tt (from_ℤ f))
      (nonneg_add (nonneg_mul (gap (from_ℤ_mono lo)) (nonneg_ratio (1 over 10) tt)) (nonneg_ratio (66 over 10) tt))

  -- so 1,900 (f + 160) billionths are 0.000019 |F + 16|
  distance_rounded : Rounded (pos 1900 *ℤ (f +ℤ pos 160)) billionths (19 /ℚ 1000000 *ℚ abs_ℚ (tenths f +ℚ 16 /ℚ 1)) (3 over 1000) (0 over 1)
  distance_rounded =
      of_value
      (ring_ℚ 1 (λ a. 1900 # 1 :* (1 # 100000000 :* a) := 19 # 1000000 :* a) tt (tenths f +ℚ 16 /ℚ 1)
      ∙ ap (λ (a : ℚ). 19 /ℚ 1000000 *ℚ a) (sym (abs_nonneg above_16)))
      (weaken tt tt tt
      (multiple 1900
      (scaled (1 over 100000000) tt (sum (in_units (1 over 10) (1291 over 10) tt tt tt) (literal (pos 160) (1 over 10) (16 over 1) (16 over 1) tt tt tt)))))

  pub e_rounded : Rounded (sheet.e f) billionths (equation.e (tenths f)) (152 over 10) (62 over 1000000000)
  unfolding sheet.e equation.e y
  e_rounded =
      of_whole (ap (λ (z : ℤ). z ÷↓ pos 100000) (*ℤ_comm (pos 338639) (sheet.V8 f -ℤ pos 1900 *ℤ (f +ℤ pos 160) +ℤ pos 1316000)))
      (of_value
      (ring_ℚ 2 (λ p a. 1 # 100000 :* (338639 # 1 :* (p :- a :+ 1316000 # 1000000000)) := 338639 # 100000 :* (p :- a :+ 1316 # 1000000)) tt
      (y ^ℚ 8) (19 /ℚ 1000000 *ℚ abs_ℚ (tenths f +ℚ 16 /ℚ 1)))
      (weaken tt tt tt
      (portion rounds_down 338639 100000 tt tt
      (sum (difference V8_rounded distance_rounded) (literal (pos 1316000) billionths (1316000 over 1000000000) (1316000 over 1000000000) tt tt tt)))))

  pub D_rounded : Rounded (sheet.D f) billionths (equation.Δ (tenths f)) (7402 over 10000) (34 over 10000000000)
  unfolding sheet.D equation.Δ y
  D_rounded =
      of_value (ring_ℚ 1 (λ p. 1 # 5 :* p :- 116000 # 1000000000 := 2 # 10 :* p :- 116 # 1000000) tt (y ^ℚ 7))
      (weaken tt tt tt
      (difference (in_unit billionths tt (scaled (1 over 5) tt (divided rounds_down 5 tt tt V7_rounded)))
      (literal (pos 116000) billionths (116000 over 1000000000) (116000 over 1000000000) tt tt tt)))

  pub M_rounded : Rounded (sheet.M f) (1 over 6000000) (equation.L (tenths f)) (272 over 100) (0 over 1)
  unfolding sheet.M equation.L
  M_rounded =
      of_value
      (ring_ℚ 1 (λ f. 15006000 # 6000000 :- 787 # 1 :* (f :* 1 # 6000000 :- 320 # 6000000) := 2501 # 1000 :- 2361 # 1000000 :* ((f :* 1 # 10 :- 32 # 1) :* 10 # 18)) tt (from_ℤ f)
      ∙ ap (λ (t : ℚ). 2501 /ℚ 1000 -ℚ 2361 /ℚ 1000000 *ℚ t) (sym (t_is (tenths f))))
      (weaken tt tt tt
      (difference (literal (pos 15006000) (1 over 6000000) (15006000 over 6000000) (15006000 over 6000000) tt tt tt)
      (multiple 787
      (difference (in_units (1 over 6000000) (1291 over 6000000) tt tt tt) (literal (pos 320) (1 over 6000000) (320 over 6000000) (320 over 6000000) tt tt tt)))))

  -- ---- the fourth power of the absolute temperature

  N_rounded : Rounded (sheet.N f) (1 over 900) (equation.t (tenths f) +ℚ 27316 /ℚ 100) (3272 over 10) (0 over 1)
  unfolding sheet.N
  N_rounded =
      of_whole (ring_ℤ 1 (λ f. con (pos 50) :* f :+ con (pos 229844) := con (pos 50) :* (f :- con (pos 320)) :+ con (pos 245844)) tt f)
      (of_value
      (ring_ℚ 1 (λ f. 50 # 1 :* (f :* 1 # 900) :+ 229844 # 900 := (f :* 1 # 10 :- 32 # 1) :* 10 # 18 :+ 27316 # 100) tt (from_ℤ f)
      ∙ ap (λ (t : ℚ). t +ℚ 27316 /ℚ 100) (sym (t_is (tenths f))))
      (weaken tt tt tt
      (sum (multiple 50 (in_units (1 over 900) (1291 over 900) tt tt tt)) (literal (pos 229844) (1 over 900) (229844 over 900) (229844 over 900) tt tt tt))))

  pub fourth_power_rounded : Rounded (sheet.fourth_power f) (1 over 65610000) ((equation.t (tenths f) +ℚ 27316 /ℚ 100) ^ℚ 4) (11461900000 over 1) (27 over 1)
  unfolding sheet.fourth_power
  fourth_power_rounded =
      of_value (ring_ℚ 1 (λ t. t :* t :* (t :* t) := t :^ 4) tt (equation.t (tenths f) +ℚ 27316 /ℚ 100))
      (let square = divided rounds_down 100 tt tt (product N_rounded N_rounded) in weaken tt tt tt (product square square))

  -- ---- from below: y at the least temperature, and its powers

  y_low : 63746 /ℚ 100000 ≤ℚ y
  y_low =
      from_gap (nonneg_mul (nonneg_ratio (41 over 100000) tt) (gap (from_ℤ_mono lo)))
      (ap (λ (v : ℚ). v -ℚ 63746 /ℚ 100000) y_is
      ∙ ring_ℚ 1 (λ f. 738 # 100000 :* ((f :* 1 # 10 :- 32 # 1) :* 10 # 18) :+ 8072 # 10000 :- 63746 # 100000 := 41 # 100000 :* (f :- con (wholeᴿ (negsuc 93)))) tt (from_ℤ f))

  square_low : 40635 /ℚ 100000 ≤ℚ y *ℚ y
  square_low = product_at_least (63746 over 100000) (63746 over 100000) (40635 over 100000) tt tt tt y_low y_low

  fourth_low : 16512 /ℚ 100000 ≤ℚ y *ℚ y *ℚ (y *ℚ y)
  fourth_low = product_at_least (40635 over 100000) (40635 over 100000) (16512 over 100000) tt tt tt square_low square_low

  eighth_low : 2726 /ℚ 100000 ≤ℚ y ^ℚ 8
  eighth_low =
      ≤ℚ_trans (product_at_least (16512 over 100000) (16512 over 100000) (2726 over 100000) tt tt tt fourth_low fourth_low)
      (≤ℚ_eq (ring_ℚ 1 (λ y. y :* y :* (y :* y) :* (y :* y :* (y :* y)) := y :^ 8) tt y))

  seventh_low : 4277 /ℚ 100000 ≤ℚ y ^ℚ 7
  seventh_low =
      ≤ℚ_trans
      (product_at_least (67096 over 1000000) (63746 over 100000) (4277 over 100000) tt tt tt
      (product_at_least (16512 over 100000) (40635 over 100000) (67096 over 1000000) tt tt tt fourth_low square_low) y_low)
      (≤ℚ_eq (ring_ℚ 1 (λ y. y :* y :* (y :* y) :* (y :* y) :* y := y :^ 7) tt y))

  pub Δ_low : 84 /ℚ 10000 ≤ℚ equation.Δ (tenths f)
  unfolding equation.Δ y
  Δ_low =
      from_gap (nonneg_add (nonneg_mul (nonneg_ratio (2 over 10) tt) (gap seventh_low)) (nonneg_ratio (38 over 1000000) tt))
      (ring_ℚ 1 (λ p. 2 # 10 :* p :- 116 # 1000000 :- 84 # 10000 := 2 # 10 :* (p :- 4277 # 100000) :+ 38 # 1000000) tt (y ^ℚ 7))

  -- 0.000019 |F + 16| is at most 0.002757
  pub e_low : 87 /ℚ 1000 ≤ℚ equation.e (tenths f)
  unfolding equation.e y
  e_low =
      from_gap
      (nonneg_add
      (nonneg_mul (nonneg_ratio (338639 over 100000) tt)
      (nonneg_add (gap eighth_low) (nonneg_mul (nonneg_ratio (19 over 10000000) tt) (gap (from_ℤ_mono hi)))))
      (nonneg_ratio (433542049 over 1000000000000) tt))
      (ap (λ (t : ℚ). 338639 /ℚ 100000 *ℚ (y ^ℚ 8 -ℚ 19 /ℚ 1000000 *ℚ t +ℚ 1316 /ℚ 1000000) -ℚ 87 /ℚ 1000) (abs_nonneg above_16)
      ∙ ring_ℚ 2 (λ p f. 338639 # 100000 :* (p :- 19 # 1000000 :* (f :* 1 # 10 :+ 16 # 1) :+ 1316 # 1000000) :- 87 # 1000 := 338639 # 100000 :* (p :- 2726 # 100000 :+ 19 # 10000000 :* (1291 # 1 :- f)) :+ 433542049 # 1000000000000) tt
      (y ^ℚ 8) (from_ℤ f))

  -- 0.2y⁷ of the slope against y⁸ = y⁷y, with y at most 1.20531
  pub e_high : equation.e (tenths f) ≤ℚ 2042 /ℚ 100 *ℚ equation.Δ (tenths f) +ℚ 69 /ℚ 10000
  unfolding equation.e equation.Δ y
  e_high =
      from_gap
      (nonneg_add
      (nonneg_mul (power_nonneg (nonneg_above (nonneg_ratio (63746 over 100000) tt) y_low) 7)
      (nonneg_add (nonneg_mul (nonneg_ratio (338639 over 100000) tt) (gap U_rounded.size.high)) (nonneg_ratio (23502691 over 10000000000) tt)))
      (nonneg_add (nonneg_mul (nonneg_ratio (6434141 over 100000000000) tt) (abs_is_nonneg (tenths f +ℚ 16 /ℚ 1))) (nonneg_ratio (1869769 over 25000000000) tt)))
      (ring_ℚ 2 (λ y a. 2042 # 100 :* (2 # 10 :* y :^ 7 :- 116 # 1000000) :+ 69 # 10000 :- 338639 # 100000 :* (y :^ 8 :- 19 # 1000000 :* a :+ 1316 # 1000000) := y :^ 7 :* (338639 # 100000 :* (120531 # 100000 :- y) :+ 23502691 # 10000000000) :+ (6434141 # 100000000000 :* a :+ 1869769 # 25000000000)) tt
      y (abs_ℚ (tenths f +ℚ 16 /ℚ 1)))

  pub L_low : 23735 /ℚ 10000 ≤ℚ equation.L (tenths f)
  unfolding equation.L
  L_low =
      from_gap (nonneg_add (nonneg_mul (nonneg_ratio (787 over 6000000) tt) (gap (from_ℤ_mono hi))) (nonneg_ratio (823 over 6000000) tt))
      (ap (λ (t : ℚ). 2501 /ℚ 1000 -ℚ 2361 /ℚ 1000000 *ℚ t -ℚ 23735 /ℚ 10000) (t_is (tenths f))
      ∙ ring_ℚ 1 (λ f. 2501 # 1000 :- 2361 # 1000000 :* ((f :* 1 # 10 :- 32 # 1) :* 10 # 18) :- 23735 # 10000 := 787 # 6000000 :* (1291 # 1 :- f) :+ 823 # 6000000) tt (from_ℤ f))

  pub L_high : equation.L (tenths f) ≤ℚ 2556 /ℚ 1000
  unfolding equation.L
  L_high =
      from_gap (nonneg_add (nonneg_mul (nonneg_ratio (787 over 6000000) tt) (gap (from_ℤ_mono lo))) (nonneg_ratio (697 over 1000000) tt))
      (ap (λ (t : ℚ). 2556 /ℚ 1000 -ℚ (2501 /ℚ 1000 -ℚ 2361 /ℚ 1000000 *ℚ t)) (t_is (tenths f))
      ∙ ring_ℚ 1 (λ f. 2556 # 1000 :- (2501 # 1000 :- 2361 # 1000000 :* ((f :* 1 # 10 :- 32 # 1) :* 10 # 18)) := 787 # 6000000 :* (f :- con (wholeᴿ (negsuc 93))) :+ 697 # 1000000) tt (from_ℤ f))

-- ---- two temperatures in order: e rises, but for the 0.000019 |F + 16|, which is less than 0.009 kPa over the whole range

module _ (f h : ℤ) (f-lo : negsuc 93 ≤ℤ f) (f-hi : f ≤ℤ pos 1291) (h-lo : negsuc 93 ≤ℤ h) (h-hi : h ≤ℤ pos 1291) (rises : f ≤ℤ h) where
  y_rises : y f f-lo f-hi ≤ℚ y h h-lo h-hi
  y_rises =
      from_gap (nonneg_mul (nonneg_ratio (41 over 100000) tt) (gap (from_ℤ_mono rises)))
      (ap₂ ◌-ℚ◌ (y_is h h-lo h-hi) (y_is f f-lo f-hi)
      ∙ ring_ℚ 2 (λ f h. 738 # 100000 :* ((h :* 1 # 10 :- 32 # 1) :* 10 # 18) :+ 8072 # 10000 :- (738 # 100000 :* ((f :* 1 # 10 :- 32 # 1) :* 10 # 18) :+ 8072 # 10000) := 41 # 100000 :* (h :- f)) tt
      (from_ℤ f) (from_ℤ h))

  pub e_rises : equation.e (tenths f) ≤ℚ equation.e (tenths h) +ℚ 9 /ℚ 1000
  unfolding equation.e y
  e_rises =
      from_gap
      (nonneg_add
      (nonneg_mul (nonneg_ratio (338639 over 100000) tt)
      (nonneg_add (gap (power_mono (nonneg_above (nonneg_ratio (63746 over 100000) tt) (y_low f f-lo f-hi)) y_rises 8))
      (nonneg_mul (nonneg_ratio (19 over 10000000) tt) (nonneg_add (gap (from_ℤ_mono h-hi)) (gap (from_ℤ_mono f-lo))))))
      (nonneg_ratio (17742943 over 200000000000) tt))
      (ap₂ (λ (a b : ℚ). 338639 /ℚ 100000 *ℚ (y h h-lo h-hi ^ℚ 8 -ℚ 19 /ℚ 1000000 *ℚ a +ℚ 1316 /ℚ 1000000) +ℚ 9 /ℚ 1000 -ℚ 338639 /ℚ 100000 *ℚ (y f f-lo f-hi ^ℚ 8 -ℚ 19 /ℚ 1000000 *ℚ b +ℚ 1316 /ℚ 1000000))
      (abs_nonneg (above_16 h h-lo h-hi)) (abs_nonneg (above_16 f f-lo f-hi))
      ∙ ring_ℚ 4 (λ p q f h. 338639 # 100000 :* (q :- 19 # 1000000 :* (h :* 1 # 10 :+ 16 # 1) :+ 1316 # 1000000) :+ 9 # 1000 :- 338639 # 100000 :* (p :- 19 # 1000000 :* (f :* 1 # 10 :+ 16 # 1) :+ 1316 # 1000000) := 338639 # 100000 :* (q :- p :+ 19 # 10000000 :* (1291 # 1 :- h :+ (f :- con (wholeᴿ (negsuc 93))))) :+ 17742943 # 200000000000) tt
      (y f f-lo f-hi ^ℚ 8) (y h h-lo h-hi ^ℚ 8) (from_ℤ f) (from_ℤ h))
