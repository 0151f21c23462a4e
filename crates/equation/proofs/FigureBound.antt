-- The end of the sheet against the equation: the heat H, the weighed sum A, and the figure, within 0.515 of a ten-thousandth of an inch. Assumes
-- nothing.
use mathlib.Core.Path.{◌≡◌, refl, sym, ◌∙◌, ap, subst, subst₂}
use mathlib.Core.Bool.{Bool, true, false, not, cond}
use Prim.Native.Nat.{ℕ, zero-le}
use lib.Dec.{T, le→leb}
use lib.IntN.{ℤ, pos, negsuc, ◌+ℤ◌, ◌-ℤ◌, ◌*ℤ◌, *ℤ_comm}
use lib.Signed.{lt_z, le_z, ◌≤ℤ◌, ◌<ℤ◌}
use Rattle.numbers.specs.Whole.{nearest_quotient, at_least_ℤ}
use Rattle.ratios.specs.Solver.{◌:+◌, ◌:-◌, ◌:*◌, :-◌, ◌:=◌}
use Rattle.ratios.specs.Ratios.{◌over◌}
use Rattle.numbers.specs.Fractions.{ℚ, from_ℤ, ◌/ℚ◌, ◌+ℚ◌, ◌-ℚ◌, ◌*ℚ◌, -ℚ◌, inverse, ◌÷ℚ◌, ◌≤ℚ◌, ◌<ℚ◌, at_least_ℚ}
use Rattle.numbers.proofs.IntegerOrder.{≤ℤ_antisym, le_z_is, *ℤ_mono}
use Rattle.numbers.proofs.FractionSolver.{ring_ℚ, from_multiple_ℚ, ◌#◌}
use Rattle.numbers.proofs.Order.{NonNeg, nonneg_add, nonneg_mul, nonneg_ratio, from_gap, ≤ℚ_ratio, <ℚ_ratio, <ℚ-≤ℚ_trans, ≤ℚ_trans, ≤ℚ_eq}
use Rattle.numbers.proofs.WholeFractions.{from_ℤ_add, from_ℤ_mul, from_ℤ_neg}
use Rattle.numbers.proofs.Inverse.{*ℚ_inverse, inverse_mul}
use Rattle.numbers.proofs.Bounds.{Bounded, bounded_ratio, bounded_eq, bounded_weaken, bounded_add, bounded_neg, bounded_mean}
use Rattle.numbers.proofs.Near.{near_eq, near_bounded, near_mean}
use Rattle.numbers.proofs.Quotients.{rounds_toward_zero, rounds_nearest, nearest_not_above, nearest_not_below}
use Rattle.numbers.proofs.Rounded.{Rounded, weaken, of_value, of_whole, difference, multiple, scaled, divided, exact_is}
use Rattle.numbers.proofs.RoundedQuotient.{plain_quotient, divisor_above}
use Rattle.numbers.proofs.RoundedLimit.{limited_below}
use Rattle.sheet.specs.StepSheet as sheet
use Rattle.equation.proofs.FigureNear.{bound}
use Rattle.equation.proofs.Units.{ten_millionths}

pub H_rounded : {rn soil : ℤ} {Rn G : ℚ} → Rounded rn ten_millionths Rn (865 over 10) (45 over 10000000) → Rounded soil ten_millionths G (30 over 1) (1 over 10000000) →
    Rounded (sheet.H rn soil) ten_millionths (Rn -ℚ G) (1165 over 10) (46 over 10000000)
unfolding sheet.H
H_rounded hr hg = weaken tt tt tt (difference hr hg)

module _ {h t : ℤ} {H T' : ℚ} (hh : Rounded h ten_millionths H (1165 over 10) (46 over 10000000)) (ht : Rounded t ten_millionths T' (440 over 1) (196 over 10000000)) where
  -- h and t lie no further apart than H and T may, the drying term being the wind factor, at most 4.5, and a deficit of at most 7.6 + 10.21 D
  pub apart : {D : ℚ} → NonNeg D → Bounded T' (643 /ℚ 100 *ℚ 45 /ℚ 10 *ℚ (76 /ℚ 10 +ℚ 1021 /ℚ 100 *ℚ D)) →
      Bounded (from_ℤ h *ℚ 1 /ℚ 10000000 -ℚ from_ℤ t *ℚ 1 /ℚ 10000000) (337 /ℚ 1 +ℚ 296 /ℚ 1 *ℚ D)
  apart {D} nD hT =
      bounded_weaken (bounded_add (near_bounded hh.size hh.near) (bounded_neg (near_bounded hT ht.near)))
      (from_gap (nonneg_add (nonneg_mul (nonneg_ratio (57365 over 100000) tt) nD) (nonneg_ratio (5939758 over 10000000) tt))
      (ring_ℚ 1 (λ d. 337 # 1 :+ 296 # 1 :* d :- (1165 # 10 :+ 46 # 10000000 :+ (643 # 100 :* 45 # 10 :* (76 # 10 :+ 1021 # 100 :* d) :+ 196 # 10000000)) := 57365 # 100000 :* d :+ 5939758 # 10000000) tt D))

  -- as w2 is 10⁹ - w1, A is a mean of h and t
  module _ (w : ℤ) {W : ℚ} (nW : NonNeg W) (nV : NonNeg (1 /ℚ 1 -ℚ W))
      (error : Bounded (W *ℚ (from_ℤ h *ℚ 1 /ℚ 10000000 -ℚ H) +ℚ (1 /ℚ 1 -ℚ W) *ℚ (from_ℤ t *ℚ 1 /ℚ 10000000 -ℚ T') +ℚ (from_ℤ w *ℚ 1 /ℚ 1000000000 -ℚ W) *ℚ (from_ℤ h *ℚ 1 /ℚ 10000000 -ℚ from_ℤ t *ℚ 1 /ℚ 10000000)) (901 /ℚ 10000000)) where
    mean_rounded : Rounded (w *ℤ h +ℤ (pos 1000000000 -ℤ w) *ℤ t) (1 over 10000000000000000) (W *ℚ H +ℚ (1 /ℚ 1 -ℚ W) *ℚ T') (440 over 1) (901 over 10000000)
    mean_rounded =
        record {
          size = bounded_mean nW nV (bounded_weaken hh.size (≤ℚ_ratio (1165 over 10) (440 over 1) tt)) ht.size;
          near = near_eq
              (simp (from_ℤ_add, from_ℤ_mul, from_ℤ_neg)
              (ring_ℚ 3 (λ w h t. (w :* h :+ (1000000000 # 1 :- w) :* t) :* 1 # 10000000000000000 := w :* 1 # 1000000000 :* (h :* 1 # 10000000) :+ (1 # 1 :- w :* 1 # 1000000000) :* (t :* 1 # 10000000)) tt
              (from_ℤ w) (from_ℤ h) (from_ℤ t))) refl
              (near_mean (from_ℤ w *ℚ 1 /ℚ 1000000000) W (from_ℤ h *ℚ 1 /ℚ 10000000) H (from_ℤ t *ℚ 1 /ℚ 10000000) T' error);
        }

    pub A_rounded : Rounded (sheet.A w (pos 1000000000 -ℤ w) h t) ten_millionths (W *ℚ H +ℚ (1 /ℚ 1 -ℚ W) *ℚ T') (440 over 1) (902 over 10000000)
    unfolding sheet.A
    A_rounded = weaken tt tt tt (divided rounds_toward_zero 1000000000 tt tt mean_rounded)

-- ---- the sheet's "0 if A ≤ 0" is a limit from below

-- a number that is not below 0, or not above it, with 0 for a limit from below
limit_of_some : (z : ℤ) (b : Bool) → lt_z z (pos 0) ≡ b → pos 0 ≤ℤ z → z ≡ cond b (pos 0) z
limit_of_some z true p h = absurd (subst (λ (c : Bool). T (not c)) p (subst T (le_z_is z (pos 0)) h.le))
limit_of_some z false p h = refl

limit_of_none : (z : ℤ) (b : Bool) → lt_z z (pos 0) ≡ b → z ≤ℤ pos 0 → pos 0 ≡ cond b (pos 0) z
limit_of_none z true p h = refl
limit_of_none z false p h =
    ≤ℤ_antisym (record { le = subst T (sym (le_z_is z (pos 0) ∙ ap not p)) tt }) h

times : (n : ℕ) {a b : ℤ} → a ≤ℤ b → ◌≤ℤ◌ (pos n *ℤ a) (pos n *ℤ b)
times n {a} {b} h = subst₂ ◌≤ℤ◌ (*ℤ_comm a (pos n)) (*ℤ_comm b (pos n)) (*ℤ_mono {c = pos n} (record { test = tt }) h)

not_above : (A : ℤ) → le_z A (pos 0) ≡ false → pos 0 ≤ℤ A
not_above (pos n) p = record { le = le→leb 0 n zero-le }
not_above (negsuc n) p = absurd (subst T p tt)

figure_is : (A M : ℤ) → pos 0 <ℤ (pos 100 *ℤ M) → at_least_ℤ (pos 0) (nearest_quotient (pos 23622 *ℤ A) (pos 100 *ℤ M)) ≡ sheet.Figure A M
unfolding sheet.Figure
figure_is A M h = by_sign (le_z A (pos 0)) refl
  where
    z : ℤ
    z = nearest_quotient (pos 23622 *ℤ A) (pos 100 *ℤ M)

    by_sign : (b : Bool) → le_z A (pos 0) ≡ b → at_least_ℤ (pos 0) z ≡ cond b (pos 0) z
    by_sign true p =
        sym (limit_of_none z (lt_z z (pos 0)) refl (nearest_not_above (pos 23622 *ℤ A) (pos 100 *ℤ M) h (times 23622 {a = A} {b = pos 0} (record { le = subst T (sym p) tt }))))
    by_sign false p =
        sym
        (limit_of_some z (lt_z z (pos 0)) refl
        (nearest_not_below (pos 23622 *ℤ A) (pos 100 *ℤ M) h (times 23622 {a = pos 0} {b = A} (not_above A p))))

-- ---- the figure

module _ {A M : ℤ} {X L : ℚ} (hA : Rounded A ten_millionths X (440 over 1) (902 over 10000000)) (hM : Rounded M (1 over 6000000) L (272 over 100) (0 over 1)) (L_low : 23735 /ℚ 10000 ≤ℚ L) where
  dividend : Rounded (pos 23622 *ℤ A) (1 over 6000000000000) (3937 /ℚ 100000 *ℚ X) (18 over 1) (3556 over 1000000000)
  dividend =
      of_value (ring_ℚ 1 (λ x. 1 # 600000 :* (23622 # 1 :* x) := 3937 # 100000 :* x) tt X) (weaken tt tt tt (scaled (1 over 600000) tt (multiple 23622 hA)))

  divisor : Rounded (pos 100 *ℤ M) (1 over 600000000) L (272 over 100) (0 over 1)
  divisor = of_value (ring_ℚ 1 (λ l. 1 # 100 :* (100 # 1 :* l) := l) tt L) (weaken tt tt tt (scaled (1 over 100) tt (multiple 100 hM)))

  unlimited : Rounded (nearest_quotient (pos 23622 *ℤ A) (pos 100 *ℤ M)) (1 over 10000) ((3937 /ℚ 100000 *ℚ X) ÷ℚ L) (8 over 1) bound
  unlimited = weaken tt tt tt (plain_quotient rounds_nearest (1 over 10000) (23735 over 10000) tt tt tt tt L_low dividend divisor)

  pub figure_rounded : Rounded (sheet.Figure A M) (1 over 10000) (at_least_ℚ (0 /ℚ 1) ((3937 /ℚ 100000 *ℚ X) ÷ℚ L)) (8 over 1) bound
  figure_rounded =
      of_whole (figure_is A M (divisor_above (pos 100 *ℤ M) (1 over 600000000) tt value_above))
      (of_value (ap (λ (l : ℚ). at_least_ℚ l ((3937 /ℚ 100000 *ℚ X) ÷ℚ L)) zero_is)
      (limited_below (pos 0) tt (bounded_eq zero_is (bounded_ratio (0 over 1) (8 over 1) tt tt)) unlimited))
    where
      zero_is : from_ℤ (pos 0) *ℚ 1 /ℚ 10000 ≡ 0 /ℚ 1
      zero_is = ring_ℚ 0 (0 # 1 :* 1 # 10000 := 0 # 1) tt

      value_above : from_ℤ (pos 0) <ℚ from_ℤ (pos 100 *ℤ M) *ℚ 1 /ℚ 600000000
      value_above = <ℚ-≤ℚ_trans (<ℚ_ratio (23735 over 10000) tt) (≤ℚ_trans L_low (≤ℚ_eq (sym (exact_is divisor))))

-- ---- the equation's quotient is that of the weighed sum

pub weighed : (Δ γ L H T' : ℚ) → from_ℤ (pos 0) <ℚ Δ +ℚ γ → from_ℤ (pos 0) <ℚ L → from_ℤ (pos 0) <ℚ (Δ +ℚ γ) *ℚ L →
    (3937 /ℚ 100000 *ℚ (Δ ÷ℚ (Δ +ℚ γ) *ℚ H +ℚ (1 /ℚ 1 -ℚ Δ ÷ℚ (Δ +ℚ γ)) *ℚ T')) ÷ℚ L ≡ (3937 /ℚ 100000 *ℚ (Δ *ℚ H +ℚ γ *ℚ T')) ÷ℚ ((Δ +ℚ γ) *ℚ L)
weighed Δ γ L H T' hs hL hsL =
    from_multiple_ℚ (-ℚ (3937 /ℚ 100000 *ℚ inverse L *ℚ T')) (*ℚ_inverse hs)
    (ring_ℚ 6 (λ d g h t i j. 3937 # 100000 :* (d :* i :* h :+ (1 # 1 :- d :* i) :* t) :* j :- 3937 # 100000 :* (d :* h :+ g :* t) :* (i :* j) := :- (3937 # 100000 :* j :* t) :* ((d :+ g) :* i :- 1 # 1)) tt
    Δ γ H T' (inverse (Δ +ℚ γ)) (inverse L))
    ∙ ap (λ (x : ℚ). 3937 /ℚ 100000 *ℚ (Δ *ℚ H +ℚ γ *ℚ T') *ℚ x) (sym (inverse_mul hs hL hsL))
