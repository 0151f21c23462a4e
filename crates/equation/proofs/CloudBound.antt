-- The clear-day radiation, the ratio to it and the cloud factor K of the sheet against the equation's C and K. Both choices are exact: the
-- sheet's comparisons are the equation's. Assumes nothing.
use mathlib.Core.Path.{◌≡◌, refl, sym, ◌∙◌, ap, ap₂, subst}
use mathlib.Core.Bool.{Bool, true, false, not, cond}
use lib.Dec.{T}
use lib.IntN.{ℤ, pos, negsuc, ◌-ℤ◌, ◌*ℤ◌}
use lib.Signed.{lt_z, ◌≤ℤ◌}
use Rattle.numbers.specs.Whole.{◌÷↓◌}
use Rattle.ratios.specs.Solver.{◌:+◌, ◌:-◌, ◌:*◌, ◌:^◌, :-◌, ◌:=◌}
use Rattle.ratios.specs.Ratios.{Ratio, ◌over◌}
use Rattle.numbers.proofs.RatioTests.{posᴿ}
use Rattle.numbers.specs.Fractions.{ℚ, fraction, from_ℤ, ◌/ℚ◌, ◌+ℚ◌, ◌-ℚ◌, ◌*ℚ◌, -ℚ◌, inverse, ◌÷ℚ◌, ◌^ℚ◌, nonneg, ◌≤ℚ◌, ◌<ℚ◌, above_ℚ, at_least_ℚ}
use Rattle.numbers.proofs.IntegerOrder.{le_z_is}
use Rattle.numbers.proofs.FractionSolver.{ring_ℚ, from_multiple_ℚ, ◌#◌}
use Rattle.numbers.proofs.Order.{nonneg_add, nonneg_mul, nonneg_ratio, nonneg_of, gap, <ℚ_ratio, ≤ℚ_trans, <ℚ-≤ℚ_trans}
use Rattle.numbers.proofs.WholeFractions.{from_ℤ_add, from_ℤ_mul, from_ℤ_mono}
use Rattle.numbers.proofs.Inverse.{*ℚ_inverse, nonneg_inverse_of}
use Rattle.numbers.proofs.Bounds.{Bounded, bounded, bounded_eq}
use Rattle.numbers.proofs.Quotients.{rounds_down}
use Rattle.numbers.proofs.Rounded.{Rounded, weaken, in_unit, of_value, in_range_lem, literal, difference, multiple, scaled, divided, portion, exact_is, chosen}
use Rattle.numbers.proofs.RoundedQuotient.{quotient_rounded}
use Rattle.numbers.proofs.RoundedLimit.{limited_below, test_in_units}
use Rattle.sheet.specs.StepSheet as sheet
use Rattle.equation.specs.Equation as equation
use Rattle.equation.specs.Equation.{tenths}
use Rattle.equation.proofs.Units.{billionths}

-- ---- the clear-day radiation: exact

-- 10⁹ times the sum, with the constants in their units
pub clear_sum_is : (c1 c2 c3 c4 c5 d : ℤ) → from_ℤ (sheet.clear_sum c1 c2 c3 c4 c5 d) *ℚ 1 /ℚ 1000000000 ≡
    from_ℤ c1 +ℚ from_ℤ c2 *ℚ 1 /ℚ 1000 *ℚ from_ℤ d +ℚ from_ℤ c3 *ℚ 1 /ℚ 10000 *ℚ from_ℤ d ^ℚ 2 +ℚ from_ℤ c4 *ℚ 1 /ℚ 1000000 *ℚ from_ℤ d ^ℚ 3 +ℚ from_ℤ c5 *ℚ 1 /ℚ 1000000000 *ℚ from_ℤ d ^ℚ 4
unfolding sheet.clear_sum
clear_sum_is c1 c2 c3 c4 c5 d =
    simp (from_ℤ_add, from_ℤ_mul)
    (ring_ℚ 6 (λ c1 c2 c3 c4 c5 d. (1000000000 # 1 :* c1 :+ 1000000 # 1 :* c2 :* d :+ 100000 # 1 :* c3 :* d :* d :+ 1000 # 1 :* c4 :* d :* d :* d :+ c5 :* d :* d :* d :* d) :* 1 # 1000000000 := c1 :+ c2 :* 1 # 1000 :* d :+ c3 :* 1 # 10000 :* d :^ 2 :+ c4 :* 1 # 1000000 :* d :^ 3 :+ c5 :* 1 # 1000000000 :* d :^ 4) tt
    (from_ℤ c1) (from_ℤ c2) (from_ℤ c3) (from_ℤ c4) (from_ℤ c5) (from_ℤ d))

module _ (c1 c2 c3 c4 c5 d minimum : ℤ) (sum-lo : negsuc 2999999999999999 ≤ℤ sheet.clear_sum c1 c2 c3 c4 c5 d) (sum-hi : sheet.clear_sum c1 c2 c3 c4 c5 d ≤ℤ pos 3000000000000000)
    (lo : pos 50 ≤ℤ minimum) (hi : minimum ≤ℤ pos 200) where
  abbrev pub q : ℤ
  q = sheet.Q minimum (sheet.clear_sum c1 c2 c3 c4 c5 d)

  abbrev pub C : ℚ
  C = equation.C (from_ℤ c1) (from_ℤ c2 *ℚ 1 /ℚ 1000) (from_ℤ c3 *ℚ 1 /ℚ 10000) (from_ℤ c4 *ℚ 1 /ℚ 1000000) (from_ℤ c5 *ℚ 1 /ℚ 1000000000) (from_ℤ minimum) (from_ℤ d)

  limit_is : from_ℤ (pos 1000000000 *ℤ minimum) *ℚ 1 /ℚ 1000000000 ≡ from_ℤ minimum
  limit_is =
      ap (λ (x : ℚ). x *ℚ 1 /ℚ 1000000000) (from_ℤ_mul (pos 1000000000) minimum)
      ∙ ring_ℚ 1 (λ m. 1000000000 # 1 :* m :* 1 # 1000000000 := m) tt (from_ℤ minimum)

  limit_bounded : Bounded (from_ℤ (pos 1000000000 *ℤ minimum) *ℚ 1 /ℚ 1000000000) (3000000 /ℚ 1)
  limit_bounded =
      bounded_eq limit_is
      (bounded (nonneg_add (gap (from_ℤ_mono lo)) (nonneg_ratio (3000050 over 1) tt)) (ring_ℚ 1 (λ m. m :+ 3000000 # 1 := m :- 50 # 1 :+ 3000050 # 1) tt (from_ℤ minimum))
      (nonneg_add (gap (from_ℤ_mono hi)) (nonneg_ratio (2999800 over 1) tt)) (ring_ℚ 1 (λ m. 3000000 # 1 :- m := 200 # 1 :- m :+ 2999800 # 1) tt (from_ℤ minimum)))

  pub Q_rounded : Rounded q billionths C (3000000 over 1) (0 over 1)
  unfolding sheet.Q equation.C
  Q_rounded =
      of_value (ap₂ at_least_ℚ limit_is (clear_sum_is c1 c2 c3 c4 c5 d))
      (limited_below (pos 1000000000 *ℤ minimum) tt limit_bounded
      (in_range_lem (sheet.clear_sum c1 c2 c3 c4 c5 d) (negsuc 2999999999999999) (pos 3000000000000000) billionths (3000000 over 1) sum-lo sum-hi tt tt tt))

  pub C_low : 50 /ℚ 1 ≤ℚ C
  unfolding equation.C at_least_ℚ
  C_low = by_limit (from_ℤ minimum) (from_ℤ_mono lo) _
    where
      by_limit : (l : ℚ) → 50 /ℚ 1 ≤ℚ l → (x : ℚ) → 50 /ℚ 1 ≤ℚ cond (nonneg (x -ℚ l)) x l
      by_limit l h x = by_test (nonneg (x -ℚ l)) refl
        where
          by_test : (b : Bool) → nonneg (x -ℚ l) ≡ b → 50 /ℚ 1 ≤ℚ cond b x l
          by_test true p = ≤ℚ_trans h (record { le = subst T (sym p) tt })
          by_test false p = h

-- ---- the ratio and the cloud factor

module _ (s : ℤ) (s-lo : pos 0 ≤ℤ s) (s-hi : s ≤ℤ pos 12000) (q : ℤ) (C : ℚ) (hC : Rounded q billionths C (3000000 over 1) (0 over 1)) (C_low : 50 /ℚ 1 ≤ℚ C)
    (accepted : sheet.above_twice_clear s q ≡ false) where
  pub R_rounded : Rounded s (1 over 10) (tenths s) (1200 over 1) (0 over 1)
  R_rounded = in_range_lem s (pos 0) (pos 12000) (1 over 10) (1200 over 1) s-lo s-hi tt tt tt

  C_above : from_ℤ (pos 0) <ℚ C
  C_above = <ℚ-≤ℚ_trans (<ℚ_ratio (50 over 1) tt) C_low

  -- a sheet's comparison of a s and b Q, in a unit v, is the equation's
  same_test : (a b : ℤ) (k : ℚ) (v : Ratio) → T (posᴿ v) → from_ℤ (a *ℤ s) *ℚ fraction v ≡ tenths s → from_ℤ (b *ℤ q) *ℚ fraction v ≡ k *ℚ C →
      lt_z (b *ℤ q) (a *ℤ s) ≡ above_ℚ (tenths s) (k *ℚ C)
  unfolding above_ℚ
  same_test a b k v hv es eq =
      sym (not_not (lt_z (b *ℤ q) (a *ℤ s)))
      ∙ ap not (sym (le_z_is (b *ℤ q) (a *ℤ s)) ∙ sym (test_in_units (a *ℤ s) (b *ℤ q) v hv) ∙ ap nonneg (ap₂ ◌-ℚ◌ eq es))
    where
      not_not : (b : Bool) → not (not b) ≡ b
      not_not true = refl
      not_not false = refl

  q_is : from_ℤ q *ℚ 1 /ℚ 1000000000 ≡ C
  q_is = exact_is hC

  -- refusal 10 does not hold: R ≤ 2C
  at_most_twice : tenths s ≤ℚ 2 /ℚ 1 *ℚ C
  unfolding sheet.above_twice_clear above_ℚ
  at_most_twice = record { le = of_not (nonneg (2 /ℚ 1 *ℚ C -ℚ tenths s)) (sym test ∙ accepted) }
    where
      test : lt_z (pos 2 *ℤ q) (pos 100000000 *ℤ s) ≡ not (nonneg (2 /ℚ 1 *ℚ C -ℚ tenths s))
      test =
          same_test (pos 100000000) (pos 2) (2 /ℚ 1) billionths tt
          (ap (λ (x : ℚ). x *ℚ 1 /ℚ 1000000000) (from_ℤ_mul (pos 100000000) s) ∙ ring_ℚ 1 (λ s. 100000000 # 1 :* s :* 1 # 1000000000 := s :* 1 # 10) tt (from_ℤ s))
          (ap (λ (x : ℚ). x *ℚ 1 /ℚ 1000000000) (from_ℤ_mul (pos 2) q)
          ∙ ring_ℚ 1 (λ q. 2 # 1 :* q :* 1 # 1000000000 := 2 # 1 :* (q :* 1 # 1000000000)) tt (from_ℤ q)
          ∙ ap (λ (x : ℚ). 2 /ℚ 1 *ℚ x) q_is)

      of_not : (b : Bool) → not b ≡ false → T b
      of_not true e = tt
      of_not false e = subst T e tt

  ratio_bounded : Bounded (tenths s ÷ℚ C) (2 /ℚ 1)
  ratio_bounded =
      bounded (nonneg_add (nonneg_mul (nonneg_mul (nonneg_of (from_ℤ_mono s-lo)) (nonneg_ratio (1 over 10) tt)) (nonneg_inverse_of C_above)) (nonneg_ratio (2 over 1) tt)) refl
      (nonneg_mul (gap at_most_twice) (nonneg_inverse_of C_above))
      (from_multiple_ℚ (-ℚ (2 /ℚ 1)) (*ℚ_inverse C_above)
      (ring_ℚ 3 (λ r c i. 2 # 1 :- r :* i :- (2 # 1 :* c :- r) :* i := :- 2 # 1 :* (c :* i :- 1 # 1)) tt (tenths s) C (inverse C)))

  ρ_rounded : Rounded (sheet.ρ s q) billionths (tenths s ÷ℚ C) (2 over 1) (42 over 1000000000)
  unfolding sheet.ρ
  ρ_rounded =
      weaken tt tt tt
      (quotient_rounded rounds_down billionths (50 over 1) tt tt tt tt C_low
      (of_value (ring_ℚ 1 (λ r. 1 # 100000000000000 :* (100000000000000 # 1 :* r) := r) tt (tenths s)) (scaled (1 over 100000000000000) tt (multiple 100000000000000 R_rounded)))
      (weaken {v = 1 over 1000000} {b = 3000000 over 1} {ε = 1 over 1000000} tt tt tt (divided rounds_down 1000 tt tt hC)) (2 over 1) ratio_bounded)

  bright : Rounded ((pos 1126 *ℤ sheet.ρ s q ÷↓ pos 1000) -ℤ pos 70000000) billionths ((1126 /ℚ 1000 *ℚ tenths s) ÷ℚ C -ℚ 7 /ℚ 100) (2322 over 1000) (50 over 1000000000)
  bright =
      of_value (ring_ℚ 2 (λ r i. 1 # 1000 :* (1126 # 1 :* (r :* i)) :- 7 # 100 := 1126 # 1000 :* r :* i :- 7 # 100) tt (tenths s) (inverse C))
      (weaken tt tt tt
      (difference (in_unit billionths tt (portion rounds_down 1126 1000 tt tt ρ_rounded)) (literal (pos 70000000) billionths (7 over 100) (7 over 100) tt tt tt)))

  dull : Rounded ((pos 1017 *ℤ sheet.ρ s q ÷↓ pos 1000) -ℤ pos 60000000) billionths ((1017 /ℚ 1000 *ℚ tenths s) ÷ℚ C -ℚ 6 /ℚ 100) (2322 over 1000) (50 over 1000000000)
  dull =
      of_value (ring_ℚ 2 (λ r i. 1 # 1000 :* (1017 # 1 :* (r :* i)) :- 6 # 100 := 1017 # 1000 :* r :* i :- 6 # 100) tt (tenths s) (inverse C))
      (weaken tt tt tt
      (difference (in_unit billionths tt (portion rounds_down 1017 1000 tt tt ρ_rounded)) (literal (pos 60000000) billionths (6 over 100) (6 over 100) tt tt tt)))

  -- 10⁹ s > 7Q is R > 0.7C
  seven_tenths : lt_z (pos 7 *ℤ q) (pos 1000000000 *ℤ s) ≡ above_ℚ (tenths s) (7 /ℚ 10 *ℚ C)
  seven_tenths =
      same_test (pos 1000000000) (pos 7) (7 /ℚ 10) (1 over 10000000000) tt
      (ap (λ (x : ℚ). x *ℚ 1 /ℚ 10000000000) (from_ℤ_mul (pos 1000000000) s) ∙ ring_ℚ 1 (λ s. 1000000000 # 1 :* s :* 1 # 10000000000 := s :* 1 # 10) tt (from_ℤ s))
      (ap (λ (x : ℚ). x *ℚ 1 /ℚ 10000000000) (from_ℤ_mul (pos 7) q)
      ∙ ring_ℚ 1 (λ q. 7 # 1 :* q :* 1 # 10000000000 := 7 # 10 :* (q :* 1 # 1000000000)) tt (from_ℤ q)
      ∙ ap (λ (x : ℚ). 7 /ℚ 10 *ℚ x) q_is)

  pub K_rounded : Rounded (sheet.K s q) billionths (equation.K (tenths s) C) (2322 over 1000) (50 over 1000000000)
  unfolding sheet.K equation.K
  K_rounded = chosen (lt_z (pos 7 *ℤ q) (pos 1000000000 *ℤ s)) (above_ℚ (tenths s) (7 /ℚ 10 *ℚ C)) seven_tenths bright dull
