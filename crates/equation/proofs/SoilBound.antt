-- The soil heat of the sheet against the equation's G, for up to three earlier means. Assumes nothing.
use mathlib.Core.Path.{◌≡◌, refl, sym, ◌∙◌, ap, ap₂}
use mathlib.Core.List.{List, [], ◌∷◌, map}
use Prim.Native.Nat.{ℕ, ◌≤◌, suc-le-suc, zero-le}
use native.Mathlib.Omega.{arith}
use lib.IntN.{ℤ, pos, negsuc, ◌-ℤ◌, ◌*ℤ◌}
use lib.ListN.{length}
use lib.Signed.{◌≤ℤ◌}
use Rattle.ratios.specs.Solver.{con, ◌:+◌, ◌:-◌, ◌:*◌, :-◌, ◌:=◌}
use Rattle.ratios.specs.Ratios.{◌over◌}
use Rattle.numbers.specs.Fractions.{ℚ, from_ℤ, ◌/ℚ◌, ◌+ℚ◌, ◌-ℚ◌, ◌*ℚ◌, -ℚ◌, inverse, ◌÷ℚ◌, ◌≤ℚ◌, ◌<ℚ◌}
use Rattle.numbers.proofs.FractionSolver.{ring_ℚ, from_multiple_ℚ, ◌#◌}
use Rattle.numbers.proofs.Order.{nonneg_add, nonneg_mul, nonneg_ratio, gap, from_gap, ≤ℚ_eq, <ℚ_ratio, <ℚ-≤ℚ_trans}
use Rattle.numbers.proofs.WholeFractions.{nonneg_ℕ, from_ℤ_add, from_ℤ_mul, from_ℤ_sub, from_ℤ_mono, from_ℕ_mono}
use Rattle.numbers.proofs.Inverse.{*ℚ_inverse, nonneg_inverse_of}
use Rattle.numbers.proofs.Bounds.{Bounded, bounded, bounded_add, bounded_eq, bounded_weaken, bounded_scale, bounded_nonneg}
use Rattle.numbers.proofs.Quotients.{rounds_toward_zero}
use Rattle.numbers.proofs.Rounded.{Rounded, wholeᴿ, weaken, of_value, exact, literal, multiple, scaled}
use Rattle.numbers.proofs.RoundedQuotient.{quotient_rounded}
use Rattle.sheet.specs.StepSheet.{sum_of}
use Rattle.sheet.specs.StepSheet as sheet
use Rattle.equation.specs.Equation as equation
use Rattle.equation.proofs.FigureNear.{AllTemperatures, none, more}
use Rattle.equation.specs.Equation.{tenths}
use Rattle.equation.proofs.Units.{ten_millionths}
use Rattle.equation.proofs.Ends.{IsTemperature, temperature_ends}
use Rattle.equation.proofs.TemperatureBound.{t_is}

-- their number, as a fraction
abbrev count : List ℤ → ℚ
count fs = from_ℤ (pos (length fs))

count_more : (f : ℤ) (fs : List ℤ) → count (f ∷ fs) ≡ 1 /ℚ 1 +ℚ count fs
count_more f fs = ap (λ (n : ℕ). from_ℤ (pos n)) (omega arith) ∙ from_ℤ_add (pos 1) (pos (length fs))

number_is : (fs : List ℤ) → equation.number_of (map tenths fs) ≡ count fs
unfolding equation.number_of
number_is [] = refl
number_is (f ∷ fs) = ap (λ (n : ℚ). 1 /ℚ 1 +ℚ n) (number_is fs) ∙ sym (count_more f fs)

-- t is linear: the sum of t is that at the sum, with 32 °F for each
sum_is : (fs : List ℤ) → equation.sum_of (map tenths fs) ≡ (from_ℤ (sum_of fs) *ℚ 1 /ℚ 10 -ℚ 32 /ℚ 1 *ℚ count fs) *ℚ 10 /ℚ 18
unfolding equation.sum_of sum_of
sum_is [] = ring_ℚ 0 (0 # 1 := (0 # 1 :* 1 # 10 :- 32 # 1 :* 0 # 1) :* 10 # 18) tt
sum_is (f ∷ fs) =
    ap₂ ◌+ℚ◌ (t_is (tenths f)) (sum_is fs)
    ∙ ring_ℚ 3 (λ f z n. (f :* 1 # 10 :- 32 # 1) :* 10 # 18 :+ (z :* 1 # 10 :- 32 # 1 :* n) :* 10 # 18 := ((f :+ z) :* 1 # 10 :- 32 # 1 :* (1 # 1 :+ n)) :* 10 # 18) tt (from_ℤ f) (from_ℤ (sum_of fs)) (count fs)
    ∙ ap₂ (λ (z n : ℚ). (z *ℚ 1 /ℚ 10 -ℚ 32 /ℚ 1 *ℚ n) *ℚ 10 /ℚ 18) (sym (from_ℤ_add f (sum_of fs))) (sym (count_more f fs))

-- ---- k m - z: at most 1,385 tenths for each mean

module _ (m : ℤ) (lo : negsuc 93 ≤ℤ m) (hi : m ≤ℤ pos 1291) where
  change : List ℤ → ℚ
  change fs = count fs *ℚ from_ℤ m -ℚ from_ℤ (sum_of fs)

  one_bounded : {f : ℤ} → IsTemperature f → Bounded (from_ℤ m -ℚ from_ℤ f) (1385 /ℚ 1)
  one_bounded {f} between =
      bounded (nonneg_add (gap (from_ℤ_mono lo)) (gap (from_ℤ_mono between.high)))
      (ring_ℚ 2 (λ m f. m :- f :+ 1385 # 1 := m :- con (wholeᴿ (negsuc 93)) :+ (1291 # 1 :- f)) tt (from_ℤ m) (from_ℤ f))
      (nonneg_add (gap (from_ℤ_mono hi)) (gap (from_ℤ_mono between.low)))
      (ring_ℚ 2 (λ m f. 1385 # 1 :- (m :- f) := 1291 # 1 :- m :+ (f :- con (wholeᴿ (negsuc 93)))) tt (from_ℤ m) (from_ℤ f))

  change_bounded : (fs : List ℤ) → AllTemperatures fs → Bounded (change fs) (1385 /ℚ 1 *ℚ count fs)
  unfolding change sum_of
  change_bounded [] none =
      bounded (nonneg_ratio (0 over 1) tt) (ring_ℚ 1 (λ m. 0 # 1 :* m :- 0 # 1 :+ 1385 # 1 :* 0 # 1 := 0 # 1) tt (from_ℤ m)) (nonneg_ratio (0 over 1) tt)
      (ring_ℚ 1 (λ m. 1385 # 1 :* 0 # 1 :- (0 # 1 :* m :- 0 # 1) := 0 # 1) tt (from_ℤ m))
  change_bounded (f ∷ fs) (more p rest) =
      bounded_weaken
      (bounded_eq
      (ap₂ (λ (n z : ℚ). n *ℚ from_ℤ m -ℚ z) (count_more f fs) (from_ℤ_add f (sum_of fs))
      ∙ ring_ℚ 4 (λ m f n z. (1 # 1 :+ n) :* m :- (f :+ z) := m :- f :+ (n :* m :- z)) tt (from_ℤ m) (from_ℤ f) (count fs) (from_ℤ (sum_of fs)))
      (bounded_add (one_bounded (temperature_ends p)) (change_bounded fs rest)))
      (≤ℚ_eq (ring_ℚ 1 (λ n. 1385 # 1 :+ 1385 # 1 :* n := 1385 # 1 :* (1 # 1 :+ n)) tt (count fs) ∙ ap (λ (n : ℚ). 1385 /ℚ 1 *ℚ n) (sym (count_more f fs))))

  change_is : (fs : List ℤ) → from_ℤ (pos (length fs) *ℤ m -ℤ sum_of fs) ≡ change fs
  unfolding change
  change_is fs = from_ℤ_sub (pos (length fs) *ℤ m) (sum_of fs) ∙ ap (λ (x : ℚ). x -ℚ from_ℤ (sum_of fs)) (from_ℤ_mul (pos (length fs)) m)

  module _ (f : ℤ) (fs : List ℤ) (all : AllTemperatures (f ∷ fs)) (few : length (f ∷ fs) ≤ 3) where
    n : ℚ
    n = count (f ∷ fs)

    some : 1 /ℚ 1 ≤ℚ n
    unfolding n
    some = from_ℕ_mono (suc-le-suc zero-le)

    n_above : from_ℤ (pos 0) <ℚ n
    n_above = <ℚ-≤ℚ_trans (<ℚ_ratio (1 over 1) tt) some

    -- 0.377 (t at the mean, less the mean of t) is 377/18,000 (k m - z)/k
    G_is : (change (f ∷ fs) *ℚ 377 /ℚ 18000) ÷ℚ n ≡ equation.G (tenths m) (map tenths (f ∷ fs))
    unfolding equation.G change n
    G_is =
        from_multiple_ℚ (377 /ℚ 18000 *ℚ from_ℤ m -ℚ 12064 /ℚ 1800) (*ℚ_inverse n_above)
        (ring_ℚ 4 (λ m z n i. (n :* m :- z) :* 377 # 18000 :* i :- 377 # 1000 :* ((m :* 1 # 10 :- 32 # 1) :* 10 # 18 :- (z :* 1 # 10 :- 32 # 1 :* n) :* 10 # 18 :* i) := (377 # 18000 :* m :- 12064 # 1800) :* (n :* i :- 1 # 1)) tt
        (from_ℤ m) (from_ℤ (sum_of (f ∷ fs))) (count (f ∷ fs)) (inverse (count (f ∷ fs))))
        ∙ sym
        (ap₂ (λ (a b : ℚ). 377 /ℚ 1000 *ℚ (a -ℚ b)) (t_is (tenths m))
        (ap₂ (λ (a b : ℚ). a *ℚ inverse b) (sum_is (f ∷ fs)) (number_is (f ∷ fs))))

    dividend : Rounded (pos 1885000 *ℤ (pos (length (f ∷ fs)) *ℤ m -ℤ sum_of (f ∷ fs))) (1 over 90000000) (change (f ∷ fs) *ℚ 377 /ℚ 18000) (88 over 1) (0 over 1)
    dividend =
        of_value
        (ring_ℚ 1 (λ e. 1 # 1885000 :* (1885000 # 1 :* (e :* 377 # 18000)) := e :* 377 # 18000) tt (from_ℤ (pos (length (f ∷ fs)) *ℤ m -ℤ sum_of (f ∷ fs)))
        ∙ ap (λ (x : ℚ). x *ℚ 377 /ℚ 18000) (change_is (f ∷ fs)))
        (weaken tt tt tt
        (scaled (1 over 1885000) tt
        (multiple 1885000
        (exact (pos (length (f ∷ fs)) *ℤ m -ℤ sum_of (f ∷ fs)) (377 over 18000) (88 over 1) (bounded_eq (ap (λ (x : ℚ). x *ℚ 377 /ℚ 18000) (change_is (f ∷ fs))) size)))))
      where
        size : Bounded (change (f ∷ fs) *ℚ 377 /ℚ 18000) (88 /ℚ 1)
        size =
            bounded_weaken
            (bounded_eq (ring_ℚ 1 (λ e. e :* 377 # 18000 := 377 # 18000 :* e) tt (change (f ∷ fs))) (bounded_scale (377 /ℚ 18000) (nonneg_ratio (377 over 18000) tt) (change_bounded (f ∷ fs) all)))
            (from_gap (nonneg_add (nonneg_mul (nonneg_ratio (522145 over 18000) tt) (gap (from_ℕ_mono few))) (nonneg_ratio (17565 over 18000) tt))
            (ring_ℚ 1 (λ k. 88 # 1 :- 377 # 18000 :* (1385 # 1 :* k) := 522145 # 18000 :* (3 # 1 :- k) :+ 17565 # 18000) tt (count (f ∷ fs))))

    divisor : Rounded (pos 9 *ℤ pos (length (f ∷ fs))) (1 over 9) n (3 over 1) (0 over 1)
    unfolding n
    divisor =
        of_value (ring_ℚ 1 (λ k. 1 # 9 :* (9 # 1 :* (k :* 1 # 1)) := k) tt (count (f ∷ fs)))
        (weaken tt tt tt
        (scaled (1 over 9) tt
        (multiple 9
        (exact (pos (length (f ∷ fs))) (1 over 1) (3 over 1)
        (bounded_eq (ring_ℚ 1 (λ k. k :* 1 # 1 := k) tt (count (f ∷ fs))) (bounded_nonneg (nonneg_ℕ (length (f ∷ fs))) (from_ℕ_mono few)))))))

    -- at most 1,385 · 377/18,000
    size : Bounded ((change (f ∷ fs) *ℚ 377 /ℚ 18000) ÷ℚ n) (30 /ℚ 1)
    unfolding n
    size =
        bounded_weaken
        (bounded_eq (ring_ℚ 2 (λ e i. e :* 377 # 18000 :* i := i :* 377 # 18000 :* e) tt (change (f ∷ fs)) (inverse n))
        (bounded_scale (inverse n *ℚ 377 /ℚ 18000) (nonneg_mul (nonneg_inverse_of n_above) (nonneg_ratio (377 over 18000) tt)) (change_bounded (f ∷ fs) all)))
        (from_gap (nonneg_ratio (3571 over 3600) tt)
        (from_multiple_ℚ (-ℚ (522145 /ℚ 18000)) (*ℚ_inverse n_above)
        (ring_ℚ 2 (λ k i. 30 # 1 :- i :* 377 # 18000 :* (1385 # 1 :* k) :- 3571 # 3600 := :- (522145 # 18000) :* (k :* i :- 1 # 1)) tt (count (f ∷ fs)) (inverse (count (f ∷ fs))))))

    some_means : Rounded (sheet.soil_heat m (pos (length (f ∷ fs))) (sum_of (f ∷ fs))) ten_millionths (equation.G (tenths m) (map tenths (f ∷ fs))) (30 over 1) (1 over 10000000)
    unfolding sheet.soil_heat
    some_means =
        of_value G_is (weaken tt tt tt (quotient_rounded rounds_toward_zero ten_millionths (1 over 1) tt tt tt tt some dividend divisor (30 over 1) size))

  pub soil_rounded : (fs : List ℤ) → AllTemperatures fs → length fs ≤ 3 →
      Rounded (sheet.soil_heat m (pos (length fs)) (sum_of fs)) ten_millionths (equation.G (tenths m) (map tenths fs)) (30 over 1) (1 over 10000000)
  unfolding sheet.soil_heat equation.G
  soil_rounded [] all few = weaken tt tt tt (literal (pos 0) ten_millionths (0 over 1) (30 over 1) tt tt tt)
  soil_rounded (f ∷ fs) all few = some_means f fs all few
