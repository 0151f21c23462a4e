-- The wind run that counts, the wind factor, the vapour pressure deficit and the drying term T of the sheet against the equation. At the routine's limit
-- the first is document 01's (`as_before`). Assumes nothing.
use mathlib.Core.Path.{◌≡◌, refl, sym, ap, subst}
use mathlib.Core.Bool.{Bool, true, false, cond}
use lib.Dec.{T}
use lib.IntN.{ℤ, pos, ◌+ℤ◌, ◌*ℤ◌, *ℤ_comm}
use lib.Signed.{◌≤ℤ◌}
use Rattle.numbers.specs.Whole.{◌÷↓◌, ◌÷0◌, at_most_ℤ}
use Rattle.ratios.specs.Solver.{con, ◌:+◌, ◌:-◌, ◌:*◌, ◌:=◌}
use Rattle.ratios.specs.IntegerSolver.{ring_ℤ}
use Rattle.ratios.specs.Ratios.{◌over◌}
use Rattle.numbers.specs.Fractions.{ℚ, ◌/ℚ◌, ◌+ℚ◌, ◌-ℚ◌, ◌*ℚ◌, ◌÷ℚ◌, nonneg, ◌≤ℚ◌, at_most_ℚ}
use Rattle.numbers.proofs.FractionSolver.{ring_ℚ, ◌#◌}
use Rattle.numbers.proofs.Order.{NonNeg, nonneg_add, nonneg_mul, nonneg_ratio, nonneg_of, gap, from_gap, ≤ℚ_refl, ≤ℚ_ratio}
use Rattle.numbers.proofs.WholeFractions.{from_ℤ_mono}
use Rattle.numbers.proofs.Bounds.{Bounded, bounded, bounded_weaken, bounded_eq, bounded_nonneg, bounded_sub}
use Rattle.numbers.proofs.Quotients.{rounds_down, rounds_toward_zero}
use Rattle.numbers.proofs.Rounded.{Rounded, weaken, in_unit, of_value, of_whole, sized, in_range_lem, sum, difference, product, scaled, divided, portion}
use Rattle.numbers.proofs.RoundedLimit.{limited_above}
use Rattle.sheet.specs.Quantities.{routine_limit}
use Rattle.sheet.specs.StepSheet as sheet
use Rattle.equation.specs.Equation as equation
use Rattle.equation.specs.Equation.{tenths}
use Rattle.equation.proofs.Units.{billionths, ten_millionths}
use Rattle.equation.proofs.Ends.{IsLimit}
use Rattle.equation.proofs.TemperatureBound.{nonneg_above}
use Rattle.equation.proofs.RadiationBound.{half_is}

-- a limit from above of a number that is not below 0
limit_bounded : (l x : ℚ) → NonNeg l → NonNeg x → Bounded (at_most_ℚ l x) l
unfolding at_most_ℚ
limit_bounded l x nl nx = by_test (nonneg (l -ℚ x)) refl
  where
    by_test : (b : Bool) → nonneg (l -ℚ x) ≡ b → Bounded (cond b x l) l
    by_test true p = bounded_nonneg nx (record { le = subst T (sym p) tt })
    by_test false p = bounded_nonneg nl (≤ℚ_refl l)

-- the wind run that counts: at most the station's limit, and so at most the routine's
pub u_rounded : {limit : ℤ} → IsLimit limit → (w : ℤ) → pos 0 ≤ℤ w → w ≤ℤ pos 9999 →
    Rounded (sheet.counted_wind limit w) (1 over 10) (equation.u (tenths limit) (tenths w)) (routine_limit over 10) (0 over 1)
unfolding sheet.counted_wind equation.u
u_rounded {limit} is w lo hi =
    let size = (in_range_lem limit (pos 0) (pos routine_limit) (1 over 10) (routine_limit over 10) is.low is.high tt tt tt).size in
    sized (routine_limit over 10) (bounded_weaken (limit_bounded (tenths limit) (tenths w) (in_tenths is.low) (in_tenths lo)) size.high)
    (limited_above limit tt (bounded_weaken size (≤ℚ_ratio (routine_limit over 10) (9999 over 10) tt))
    (in_range_lem w (pos 0) (pos 9999) (1 over 10) (9999 over 10) lo hi tt tt tt))
  where
    in_tenths : {z : ℤ} → pos 0 ≤ℤ z → NonNeg (tenths z)
    in_tenths h = nonneg_mul (nonneg_of (from_ℤ_mono h)) (nonneg_ratio (1 over 10) tt)

-- at the routine's limit both lines are document 01's: 1,500 tenths, and 150 miles
pub as_before : (w : ℤ) → (sheet.counted_wind (pos routine_limit) w ≡ at_most_ℤ (pos 1_500) w) × (equation.u (tenths (pos routine_limit)) (tenths w) ≡ at_most_ℚ (150 /ℚ 1) (tenths w))
unfolding sheet.counted_wind equation.u
as_before w = (refl, ap (λ (l : ℚ). at_most_ℚ l (tenths w)) (ring_ℚ 0 (1500 # 1 :* 1 # 10 := 150 # 1) tt))

pub Wf_rounded : {aw bw w : ℤ} {Aw Bw u : ℚ} → Rounded aw billionths Aw (1801 over 1000) (1 over 2000000000) → Rounded bw billionths Bw (111 over 10000) (1 over 2000000000) → Rounded w (1 over 10) u (routine_limit over 10) (0 over 1) →
    Rounded (sheet.Wf aw bw w) billionths (Aw +ℚ 16093 /ℚ 10000 *ℚ Bw *ℚ u) (45 over 10) (123 over 1000000000)
unfolding sheet.Wf
Wf_rounded {aw = aw} {bw = bw} {w = w} {Aw = Aw} {Bw = Bw} {u = u} ha hb hw =
    of_whole (ap (λ (z : ℤ). aw +ℤ (z ÷↓ pos 100000)) (ring_ℤ 2 (λ b w. con (pos 16093) :* (b :* w) := b :* (con (pos 16093) :* w)) tt bw w))
    (of_value (ring_ℚ 3 (λ a b u. a :+ 10 # 1 :* (1 # 100000 :* (16093 # 1 :* (b :* u))) := a :+ 16093 # 10000 :* b :* u) tt Aw Bw u)
    (weaken tt tt tt (sum ha (in_unit billionths tt (scaled (10 over 1) tt (portion rounds_down 16093 100000 tt tt (product hb hw)))))))

-- the vapour pressures lie between 0.087 and 15.2 kPa, so their difference is no larger
pub V_rounded : {ex en ea : ℤ} {X N A : ℚ} → Rounded ex billionths X (152 over 10) (62 over 1000000000) → Rounded en billionths N (152 over 10) (62 over 1000000000) → Rounded ea billionths A (152 over 10) (62 over 1000000000) →
    87 /ℚ 1000 ≤ℚ X → 87 /ℚ 1000 ≤ℚ N → 87 /ℚ 1000 ≤ℚ A → Rounded (sheet.«V» ex en ea) billionths ((X +ℚ N) ÷ℚ 2 /ℚ 1 -ℚ A) (152 over 10) (125 over 1000000000)
unfolding sheet.«V»
V_rounded {X = X} {N = N} {A = A} hx hn ha lx ln la =
    of_value (ap (λ (h : ℚ). h -ℚ A) (sym (half_is (X +ℚ N))))
    (weaken tt tt tt
    (sized (152 over 10)
    (bounded_sub (nonneg_mul (nonneg_add (above_zero lx) (above_zero ln)) (nonneg_ratio (1 over 2) tt))
    (from_gap (nonneg_mul (nonneg_add (gap hx.size.high) (gap hn.size.high)) (nonneg_ratio (1 over 2) tt))
    (ring_ℚ 2 (λ x n. 152 # 10 :- (x :+ n) :* 1 # 2 := (152 # 10 :- x :+ (152 # 10 :- n)) :* 1 # 2) tt X N))
    (above_zero la) ha.size.high)
    (of_value (ring_ℚ 3 (λ x n a. 1 # 2 :* (x :+ n) :- a := (x :+ n) :* 1 # 2 :- a) tt X N A)
    (difference (in_unit billionths tt (scaled (1 over 2) tt (divided rounds_down 2 tt tt (sum hx hn)))) ha))))
  where
    above_zero : {x : ℚ} → 87 /ℚ 1000 ≤ℚ x → NonNeg x
    above_zero h = nonneg_above (nonneg_ratio (87 over 1000) tt) h

-- how large the deficit is at a slope D of the mean: the minimum is no higher than the mean, whose vapour pressure is at most 20.42 D + 0.0069,
-- and the dew point no higher than the maximum
pub V_bounded : {X N A M D : ℚ} → X ≤ℚ 152 /ℚ 10 → A ≤ℚ 152 /ℚ 10 → 87 /ℚ 1000 ≤ℚ N → 87 /ℚ 1000 ≤ℚ A → NonNeg D →
    N ≤ℚ M +ℚ 9 /ℚ 1000 → M ≤ℚ 2042 /ℚ 100 *ℚ D +ℚ 69 /ℚ 10000 → A ≤ℚ X +ℚ 9 /ℚ 1000 → Bounded ((X +ℚ N) ÷ℚ 2 /ℚ 1 -ℚ A) (76 /ℚ 10 +ℚ 1021 /ℚ 100 *ℚ D)
V_bounded {X} {N} {A} {M} {D} hX hA lN lA nD hN hM hAX =
    bounded_eq (ap (λ (h : ℚ). h -ℚ A) (half_is (X +ℚ N)))
    (bounded
    (nonneg_add (nonneg_mul (nonneg_ratio (1 over 2) tt) (nonneg_add (nonneg_add (gap hAX) (gap lN)) (gap hA)))
    (nonneg_add (nonneg_mul (nonneg_ratio (1021 over 100) tt) nD) (nonneg_ratio (39 over 1000) tt)))
    (ring_ℚ 4 (λ x n a d. (x :+ n) :* 1 # 2 :- a :+ (76 # 10 :+ 1021 # 100 :* d) := 1 # 2 :* (x :+ 9 # 1000 :- a :+ (n :- 87 # 1000) :+ (152 # 10 :- a)) :+ (1021 # 100 :* d :+ 39 # 1000)) tt X N A D)
    (nonneg_add (nonneg_mul (nonneg_ratio (1 over 2) tt) (nonneg_add (nonneg_add (gap hN) (gap hM)) (gap hX))) (nonneg_add (gap lA) (nonneg_ratio (7905 over 100000) tt)))
    (ring_ℚ 5 (λ x n a m d. 76 # 10 :+ 1021 # 100 :* d :- ((x :+ n) :* 1 # 2 :- a) := 1 # 2 :* (m :+ 9 # 1000 :- n :+ (2042 # 100 :* d :+ 69 # 10000 :- m) :+ (152 # 10 :- x)) :+ (a :- 87 # 1000 :+ 7905 # 100000)) tt X N A M D))

pub T_rounded : {v wf : ℤ} {V' W : ℚ} → Rounded v billionths V' (152 over 10) (125 over 1000000000) → Rounded wf billionths W (45 over 10) (123 over 1000000000) →
    Rounded (sheet.T v wf) ten_millionths (643 /ℚ 100 *ℚ W *ℚ V') (440 over 1) (196 over 10000000)
unfolding sheet.T
T_rounded {v = v} {wf = wf} {V' = V'} {W = W} hv hw =
    of_whole (ap (λ (z : ℤ). z ÷0 pos 100) (*ℤ_comm (pos 643) (((v ÷0 pos 100) *ℤ wf) ÷0 pos 1000000000)))
    (of_value (ring_ℚ 2 (λ v w. 1 # 100 :* (643 # 1 :* (v :* w)) := 643 # 100 :* w :* v) tt V' W)
    (weaken tt tt tt (portion rounds_toward_zero 643 100 tt tt (divided rounds_toward_zero 1000000000 tt tt (product (divided rounds_toward_zero 100 tt tt hv) hw)))))
