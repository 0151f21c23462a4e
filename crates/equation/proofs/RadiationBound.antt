-- The radiation terms of the sheet against the equation: the black body's radiation B, the emittance, the back radiation, the net radiation Rn.
-- Each lemma is over whatever rounded numbers its line takes. Assumes nothing.
use mathlib.Core.Path.{◌≡◌, sym, ◌∙◌, ap}
use Prim.Native.Nat.{ℕ}
use lib.IntN.{ℤ, pos, ◌*ℤ◌}
use Rattle.numbers.specs.Whole.{whole_root}
use Rattle.ratios.specs.Solver.{◌:+◌, ◌:-◌, ◌:*◌, ◌:=◌}
use Rattle.ratios.specs.Ratios.{◌over◌}
use Rattle.numbers.specs.Fractions.{ℚ, ◌/ℚ◌, ◌+ℚ◌, ◌-ℚ◌, ◌*ℚ◌, ◌÷ℚ◌, ◌^ℚ◌, ◌≤ℚ◌}
use Rattle.numbers.specs.Rounding.{RootOf}
use Rattle.numbers.proofs.FractionSolver.{ring_ℚ, ◌#◌}
use Rattle.numbers.proofs.Order.{NonNeg, nonneg_add, nonneg_mul, nonneg_ratio, gap}
use Rattle.numbers.proofs.Inverse.{fraction_inverse}
use Rattle.numbers.proofs.Bounds.{Bounded, bounded}
use Rattle.numbers.proofs.Quotients.{rounds_down, rounds_toward_zero}
use Rattle.numbers.proofs.Rounded.{Rounded, weaken, in_unit, of_value, of_whole, sized, literal, sum, difference, product, multiple, scaled, divided, portion}
use Rattle.numbers.proofs.RoundedRoot.{root_rounded}
use Rattle.numbers.proofs.WholeRoots.{root_of}
use Rattle.sheet.specs.StepSheet as sheet
use Rattle.equation.specs.Equation as equation
use Rattle.equation.specs.Equation.{tenths}
use Rattle.equation.proofs.Units.{billionths, hundred_millionths, ten_millionths}

-- half of a number, as the equation writes it
pub half_is : (x : ℚ) → x ÷ℚ 2 /ℚ 1 ≡ x *ℚ 1 /ℚ 2
half_is x = ap (λ (i : ℚ). x *ℚ i) (fraction_inverse (2 over 1))

abbrev kelvin⁴ : ℤ → ℚ
kelvin⁴ f = (equation.t (tenths f) +ℚ 27316 /ℚ 100) ^ℚ 4

pub B_rounded : (maximum minimum : ℤ) → Rounded (sheet.fourth_power maximum) (1 over 65610000) ((equation.t (tenths maximum) +ℚ 27316 /ℚ 100) ^ℚ 4) (11461900000 over 1) (27 over 1) →
    Rounded (sheet.fourth_power minimum) (1 over 65610000) ((equation.t (tenths minimum) +ℚ 27316 /ℚ 100) ^ℚ 4) (11461900000 over 1) (27 over 1) →
    Rounded (sheet.B maximum minimum) ten_millionths (equation.B (tenths maximum) (tenths minimum)) (563 over 10) (4 over 10000000)
unfolding sheet.B equation.B
B_rounded maximum minimum x n =
    of_value
    (ring_ℚ 2 (λ x n. 6561 # 1000000000 :* (1 # 13122000 :* (4903 # 1 :* (x :+ n))) := 4903 # 1000000000000 :* ((x :+ n) :* 1 # 2)) tt (kelvin⁴ maximum) (kelvin⁴ minimum)
    ∙ ap (λ (h : ℚ). 4903 /ℚ 1000000000000 *ℚ h) (sym (half_is (kelvin⁴ maximum +ℚ kelvin⁴ minimum))))
    (weaken tt tt tt (scaled (6561 over 1000000000) tt (portion rounds_down 4903 13122000 tt tt (divided rounds_down 1000000 tt tt (sum x n)))))

-- the root of 10⁷ ea, in hundred-millionths: 10⁷ ea has units of 10⁻¹⁶
pub r_rounded : {ea : ℤ} {A x : ℚ} → Rounded ea billionths A (152 over 10) (62 over 1000000000) → 87 /ℚ 1000 ≤ℚ A → RootOf (1 /ℚ 100000000) A x → (n : ℕ) → pos 10000000 *ℤ ea ≡ pos n →
    Rounded (sheet.r ea) hundred_millionths x (39 over 10) (13 over 100000000)
unfolding sheet.r whole_root
r_rounded {A = A} {x = x} hea low hx n is =
    of_whole (ap whole_root (sym is))
    (weaken tt tt tt
    (root_rounded hundred_millionths (87 over 1000) (294 over 1000) (3899 over 1000) (106 over 1000000000) tt tt tt tt tt tt tt tt low
    (of_whole is (of_value (ring_ℚ 1 (λ a. 1 # 10000000 :* (10000000 # 1 :* a) := a) tt A) (weaken {v = 1 over 10000000000000000} {b = 152 over 10} {ε = 62 over 1000000000} tt tt tt (scaled (1 over 10000000) tt (multiple 10000000 hea)))))
    _ x (root_of n) hx))

pub emittance_rounded : {r a1 : ℤ} {x A1 : ℚ} → NonNeg x → 25 /ℚ 100 ≤ℚ A1 → Rounded r hundred_millionths x (39 over 10) (13 over 100000000) → Rounded a1 billionths A1 (361 over 1000) (1 over 2000000000) →
    Rounded (sheet.emittance a1 r) billionths (A1 -ℚ 139 /ℚ 1000 *ℚ x) (361 over 1000) (20 over 1000000000)
unfolding sheet.emittance
emittance_rounded {x = x} {A1 = A1} nx A1-low hr ha =
    sized (361 over 1000)
    (bounded (nonneg_add (nonneg_add (gap A1-low) (nonneg_mul (nonneg_ratio (139 over 1000) tt) (gap hr.size.high))) (nonneg_ratio (689 over 10000) tt))
    (ring_ℚ 2 (λ a x. a :- 139 # 1000 :* x :+ 361 # 1000 := a :- 25 # 100 :+ 139 # 1000 :* (39 # 10 :- x) :+ 689 # 10000) tt A1 x)
    (nonneg_add (gap ha.size.high) (nonneg_mul (nonneg_ratio (139 over 1000) tt) nx))
    (ring_ℚ 2 (λ a x. 361 # 1000 :- (a :- 139 # 1000 :* x) := 361 # 1000 :- a :+ 139 # 1000 :* x) tt A1 x))
    (of_value (ring_ℚ 2 (λ a x. a :- 1 # 1000 :* (139 # 1 :* x) := a :- 139 # 1000 :* x) tt A1 x)
    (weaken {b = 1 over 1} tt tt tt (difference ha (in_unit billionths tt (scaled (1 over 1000) tt (divided rounds_down 100 tt tt (multiple 139 hr)))))))

pub Rb_rounded : {e b k : ℤ} {E B K : ℚ} → Rounded e billionths E (361 over 1000) (20 over 1000000000) → Rounded b ten_millionths B (563 over 10) (4 over 10000000) → Rounded k billionths K (2322 over 1000) (50 over 1000000000) →
    Rounded (sheet.Rb e b k) ten_millionths (E *ℚ B *ℚ K) (472 over 10) (43 over 10000000)
unfolding sheet.Rb
Rb_rounded he hb hk =
    weaken tt tt tt (divided rounds_toward_zero 1000000000 tt tt (product (divided rounds_toward_zero 1000000000 tt tt (product he hb)) hk))

pub Rn_rounded : {albedo s rb : ℤ} {α R loss : ℚ} → 22 /ℚ 100 ≤ℚ α → Rounded albedo billionths α (36 over 100) (1 over 2000000000) → Rounded s (1 over 10) R (1200 over 1) (0 over 1) →
    Rounded rb ten_millionths loss (472 over 10) (43 over 10000000) → Rounded (sheet.Rn albedo s rb) ten_millionths (41868 /ℚ 1000000 *ℚ (1 /ℚ 1 -ℚ α) *ℚ R -ℚ loss) (865 over 10) (45 over 10000000)
unfolding sheet.Rn sheet.S
Rn_rounded {α = α} {R = R} α-low ha hs hb =
    weaken tt tt tt
    (difference
    (of_value {a = 392 over 10} {ε = 2 over 10000000} (ring_ℚ 2 (λ α r. (1 # 1 :- α) :* (1 # 1000000 :* (41868 # 1 :* r)) := 41868 # 1000000 :* (1 # 1 :- α) :* r) tt α R)
    (weaken tt tt tt
    (divided rounds_down 1000000000 tt tt
    (product (sized (78 over 100) taken_up (difference (literal (pos 1000000000) billionths (1 over 1) (1 over 1) tt tt tt) ha)) (in_unit ten_millionths tt (scaled (1 over 1000000) tt (multiple 41868 hs)))))))
    hb)
  where
    taken_up : Bounded (1 /ℚ 1 -ℚ α) (78 /ℚ 100)
    taken_up =
        bounded (nonneg_add (gap ha.size.high) (nonneg_ratio (142 over 100) tt)) (ring_ℚ 1 (λ a. 1 # 1 :- a :+ 78 # 100 := 36 # 100 :- a :+ 142 # 100) tt α) (gap α-low)
        (ring_ℚ 1 (λ a. 78 # 100 :- (1 # 1 :- a) := a :- 22 # 100) tt α)
