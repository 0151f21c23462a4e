-- Powers of fractions. Assumes nothing.
use mathlib.Core.Path.{◌≡◌, refl, sym, ◌∙◌, ap, ap₂, subst}
use Prim.Native.Nat.{ℕ, zero, suc, ◌^◌, ◌≤◌, ◌<◌, ◌*◌}
use native.Mathlib.Nat.{pow-zero, pow-suc}
use native.Mathlib.Omega.{arith}
use Rattle.ratios.specs.Solver.{◌:+◌, ◌:-◌, ◌:*◌, ◌:=◌}
use Rattle.ratios.specs.Ratios.{◌over◌}
use Rattle.numbers.specs.Fractions.{ℚ, ◌*ℚ◌, ◌-ℚ◌, ◌^ℚ◌, ◌≤ℚ◌, ◌<ℚ◌}
use Rattle.numbers.proofs.FractionSolver.{ring_ℚ, ◌#◌}
use Rattle.numbers.proofs.Order.{NonNeg, nonneg_mul, nonneg_ratio, nonneg_eq, of_nonneg, gap, from_gap, ≤ℚ_refl, *ℚ_at_least}
use Rattle.numbers.proofs.Order.{<ℚ_ratio, <ℚ-≤ℚ, <ℚ-≤ℚ_trans, ≤ℚ-<ℚ_trans, <ℚ_irrefl, not_above}
use Rattle.numbers.proofs.WholeFractions.{nonneg_ℕ, from_ℕ_mono}
use Rattle.numbers.proofs.StrictOrder.{whole, whole_mul, whole_below, gap_positive, from_positive_gap, positive_add, positive_mul, positive_cancel, nonneg_cancel}

pub power_product : (x y : ℚ) (n : ℕ) → (x *ℚ y) ^ℚ n ≡ x ^ℚ n *ℚ y ^ℚ n
power_product x y zero = ring_ℚ 0 (1 # 1 := 1 # 1 :* 1 # 1) tt
power_product x y (suc n) =
    ap (λ (z : ℚ). z *ℚ (x *ℚ y)) (power_product x y n)
    ∙ ring_ℚ 4 (λ a b x y. a :* b :* (x :* y) := a :* x :* (b :* y)) tt (x ^ℚ n) (y ^ℚ n) x y

pub power_one : (n : ℕ) → whole 1 ^ℚ n ≡ whole 1
power_one zero = refl
power_one (suc n) = ap (λ (z : ℚ). z *ℚ whole 1) (power_one n) ∙ ring_ℚ 0 (1 # 1 :* 1 # 1 := 1 # 1) tt

pub whole_power : (u n : ℕ) → whole (u ^ n) ≡ whole u ^ℚ n
whole_power u zero = ap (λ (k : ℕ). whole k) (pow-zero u)
whole_power u (suc n) = ap (λ (k : ℕ). whole k) (pow-suc u n) ∙ whole_mul (u ^ n) u ∙ ap (λ (z : ℚ). z *ℚ whole u) (whole_power u n)

pub power_nonneg : {x : ℚ} → NonNeg x → (n : ℕ) → NonNeg (x ^ℚ n)
power_nonneg h zero = nonneg_ratio (1 over 1) tt
power_nonneg h (suc n) = nonneg_mul (power_nonneg h n) h

pub power_mono : {x y : ℚ} → NonNeg x → x ≤ℚ y → (n : ℕ) → x ^ℚ n ≤ℚ y ^ℚ n
power_mono h l zero = ≤ℚ_refl (whole 1)
power_mono h l (suc n) = *ℚ_at_least (power_nonneg h n) h (power_mono h l n) l

pub power_positive : {x : ℚ} → whole 0 <ℚ x → (n : ℕ) → whole 0 <ℚ x ^ℚ n
power_positive h zero = <ℚ_ratio (1 over 1) tt
power_positive h (suc n) = positive_mul (power_positive h n) h

power_below : {x y : ℚ} → NonNeg x → x <ℚ y → (n : ℕ) → x ^ℚ suc n <ℚ y ^ℚ suc n
power_below {x} {y} n h k =
    from_positive_gap
    (positive_add (positive_mul (power_positive (≤ℚ-<ℚ_trans (of_nonneg n) h) k) (gap_positive h))
    (nonneg_mul (gap (power_mono n (<ℚ-≤ℚ h) k)) n))
    (ring_ℚ 4 (λ p q x y. q :* y :- p :* x := q :* (y :- x) :+ (q :- p) :* x) tt (x ^ℚ k) (y ^ℚ k) x y)

-- xⁿ ≤ yⁿ gives x ≤ y, where y is not below 0
pub power_cancel : {x y : ℚ} → NonNeg y → (n : ℕ) → 0 < n → x ^ℚ n ≤ℚ y ^ℚ n → x ≤ℚ y
power_cancel ny zero p h = absurd (omega arith)
power_cancel ny (suc n) p h = not_above (λ l. <ℚ_irrefl (<ℚ-≤ℚ_trans (power_below ny l n) h))

-- the power of x = u/v, over the power of v
power_over : (x : ℚ) (u v n : ℕ) → whole v *ℚ x ≡ whole u → whole (u ^ n) ≡ whole v ^ℚ n *ℚ x ^ℚ n
power_over x u v n h = whole_power u n ∙ ap (λ (z : ℚ). z ^ℚ n) (sym h) ∙ power_product (whole v) x n

-- ---- the powers of two fractions, by cross multiplication

-- vᵐ bᵏ (yᵏ - xᵐ), for x = u/v and y = a/b
powers_gap : (x y : ℚ) (u v a b m k : ℕ) → whole v *ℚ x ≡ whole u → whole b *ℚ y ≡ whole a →
    whole (a ^ k * v ^ m) -ℚ whole (u ^ m * b ^ k) ≡ whole v ^ℚ m *ℚ whole b ^ℚ k *ℚ (y ^ℚ k -ℚ x ^ℚ m)
powers_gap x y u v a b m k hx hy =
    ap₂ (λ (r l : ℚ). r -ℚ l) (whole_mul (a ^ k) (v ^ m) ∙ ap₂ ◌*ℚ◌ (power_over y a b k hy) (whole_power v m))
    (whole_mul (u ^ m) (b ^ k) ∙ ap₂ ◌*ℚ◌ (power_over x u v m hx) (whole_power b k))
    ∙ ring_ℚ 4 (λ v x b y. b :* y :* v :- v :* x :* b := v :* b :* (y :- x)) tt (whole v ^ℚ m) (x ^ℚ m) (whole b ^ℚ k) (y ^ℚ k)

pub powers_below : (x y : ℚ) (u v a b m k : ℕ) → whole v *ℚ x ≡ whole u → whole b *ℚ y ≡ whole a →
    u ^ m * b ^ k < a ^ k * v ^ m → x ^ℚ m <ℚ y ^ℚ k
powers_below x y u v a b m k hx hy h =
    from_positive_gap
    (positive_cancel (nonneg_mul (power_nonneg (nonneg_ℕ v) m) (power_nonneg (nonneg_ℕ b) k))
    (subst (λ z. whole 0 <ℚ z) (powers_gap x y u v a b m k hx hy) (gap_positive (whole_below h)))) refl

pub powers_at_most : (x y : ℚ) (u v a b m k : ℕ) → 0 < v → 0 < b → whole v *ℚ x ≡ whole u → whole b *ℚ y ≡ whole a →
    u ^ m * b ^ k ≤ a ^ k * v ^ m → x ^ℚ m ≤ℚ y ^ℚ k
powers_at_most x y u v a b m k pv pb hx hy h =
    from_gap
    (nonneg_cancel (positive_mul (power_positive (whole_below pv) m) (power_positive (whole_below pb) k))
    (nonneg_eq (sym (powers_gap x y u v a b m k hx hy)) (gap (from_ℕ_mono h)))) refl
