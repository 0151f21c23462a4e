-- The inverse of a fraction, and quotients. Assumes nothing.
use mathlib.Core.Path.{◌≡◌, refl, ap, subst}
use mathlib.Core.HLevel.{Π_prop}
use mathlib.Core.Bool.{not}
use mathlib.Core.Quot.{sound, Quot-set, ind}
use Prim.Native.Nat.{ℕ, zero, suc}
use native.Mathlib.Nat.{mul_comm}
use native.Mathlib.Omega.{arith}
use lib.Dec.{T, T_prop}
use lib.IntN.{ℤ, pos, negsuc, neg_ℤ}
use lib.Signed.{non_neg}
use Rattle.ratios.specs.Solver.{◌:+◌, ◌:-◌, ◌:*◌, :-◌, ◌:=◌}
use Rattle.ratios.specs.Ratios.{Ratio, ◌*ᴿ◌, reciprocal, inverseᴿ}
use Rattle.ratios.proofs.Congruence.{product_suc}
use Rattle.numbers.specs.Fractions.{ℚ, fraction, from_ℤ, ◌*ℚ◌, -ℚ◌, ◌-ℚ◌, inverse, ◌÷ℚ◌, nonneg, ◌≤ℚ◌, ◌<ℚ◌}
use Rattle.numbers.proofs.FractionSolver.{ring_ℚ, from_multiple_ℚ, ◌#◌}
use Rattle.numbers.proofs.Order.{NonNeg, nonneg_add, nonneg_mul, nonneg_of, gap, from_gap, <ℚ-≤ℚ, <ℚ-≤ℚ_trans}

pub fraction_inverse : (a : Ratio) → inverse (fraction a) ≡ fraction (inverseᴿ a)
unfolding inverse
fraction_inverse a = refl

-- ---- x times its inverse, where x is above 0

reciprocal_cancels : (z : ℤ) (d : ℕ) → T (not (non_neg (neg_ℤ z))) → fraction (record { numerator = z; denominator_minus_1 = d } *ᴿ reciprocal z d) ≡ from_ℤ (pos 1)
reciprocal_cancels (pos zero) d t = absurd t
reciprocal_cancels (pos (suc n)) d t = sound (ap pos (omega (arith, product_suc d n, mul_comm (suc d) (suc n))))
reciprocal_cancels (negsuc n) d t = absurd t

inverse_ratio : (a : Ratio) → T (not (nonneg (-ℚ fraction a))) → fraction a *ℚ inverse (fraction a) ≡ from_ℤ (pos 1)
unfolding nonneg -ℚ◌ ◌*ℚ◌ inverse
inverse_ratio a t = reciprocal_cancels a.numerator a.denominator_minus_1 t

inverse_test : (x : ℚ) → T (not (nonneg (-ℚ x))) → x *ℚ inverse x ≡ from_ℤ (pos 1)
inverse_test =
    ind {β = λ x. T (not (nonneg (-ℚ x))) → x *ℚ inverse x ≡ from_ℤ (pos 1)} (λ x. Π_prop (λ t. Quot-set (x *ℚ inverse x) (from_ℤ (pos 1))))
    inverse_ratio

pub *ℚ_inverse : {x : ℚ} → from_ℤ (pos 0) <ℚ x → x *ℚ inverse x ≡ from_ℤ (pos 1)
*ℚ_inverse {x} h = inverse_test x (subst (λ z. T (not (nonneg z))) (ring_ℚ 1 (λ x. 0 # 1 :- x := :- x) tt x) h.lt)

-- ---- the inverse of what is not below 0

non_neg_reciprocal : (z : ℤ) (d : ℕ) → T (non_neg z) → T (non_neg (reciprocal z d).numerator)
non_neg_reciprocal (pos zero) d t = tt
non_neg_reciprocal (pos (suc n)) d t = tt
non_neg_reciprocal (negsuc n) d t = absurd t

nonneg_inverse_ratio : (a : Ratio) → T (nonneg (fraction a)) → T (nonneg (inverse (fraction a)))
unfolding nonneg inverse
nonneg_inverse_ratio a t = non_neg_reciprocal a.numerator a.denominator_minus_1 t

nonneg_inverse_test : (x : ℚ) → T (nonneg x) → T (nonneg (inverse x))
nonneg_inverse_test =
    ind {β = λ x. T (nonneg x) → T (nonneg (inverse x))} (λ x. Π_prop (λ t. T_prop (nonneg (inverse x)))) nonneg_inverse_ratio

pub nonneg_inverse : {x : ℚ} → NonNeg x → NonNeg (inverse x)
nonneg_inverse {x} h = record { test = nonneg_inverse_test x h.test }

pub nonneg_inverse_of : {x : ℚ} → from_ℤ (pos 0) <ℚ x → NonNeg (inverse x)
nonneg_inverse_of h = nonneg_inverse (nonneg_of (<ℚ-≤ℚ h))

-- ---- quotients

pub inverse_mul : {x y : ℚ} → from_ℤ (pos 0) <ℚ x → from_ℤ (pos 0) <ℚ y → from_ℤ (pos 0) <ℚ x *ℚ y → inverse (x *ℚ y) ≡ inverse x *ℚ inverse y
inverse_mul {x} {y} hx hy hxy =
    from_multiple_ℚ (-ℚ inverse (x *ℚ y)) (*ℚ_inverse hx)
    (from_multiple_ℚ (-ℚ (inverse (x *ℚ y) *ℚ x *ℚ inverse x)) (*ℚ_inverse hy)
    (from_multiple_ℚ (inverse x *ℚ inverse y) (*ℚ_inverse hxy)
    (ring_ℚ 5 (λ x y i j z. z :- i :* j :- :- z :* (x :* i :- 1 # 1) :- :- (z :* x :* i) :* (y :* j :- 1 # 1) := i :* j :* (x :* y :* z :- 1 # 1)) tt
    x y (inverse x) (inverse y) (inverse (x *ℚ y)))))

-- y ≥ m > 0 has an inverse of at most that of m
pub inverse_at_most : {y m : ℚ} → from_ℤ (pos 0) <ℚ m → m ≤ℚ y → inverse y ≤ℚ inverse m
inverse_at_most {y} {m} hm hy =
    from_gap (nonneg_mul (nonneg_mul (gap hy) (nonneg_inverse_of (<ℚ-≤ℚ_trans hm hy))) (nonneg_inverse_of hm))
    (from_multiple_ℚ (-ℚ (inverse m)) (*ℚ_inverse (<ℚ-≤ℚ_trans hm hy))
    (from_multiple_ℚ (inverse y) (*ℚ_inverse hm)
    (ring_ℚ 4 (λ y i m j. j :- i :- (y :- m) :* i :* j :- :- j :* (y :* i :- 1 # 1) := i :* (m :* j :- 1 # 1)) tt y (inverse y) m (inverse m))))

-- l / h ≤ x / y, where l ≤ x and 0 < y ≤ h
pub quotient_at_least : {x y l h : ℚ} → NonNeg l → from_ℤ (pos 0) <ℚ y → l ≤ℚ x → y ≤ℚ h → l ÷ℚ h ≤ℚ x ÷ℚ y
quotient_at_least {x} {y} {l} {h} nl hy lx yh =
    from_gap (nonneg_add (nonneg_mul (gap lx) iy) (nonneg_mul (nonneg_mul (nonneg_mul nl (gap yh)) iy) (nonneg_inverse_of (<ℚ-≤ℚ_trans hy yh))))
    (from_multiple_ℚ (-ℚ (l *ℚ inverse y)) (*ℚ_inverse (<ℚ-≤ℚ_trans hy yh))
    (from_multiple_ℚ (l *ℚ inverse h) (*ℚ_inverse hy)
    (ring_ℚ 6 (λ x y l h i j. x :* i :- l :* j :- ((x :- l) :* i :+ l :* (h :- y) :* i :* j) :- :- (l :* i) :* (h :* j :- 1 # 1) := l :* j :* (y :* i :- 1 # 1)) tt
    x y l h (inverse y) (inverse h))))
  where
    iy : NonNeg (inverse y)
    iy = nonneg_inverse_of hy
