-- Fractions above 0, and whole numbers among the fractions. Assumes nothing.
use mathlib.Core.Path.{◌≡◌, sym, ◌∙◌, ap, subst}
use mathlib.Core.Bool.{not}
use Prim.Native.Nat.{ℕ, ◌+◌, ◌*◌, ◌-◌, ◌≤◌, ◌<◌}
use native.Mathlib.Nat.{le_dest}
use native.Mathlib.Omega.{arith}
use lib.Dec.{T, T_not, not_T}
use lib.IntN.{pos}
use Rattle.ratios.specs.Solver.{◌:+◌, ◌:-◌, ◌:*◌, :-◌, ◌:=◌}
use Rattle.ratios.specs.Ratios.{Ratio, ◌over◌, ◌*ᴿ◌}
use Rattle.numbers.proofs.RatioTests.{eqᴿ}
use Rattle.numbers.specs.Fractions.{ℚ, fraction, from_ℤ, ◌+ℚ◌, ◌*ℚ◌, -ℚ◌, ◌-ℚ◌, inverse, nonneg, ◌<ℚ◌}
use Rattle.numbers.proofs.FractionSolver.{ring_ℚ, from_multiple_ℚ, ◌#◌, fraction_product}
use Rattle.numbers.proofs.Order.{NonNeg, nonneg_mul, nonneg_eq, from_gap, ≡_ratio, <ℚ_ratio, <ℚ-≤ℚ_trans}
use Rattle.numbers.proofs.WholeFractions.{nonneg_ℕ, from_ℤ_add, from_ℤ_mul}
use Rattle.numbers.proofs.Inverse.{*ℚ_inverse, nonneg_inverse_of}

-- a whole number from 0 on, as a fraction
abbrev pub whole : ℕ → ℚ
whole n = from_ℤ (pos n)

pub whole_add : (m n : ℕ) → whole (m + n) ≡ whole m +ℚ whole n
whole_add m n = from_ℤ_add (pos m) (pos n)

pub whole_mul : (m n : ℕ) → whole (m * n) ≡ whole m *ℚ whole n
whole_mul m n = from_ℤ_mul (pos m) (pos n)

pub whole_odd : (n : ℕ) → whole (2 * n + 1) ≡ whole 2 *ℚ whole n +ℚ whole 1
whole_odd n = whole_add (2 * n) 1 ∙ ap (λ (z : ℚ). z +ℚ whole 1) (whole_mul 2 n)

pub whole_sub : {m n : ℕ} → n ≤ m → whole (m - n) ≡ whole m -ℚ whole n
whole_sub {m} {n} h =
    let e : m - n + n ≡ m = omega arith in
    ring_ℚ 2 (λ a b. a := a :+ b :- b) tt (whole (m - n)) (whole n)
    ∙ ap (λ (z : ℚ). z -ℚ whole n) (sym (whole_add (m - n) n) ∙ ap (λ (k : ℕ). whole k) e)

-- n a = b, by computation
pub whole_times : (n : ℕ) (a b : Ratio) → T (eqᴿ ((n over 1) *ᴿ a) b) → whole n *ℚ fraction a ≡ fraction b
whole_times n a b t = sym (fraction_product (n over 1) a) ∙ ≡_ratio ((n over 1) *ᴿ a) b t

-- n (x/n) = x
pub over_cancels : (n : ℕ) (k : Ratio) → T (eqᴿ ((n over 1) *ᴿ k) (1 over 1)) → (x : ℚ) → whole n *ℚ (x *ℚ fraction k) ≡ x
over_cancels n k t x =
    ring_ℚ 3 (λ n x k. n :* (x :* k) := n :* k :* x) tt (whole n) x (fraction k)
    ∙ ap (λ (z : ℚ). z *ℚ x) (whole_times n k (1 over 1) t)
    ∙ ring_ℚ 1 (λ x. 1 # 1 :* x := x) tt x

-- ---- the gap y - x of x < y

pub gap_positive : {x y : ℚ} → x <ℚ y → whole 0 <ℚ y -ℚ x
gap_positive {x} {y} h =
    record { lt = subst (λ z. T (not (nonneg z))) (ring_ℚ 2 (λ x y. x :- y := 0 # 1 :- (y :- x)) tt x y) h.lt }

pub from_positive_gap : {x y e : ℚ} → whole 0 <ℚ e → y -ℚ x ≡ e → x <ℚ y
from_positive_gap {x} {y} {e} h p =
    record {
      lt = subst (λ z. T (not (nonneg z)))
          (ap (λ (z : ℚ). whole 0 -ℚ z) (sym p) ∙ ring_ℚ 2 (λ x y. 0 # 1 :- (y :- x) := x :- y) tt x y)
          h.lt;
    }

-- ---- sums and products

pub positive_add : {x y : ℚ} → whole 0 <ℚ x → NonNeg y → whole 0 <ℚ x +ℚ y
positive_add {x} {y} h n = <ℚ-≤ℚ_trans h (from_gap n (ring_ℚ 2 (λ x y. x :+ y :- x := y) tt x y))

-- a factor that is not below 0 is left out
pub positive_cancel : {k x : ℚ} → NonNeg k → whole 0 <ℚ k *ℚ x → whole 0 <ℚ x
positive_cancel {k} {x} n h =
    record {
      lt = not_T (nonneg (whole 0 -ℚ x))
          (λ t. T_not (nonneg (whole 0 -ℚ k *ℚ x)) h.lt
          (nonneg_eq (ring_ℚ 2 (λ k x. 0 # 1 :- k :* x := k :* (0 # 1 :- x)) tt k x) (nonneg_mul n (record { test = t }))).test);
    }

-- a factor above 0 is left out: x is 1/k times k x
pub nonneg_cancel : {k x : ℚ} → whole 0 <ℚ k → NonNeg (k *ℚ x) → NonNeg x
nonneg_cancel {k} {x} p h =
    nonneg_eq
    (from_multiple_ℚ (-ℚ x) (*ℚ_inverse p) (ring_ℚ 3 (λ k i x. x :- i :* (k :* x) := :- x :* (k :* i :- 1 # 1)) tt k (inverse k) x))
    (nonneg_mul (nonneg_inverse_of p) h)

-- y is 1/x times x y
pub positive_mul : {x y : ℚ} → whole 0 <ℚ x → whole 0 <ℚ y → whole 0 <ℚ x *ℚ y
positive_mul {x} {y} hx hy =
    positive_cancel (nonneg_inverse_of hx)
    (subst (λ z. whole 0 <ℚ z)
    (from_multiple_ℚ (-ℚ y) (*ℚ_inverse hx) (ring_ℚ 3 (λ x i y. y :- i :* (x :* y) := :- y :* (x :* i :- 1 # 1)) tt x (inverse x) y)) hy)

-- ---- whole numbers

pub whole_below : {m n : ℕ} → m < n → whole m <ℚ whole n
whole_below {m} {n} h =
    let k : ℕ = (le_dest h).0 in
    let e : m + (1 + k) ≡ n = omega (arith, (le_dest h).1) in
    from_positive_gap (positive_add (<ℚ_ratio (1 over 1) tt) (nonneg_ℕ k))
    (ap (λ (j : ℕ). whole j -ℚ whole m) (sym e)
    ∙ ap (λ (x : ℚ). x -ℚ whole m) (whole_add m (1 + k) ∙ ap (λ (x : ℚ). whole m +ℚ x) (whole_add 1 k))
    ∙ ring_ℚ 2 (λ a b. a :+ (1 # 1 :+ b) :- a := 1 # 1 :+ b) tt (whole m) (whole k))
