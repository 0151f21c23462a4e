-- The terms of the series of exp(-x) and sin x grow with x, and the engine of Values.antt sums them: `exp_sums`, `sin_sums`. Assumes nothing.
use mathlib.Core.Path.{◌≡◌, refl, sym, ◌∙◌, ap, ap₂}
use Prim.Native.Nat.{ℕ, zero, suc, ◌+◌, ◌*◌, ◌<◌}
use native.Mathlib.Nat.{mul-pos}
use native.Mathlib.Omega.{arith}
use Rattle.ratios.specs.Solver.{◌:-◌, ◌:*◌, ◌:=◌}
use Rattle.ratios.specs.Ratios.{◌over◌}
use Rattle.numbers.specs.Fractions.{ℚ, ◌*ℚ◌, ◌^ℚ◌, inverse, ◌≤ℚ◌}
use Rattle.numbers.proofs.FractionSolver.{ring_ℚ, from_multiple_ℚ, ◌#◌}
use Rattle.numbers.proofs.Order.{NonNeg, *ℚ_mono, <ℚ_ratio}
use Rattle.numbers.proofs.WholeFractions.{nonneg_ℕ}
use Rattle.numbers.proofs.Inverse.{*ℚ_inverse, inverse_mul, nonneg_inverse}
use Rattle.tables.specs.Series.{factorial, exp_term, sin_term}
use Rattle.tables.specs.Values.{exp_sum, sin_sum}
use Rattle.numbers.proofs.StrictOrder.{whole, whole_mul, whole_below, positive_mul}
use Rattle.numbers.proofs.FractionPowers.{power_mono}
use Rattle.tables.proofs.Sums.{SumOf, first_sum, sums_of}

-- ---- the terms grow with x

exp_term_mono : {x y : ℚ} → NonNeg x → x ≤ℚ y → (n : ℕ) → exp_term x n ≤ℚ exp_term y n
unfolding exp_term
exp_term_mono h l n = *ℚ_mono (nonneg_inverse (nonneg_ℕ (factorial n))) (power_mono h l n)

-- the sine's terms are every other one
sin_term_odd : (x : ℚ) (n : ℕ) → sin_term x n ≡ exp_term x (2 * n + 1)
unfolding sin_term exp_term
sin_term_odd x n = refl

pub sin_term_mono : {x y : ℚ} → NonNeg x → x ≤ℚ y → (n : ℕ) → sin_term x n ≤ℚ sin_term y n
unfolding sin_term exp_term
sin_term_mono h l n = exp_term_mono h l (2 * n + 1)

-- ---- the first terms

exp_term_zero : (x : ℚ) → exp_term x 0 ≡ whole 1
unfolding exp_term factorial
exp_term_zero x = *ℚ_inverse (<ℚ_ratio (1 over 1) tt)

sin_term_zero : (x : ℚ) → sin_term x 0 ≡ x
unfolding sin_term factorial
sin_term_zero x =
    from_multiple_ℚ x (*ℚ_inverse (<ℚ_ratio (1 over 1) tt))
    (ring_ℚ 2 (λ x i. 1 # 1 :* x :* i :- x := x :* (1 # 1 :* i :- 1 # 1)) tt x (inverse (whole 1)))

-- ---- the next term, at x = u/v

factorial_positive : (n : ℕ) → 0 < factorial n
unfolding factorial
factorial_positive zero = omega arith
factorial_positive (suc n) = mul-pos (factorial_positive n) (omega arith)

inverse_factorial : (n : ℕ) → inverse (whole (factorial (suc n))) ≡ inverse (whole (factorial n)) *ℚ inverse (whole (suc n))
unfolding factorial
inverse_factorial n =
    let f = whole_below (factorial_positive n) in
    let s = whole_below {m = 0} {n = suc n} (omega arith) in
    ap inverse (whole_mul (factorial n) (suc n)) ∙ inverse_mul f s (positive_mul f s)

module _ (x : ℚ) (u v : ℕ) (is : whole v *ℚ x ≡ whole u) where
  -- xⁿ⁺¹/(n+1)! is xⁿ/n! times u/(v (n+1))
  exp_term_next : (n : ℕ) → whole (v * suc n) *ℚ exp_term x (suc n) ≡ whole u *ℚ exp_term x n
  unfolding exp_term
  exp_term_next n =
      ap₂ (λ (a b : ℚ). a *ℚ (x ^ℚ n *ℚ x *ℚ b)) (whole_mul v (suc n)) (inverse_factorial n)
      ∙ from_multiple_ℚ (x ^ℚ n *ℚ inverse (whole (factorial n))) is
      (from_multiple_ℚ (x ^ℚ n *ℚ inverse (whole (factorial n)) *ℚ whole v *ℚ x) (*ℚ_inverse (whole_below {m = 0} {n = suc n} (omega arith)))
      (ring_ℚ 7 (λ p x f v s i u. v :* s :* (p :* x :* (f :* i)) :- u :* (p :* f) :- p :* f :* (v :* x :- u) := p :* f :* v :* x :* (s :* i :- 1 # 1)) tt
      (x ^ℚ n) x (inverse (whole (factorial n))) (whole v) (whole (suc n)) (inverse (whole (suc n))) (whole u)))

  -- two places on
  exp_term_after_next : (n : ℕ) → whole (v * suc n * (v * suc (suc n))) *ℚ exp_term x (suc (suc n)) ≡ whole (u * u) *ℚ exp_term x n
  exp_term_after_next n =
      ap (λ (z : ℚ). z *ℚ exp_term x (suc (suc n))) (whole_mul (v * suc n) (v * suc (suc n)))
      ∙ from_multiple_ℚ (whole (v * suc n)) (exp_term_next (suc n))
      (from_multiple_ℚ (whole u) (exp_term_next n)
      (ring_ℚ 6 (λ a b u p q r. a :* b :* r :- u :* u :* p :- a :* (b :* r :- u :* q) := u :* (a :* q :- u :* p)) tt
      (whole (v * suc n)) (whole (v * suc (suc n))) (whole u) (exp_term x n) (exp_term x (suc n)) (exp_term x (suc (suc n)))))
      ∙ ap (λ (z : ℚ). z *ℚ exp_term x n) (sym (whole_mul u u))

  sin_term_next : (n : ℕ) → whole (v * suc (2 * n + 1) * (v * suc (suc (2 * n + 1)))) *ℚ sin_term x (suc n) ≡ whole (u * u) *ℚ sin_term x n
  sin_term_next n =
      let e : 2 * suc n + 1 ≡ suc (suc (2 * n + 1)) = omega arith in
      ap (λ (z : ℚ). whole (v * suc (2 * n + 1) * (v * suc (suc (2 * n + 1)))) *ℚ z) (sin_term_odd x (suc n) ∙ ap (exp_term x) e)
      ∙ exp_term_after_next (2 * n + 1)
      ∙ ap (λ (z : ℚ). whole (u * u) *ℚ z) (sym (sin_term_odd x n))

  pub exp_sums : (n : ℕ) → SumOf (exp_term x) n (exp_sum u v n)
  unfolding exp_sum
  exp_sums =
      sums_of (exp_term x) u (λ n. v * suc n) exp_term_next
      (first_sum (exp_term x) 1 1
      (ap (λ (z : ℚ). whole 1 *ℚ z) (exp_term_zero x) ∙ ring_ℚ 0 (1 # 1 :* 1 # 1 := 1 # 1) tt))

  pub sin_sums : (n : ℕ) → SumOf (sin_term x) n (sin_sum u v n)
  unfolding sin_sum
  sin_sums =
      sums_of (sin_term x) (u * u) (λ n. v * suc (2 * n + 1) * (v * suc (suc (2 * n + 1)))) sin_term_next
      (first_sum (sin_term x) u v (ap (λ (z : ℚ). whole v *ℚ z) (sin_term_zero x) ∙ is))
