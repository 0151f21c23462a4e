-- Square roots of fractions, in the sense of `RootOf`: there is one, so that what is said of every root is not said of none. The lemma is `root_exists`.
-- Assumes nothing.
use mathlib.Core.Path.{◌≡◌, ◌∙◌, ap}
use mathlib.Core.Bool.{Bool, true, false, not}
use Prim.Native.Nat.{ℕ, zero, suc, ◌+◌}
use native.Mathlib.Omega.{arith}
use lib.Dec.{T}
use lib.IntN.{pos}
use Rattle.ratios.specs.Solver.{◌:+◌, ◌:-◌, ◌:*◌, ◌:^◌, ◌:=◌}
use Rattle.numbers.specs.Fractions.{ℚ, from_ℤ, ◌+ℚ◌, ◌*ℚ◌, ◌-ℚ◌, ◌^ℚ◌, nonneg, ◌≤ℚ◌}
use Rattle.numbers.specs.Rounding.{RootOf}
use Rattle.numbers.proofs.FractionSolver.{ring_ℚ, ◌#◌}
use Rattle.numbers.proofs.Order.{NonNeg, nonneg_mul, from_gap, ≤ℚ_eq, ≤ℚ_refl, ≤ℚ_trans, <ℚ-≤ℚ}
use Rattle.numbers.proofs.WholeFractions.{from_ℤ_add}

module _ {unit A : ℚ} (nu : NonNeg unit) (nA : NonNeg A) where
  -- the lower of the two neighbours is itself a root
  of_multiple : (k : ℕ) → (from_ℤ (pos k) *ℚ unit) ^ℚ 2 ≤ℚ A → A ≤ℚ (from_ℤ (pos k) *ℚ unit +ℚ unit) ^ℚ 2 → (x : ℚ) × RootOf unit A x
  of_multiple k low high = (
    from_ℤ (pos k) *ℚ unit,
    record {
      multiple = k;
      low = ≤ℚ_refl (from_ℤ (pos k) *ℚ unit);
      high = from_gap nu (ring_ℚ 2 (λ k u. k :* u :+ u :- k :* u := u) tt (from_ℤ (pos k)) unit);
      square_low = low;
      square_high = high;
    },
  )

  next_multiple : (k : ℕ) → (from_ℤ (pos (suc k)) *ℚ unit) ^ℚ 2 ≡ (from_ℤ (pos k) *ℚ unit +ℚ unit) ^ℚ 2
  next_multiple k =
      let e : suc k ≡ 1 + k = omega arith in
      ap (λ (n : ℚ). (n *ℚ unit) ^ℚ 2) (ap (λ (n : ℕ). from_ℤ (pos n)) e ∙ from_ℤ_add (pos 1) (pos k))
      ∙ ring_ℚ 2 (λ k u. ((1 # 1 :+ k) :* u) :^ 2 := (k :* u :+ u) :^ 2) tt (from_ℤ (pos k)) unit

  by_square : (k : ℕ) (b : Bool) → (T b → (from_ℤ (pos k) *ℚ unit) ^ℚ 2 ≤ℚ A) → A ≤ℚ (from_ℤ (pos (suc k)) *ℚ unit) ^ℚ 2 →
      (T (not b) → (x : ℚ) × RootOf unit A x) → (x : ℚ) × RootOf unit A x
  by_square k true low high lower = of_multiple k (low tt) (≤ℚ_trans high (≤ℚ_eq (next_multiple k)))
  by_square k false low high lower = lower tt

  -- of the multiples up to one whose square is not below A, the largest whose square is not above A
  pub root_exists : (k : ℕ) → A ≤ℚ (from_ℤ (pos k) *ℚ unit) ^ℚ 2 → (x : ℚ) × RootOf unit A x
  root_exists zero h =
      of_multiple 0 (from_gap nA (ring_ℚ 2 (λ a u. a :- (0 # 1 :* u) :^ 2 := a) tt A unit))
      (≤ℚ_trans h (from_gap (nonneg_mul nu nu) (ring_ℚ 1 (λ u. (0 # 1 :* u :+ u) :^ 2 :- (0 # 1 :* u) :^ 2 := u :* u) tt unit)))
  root_exists (suc k) h = by_square k (nonneg (A -ℚ (from_ℤ (pos k) *ℚ unit) ^ℚ 2)) (λ t. record { le = t }) h (λ t. root_exists k (<ℚ-≤ℚ (record { lt = t })))
