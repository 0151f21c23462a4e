-- Whole numbers among the fractions: `from_ℤ` keeps sums, products and the order. Assumes nothing.
use mathlib.Core.Path.{◌≡◌, refl, sym, ◌∙◌, ap, subst}
use Prim.Native.Nat.{ℕ, ◌≤◌}
use native.Mathlib.Nat.{le_dest}
use lib.Dec.{T}
use lib.IntN.{ℤ, pos, neg_ℤ, ◌+ℤ◌, ◌-ℤ◌, ◌*ℤ◌}
use lib.Signed.{non_neg, le_z, ◌≤ℤ◌}
use Rattle.ratios.specs.Solver.{con, ◌:+◌, ◌:-◌, ◌:*◌, :-◌, ◌:=◌}
use Rattle.ratios.specs.IntegerSolver.{ring_ℤ}
use Rattle.ratios.proofs.Congruence.{bool_equal}
use Rattle.numbers.specs.Fractions.{ℚ, from_ℤ, ◌+ℚ◌, ◌*ℚ◌, -ℚ◌, ◌-ℚ◌, nonneg, ◌≤ℚ◌}
use Rattle.numbers.proofs.FractionSolver.{ring_ℚ}
use Rattle.numbers.proofs.IntegerOrder.{gap_test, test_gap}
use Rattle.numbers.proofs.Order.{NonNeg, from_gap}

pub from_ℤ_add : (a b : ℤ) → from_ℤ (a +ℤ b) ≡ from_ℤ a +ℚ from_ℤ b
unfolding ◌+ℚ◌
from_ℤ_add a b = ap (λ (z : ℤ). from_ℤ z) (ring_ℤ 2 (λ a b. a :+ b := a :* con (pos 1) :+ b :* con (pos 1)) tt a b)

pub from_ℤ_mul : (a b : ℤ) → from_ℤ (a *ℤ b) ≡ from_ℤ a *ℚ from_ℤ b
unfolding ◌*ℚ◌
from_ℤ_mul a b = refl

pub from_ℤ_neg : (a : ℤ) → from_ℤ (neg_ℤ a) ≡ -ℚ from_ℤ a
unfolding -ℚ◌
from_ℤ_neg a = refl

pub from_ℤ_sub : (a b : ℤ) → from_ℤ (a -ℤ b) ≡ from_ℤ a -ℚ from_ℤ b
from_ℤ_sub a b = from_ℤ_add a (neg_ℤ b) ∙ ap (λ (x : ℚ). from_ℤ a +ℚ x) (from_ℤ_neg b)

pub nonneg_ℕ : (n : ℕ) → NonNeg (from_ℤ (pos n))
unfolding nonneg
nonneg_ℕ n = record { test = tt }

pub from_ℤ_nonneg : (a : ℤ) → nonneg (from_ℤ a) ≡ non_neg a
unfolding nonneg
from_ℤ_nonneg a = refl

-- the tests of the order agree
pub from_ℤ_test : (a b : ℤ) → le_z a b ≡ nonneg (from_ℤ b -ℚ from_ℤ a)
from_ℤ_test a b =
    bool_equal (le_z a b) (non_neg (b -ℤ a)) (gap_test a b) (test_gap a b) ∙ sym (from_ℤ_nonneg (b -ℤ a)) ∙ ap nonneg (from_ℤ_sub b a)

pub from_ℤ_mono : {a b : ℤ} → a ≤ℤ b → from_ℤ a ≤ℚ from_ℤ b
from_ℤ_mono {a} {b} h = record { le = subst T (from_ℤ_test a b) h.le }

pub from_ℕ_mono : {m n : ℕ} → m ≤ n → from_ℤ (pos m) ≤ℚ from_ℤ (pos n)
from_ℕ_mono {m} {n} h =
    from_gap (nonneg_ℕ (le_dest h).0)
    (ap (λ (k : ℕ). from_ℤ (pos k) -ℚ from_ℤ (pos m)) (sym (le_dest h).1)
    ∙ ap (λ (x : ℚ). x -ℚ from_ℤ (pos m)) (from_ℤ_add (pos m) (pos (le_dest h).0))
    ∙ ring_ℚ 2 (λ a b. a :+ b :- a := b) tt (from_ℤ (pos m)) (from_ℤ (pos (le_dest h).0)))
