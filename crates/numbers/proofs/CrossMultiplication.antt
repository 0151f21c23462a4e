-- What the equality and the order of fractions say of their numbers: cross multiplication. A reader who believes this need not read how the
-- fractions are made. Assumes nothing.
use mathlib.Core.Path.{◌≡◌, sym, subst}
use mathlib.Core.Logic.{◌↔◌}
use mathlib.Core.Quot.{sound}
use lib.Dec.{T}
use lib.IntN.{ℤ, neg_ℤ, ◌+ℤ◌, ◌-ℤ◌, ◌*ℤ◌}
use lib.Signed.{non_neg, ◌≤ℤ◌}
use Rattle.ratios.specs.Solver.{◌:+◌, ◌:-◌, ◌:*◌, :-◌, ◌:=◌}
use Rattle.ratios.specs.IntegerSolver.{ring_ℤ}
use Rattle.ratios.specs.Ratios.{Ratio, denominator}
use Rattle.numbers.specs.Fractions.{fraction, ◌≤ℚ◌}
use Rattle.numbers.proofs.IntegerOrder.{≤ℤ_antisym, gap_test, test_gap}
use Rattle.numbers.proofs.Order.{computed, ≤ℚ_eq}

-- c b - a d, as the numerator of c/d - a/b has it
numerator_of_gap : (a b : Ratio) →
    b.numerator *ℤ denominator a +ℤ neg_ℤ a.numerator *ℤ denominator b ≡ b.numerator *ℤ denominator a -ℤ a.numerator *ℤ denominator b
numerator_of_gap a b =
    ring_ℤ 4 (λ m u n v. n :* u :+ :- m :* v := n :* u :- m :* v) tt a.numerator (denominator a) b.numerator (denominator b)

-- a/b ≤ c/d is a d ≤ c b
pub ≤_cross : (a b : Ratio) → (fraction a ≤ℚ fraction b) ↔ ◌≤ℤ◌ (a.numerator *ℤ denominator b) (b.numerator *ℤ denominator a)
unfolding computed
≤_cross a b = (
  λ h. record {
    le = test_gap (a.numerator *ℤ denominator b) (b.numerator *ℤ denominator a)
        (subst (λ (z : ℤ). T (non_neg z)) (numerator_of_gap a b) h.le);
  },
  λ h. record {
    le = subst (λ (z : ℤ). T (non_neg z)) (sym (numerator_of_gap a b))
        (gap_test (a.numerator *ℤ denominator b) (b.numerator *ℤ denominator a) h.le);
  },
)

-- a/b = c/d is a d = c b
pub ≡_cross : (a b : Ratio) → (fraction a ≡ fraction b) ↔ (a.numerator *ℤ denominator b ≡ b.numerator *ℤ denominator a)
≡_cross a b = (
  λ p. ≤ℤ_antisym ((≤_cross a b).0 (≤ℚ_eq p)) ((≤_cross b a).0 (≤ℚ_eq (sym p))),
  λ p. sound p,
)
