-- The error calculus: a limit from below or from above, the same one for the whole number and for the exact value. Assumes nothing.
use mathlib.Core.Path.{◌≡◌, refl, sym, ◌∙◌, ap}
use mathlib.Core.Bool.{Bool, true, false, not, cond}
use lib.Dec.{T}
use lib.IntN.{ℤ, pos}
use lib.Signed.{lt_z, le_z}
use Rattle.numbers.specs.Whole.{at_least_ℤ, at_most_ℤ}
use Rattle.ratios.specs.Solver.{◌:-◌, ◌:*◌, :-◌, ◌:=◌}
use Rattle.ratios.specs.Ratios.{Ratio}
use Rattle.numbers.proofs.RatioTests.{posᴿ}
use Rattle.numbers.specs.Fractions.{ℚ, fraction, from_ℤ, ◌*ℚ◌, -ℚ◌, ◌-ℚ◌, inverse, nonneg, ◌<ℚ◌, at_least_ℚ, at_most_ℚ}
use Rattle.ratios.proofs.Congruence.{bool_equal}
use Rattle.numbers.proofs.FractionSolver.{ring_ℚ, from_multiple_ℚ, ◌#◌}
use Rattle.numbers.proofs.Order.{nonneg_mul, nonneg_eq, nonneg_of, <ℚ_ratio, <ℚ-≤ℚ}
use Rattle.numbers.proofs.WholeFractions.{from_ℤ_test}
use Rattle.numbers.proofs.Inverse.{*ℚ_inverse, nonneg_inverse_of}
use Rattle.numbers.proofs.IntegerOrder.{le_z_is}
use Rattle.numbers.proofs.Bounds.{Bounded}
use Rattle.numbers.proofs.Near.{near_eq, near_limit_below, near_limit_above}
use Rattle.numbers.proofs.Rounded.{Rounded}

nonneg_of_multiple : (x : ℚ) {c : ℚ} → from_ℤ (pos 0) <ℚ c → nonneg (x *ℚ c) ≡ nonneg x
nonneg_of_multiple x {c} h =
    bool_equal (nonneg (x *ℚ c)) (nonneg x)
    (λ t. (nonneg_eq (from_multiple_ℚ (-ℚ x) (*ℚ_inverse h) (ring_ℚ 3 (λ x c i. x :- x :* c :* i := :- x :* (c :* i :- 1 # 1)) tt x c (inverse c)))
    (nonneg_mul {x = x *ℚ c} (record { test = t }) (nonneg_inverse_of h))).test)
    (λ t. (nonneg_mul {x = x} (record { test = t }) (nonneg_of (<ℚ-≤ℚ h))).test)

-- the test z ≥ l, in units u
pub test_in_units : (l z : ℤ) (u : Ratio) → T (posᴿ u) → nonneg (from_ℤ z *ℚ fraction u -ℚ from_ℤ l *ℚ fraction u) ≡ le_z l z
test_in_units l z u hu =
    ap nonneg (ring_ℚ 3 (λ z l u. z :* u :- l :* u := (z :- l) :* u) tt (from_ℤ z) (from_ℤ l) (fraction u))
    ∙ nonneg_of_multiple (from_ℤ z -ℚ from_ℤ l) (<ℚ_ratio u hu)
    ∙ sym (from_ℤ_test l z)

-- a choice by a test and by its opposite, and what a choice is between
choice : (b : Bool) (x y : ℤ) (f : ℤ → ℚ) → f (cond b x y) ≡ cond (not b) (f y) (f x)
choice true x y f = refl
choice false x y f = refl

either : (b : Bool) {x y a : ℚ} → Bounded x a → Bounded y a → Bounded (cond b x y) a
either true p q = p
either false p q = q

module _ {z : ℤ} {u : Ratio} {X : ℚ} {a ε : Ratio} (l : ℤ) (hu : T (posᴿ u)) (hl : Bounded (from_ℤ l *ℚ fraction u) (fraction a)) (p : Rounded z u X a ε) where
  pub limited_below : Rounded (at_least_ℤ l z) u (at_least_ℚ (from_ℤ l *ℚ fraction u) X) a ε
  unfolding at_least_ℚ
  limited_below =
      record {
        size = either (nonneg (X -ℚ from_ℤ l *ℚ fraction u)) p.size hl;
        near = near_eq
            (choice (lt_z z l) l z (λ (t : ℤ). from_ℤ t *ℚ fraction u)
            ∙ ap (λ (b : Bool). cond b (from_ℤ z *ℚ fraction u) (from_ℤ l *ℚ fraction u)) (sym (test_in_units l z u hu ∙ le_z_is z l))) refl
            (near_limit_below (from_ℤ l *ℚ fraction u) p.near);
      }

  pub limited_above : Rounded (at_most_ℤ l z) u (at_most_ℚ (from_ℤ l *ℚ fraction u) X) a ε
  unfolding at_most_ℚ
  limited_above =
      record {
        size = either (nonneg (from_ℤ l *ℚ fraction u -ℚ X)) p.size hl;
        near = near_eq
            (choice (lt_z l z) l z (λ (t : ℤ). from_ℤ t *ℚ fraction u)
            ∙ ap (λ (b : Bool). cond b (from_ℤ z *ℚ fraction u) (from_ℤ l *ℚ fraction u)) (sym (test_in_units z l u hu ∙ le_z_is l z))) refl
            (near_limit_above (from_ℤ l *ℚ fraction u) p.near);
      }
