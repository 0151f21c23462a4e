-- The fractions are a commutative ring, and the solver at them: `ring_ℚ`. Its numbers are the ratios, which compute. Assumes nothing.
use mathlib.Core.Path.{◌≡◌, refl, ◌∙◌, ap}
use mathlib.Core.List.{[]}
use mathlib.Core.Quot.{mk, sound, Quot-set, ind}
use Prim.Native.Nat.{ℕ}
use lib.Dec.{T}
use lib.IntN.{ℤ, pos, ◌*ℤ◌}
use Rattle.ratios.specs.Rings.{CommutativeRing, from_multiple}
use Rattle.ratios.specs.Polynomials.{Coefficients, Value}
use Rattle.ratios.specs.Solver.{Expression, Of, ForAll, numbered, holds, more, ring, con, ◌:+◌, ◌:-◌, ◌:*◌, :-◌, ◌:=◌}
use Rattle.ratios.specs.IntegerSolver.{ring_ℤ, is_zero, zero_is}
use Rattle.ratios.specs.Ratios.{Ratio, denominator, product_minus_1, ◌over◌, ◌+ᴿ◌, ◌*ᴿ◌, -ᴿ◌}
use Rattle.ratios.proofs.Congruence.{product_suc}
use Rattle.numbers.specs.Fractions.{ℚ, fraction, from_ℤ, ◌+ℚ◌, ◌*ℚ◌, -ℚ◌, ◌-ℚ◌}

-- an equation of fractions holds if it holds of the fractions of ratios
equal_one : (f g : ℚ → ℚ) → ((a : Ratio) → f (fraction a) ≡ g (fraction a)) → (x : ℚ) → f x ≡ g x
equal_one f g h = ind {β = λ x. f x ≡ g x} (λ x. Quot-set (f x) (g x)) h

equal_two : (f g : ℚ → ℚ → ℚ) → ((a b : Ratio) → f (fraction a) (fraction b) ≡ g (fraction a) (fraction b)) → (x y : ℚ) → f x y ≡ g x y
equal_two f g h x y = equal_one (λ x. f x y) (λ x. g x y) (λ a. equal_one (f (fraction a)) (g (fraction a)) (h a) y) x

equal_three : (f g : ℚ → ℚ → ℚ → ℚ) → ((a b c : Ratio) → f (fraction a) (fraction b) (fraction c) ≡ g (fraction a) (fraction b) (fraction c)) → (x y z : ℚ) → f x y z ≡ g x y z
equal_three f g h x y z = equal_one (λ x. f x y z) (λ x. g x y z) (λ a. equal_two (f (fraction a)) (g (fraction a)) (h a) y z) x

-- ---- the ring laws

pub +ℚ_assoc : (x y z : ℚ) → (x +ℚ y) +ℚ z ≡ x +ℚ (y +ℚ z)
unfolding ◌+ℚ◌
+ℚ_assoc =
    equal_three (λ x y z. (x +ℚ y) +ℚ z) (λ x y z. x +ℚ (y +ℚ z))
    (λ a b c. sound
    (rw (product_suc a.denominator_minus_1 (product_minus_1 b.denominator_minus_1 c.denominator_minus_1))
    (simp product_suc
    (ring_ℤ 6 (λ m u n v p w. ((m :* v :+ n :* u) :* w :+ p :* (u :* v)) :* (u :* (v :* w)) := (m :* (v :* w) :+ (n :* w :+ p :* v) :* u) :* (u :* v :* w)) tt
    a.numerator (denominator a) b.numerator (denominator b) c.numerator (denominator c)))))

pub +ℚ_comm : (x y : ℚ) → x +ℚ y ≡ y +ℚ x
unfolding ◌+ℚ◌
+ℚ_comm =
    equal_two (λ x y. x +ℚ y) (λ x y. y +ℚ x)
    (λ a b. sound
    (simp product_suc
    (ring_ℤ 4 (λ m u n v. (m :* v :+ n :* u) :* (v :* u) := (n :* u :+ m :* v) :* (u :* v)) tt
    a.numerator (denominator a) b.numerator (denominator b))))

pub +ℚ_zero : (x : ℚ) → x +ℚ from_ℤ (pos 0) ≡ x
unfolding ◌+ℚ◌
+ℚ_zero =
    equal_one (λ x. x +ℚ from_ℤ (pos 0)) (λ x. x)
    (λ a. sound
    (simp product_suc
    (ring_ℤ 2 (λ m u. (m :* con (pos 1) :+ con (pos 0) :* u) :* u := m :* (u :* con (pos 1))) tt a.numerator (denominator a))))

pub +ℚ_neg : (x : ℚ) → x +ℚ -ℚ x ≡ from_ℤ (pos 0)
unfolding ◌+ℚ◌ -ℚ◌
+ℚ_neg =
    equal_one (λ x. x +ℚ -ℚ x) (λ x. from_ℤ (pos 0))
    (λ a. sound
    (simp product_suc
    (ring_ℤ 2 (λ m u. (m :* u :+ (:- m) :* u) :* con (pos 1) := con (pos 0) :* (u :* u)) tt a.numerator (denominator a))))

pub *ℚ_assoc : (x y z : ℚ) → (x *ℚ y) *ℚ z ≡ x *ℚ (y *ℚ z)
unfolding ◌*ℚ◌
*ℚ_assoc =
    equal_three (λ x y z. (x *ℚ y) *ℚ z) (λ x y z. x *ℚ (y *ℚ z))
    (λ a b c. sound
    (rw (product_suc a.denominator_minus_1 (product_minus_1 b.denominator_minus_1 c.denominator_minus_1))
    (simp product_suc
    (ring_ℤ 6 (λ m u n v p w. m :* n :* p :* (u :* (v :* w)) := m :* (n :* p) :* (u :* v :* w)) tt
    a.numerator (denominator a) b.numerator (denominator b) c.numerator (denominator c)))))

pub *ℚ_comm : (x y : ℚ) → x *ℚ y ≡ y *ℚ x
unfolding ◌*ℚ◌
*ℚ_comm =
    equal_two (λ x y. x *ℚ y) (λ x y. y *ℚ x)
    (λ a b. sound
    (simp product_suc
    (ring_ℤ 4 (λ m u n v. m :* n :* (v :* u) := n :* m :* (u :* v)) tt a.numerator (denominator a) b.numerator (denominator b))))

pub *ℚ_one : (x : ℚ) → x *ℚ from_ℤ (pos 1) ≡ x
unfolding ◌*ℚ◌
*ℚ_one =
    equal_one (λ x. x *ℚ from_ℤ (pos 1)) (λ x. x)
    (λ a. sound
    (simp product_suc (ring_ℤ 2 (λ m u. m :* con (pos 1) :* u := m :* (u :* con (pos 1))) tt a.numerator (denominator a))))

pub *ℚ-+ℚ : (x y z : ℚ) → x *ℚ (y +ℚ z) ≡ x *ℚ y +ℚ x *ℚ z
unfolding ◌+ℚ◌ ◌*ℚ◌
*ℚ-+ℚ =
    equal_three (λ x y z. x *ℚ (y +ℚ z)) (λ x y z. x *ℚ y +ℚ x *ℚ z)
    (λ a b c. sound
    (rw (
      product_suc a.denominator_minus_1 (product_minus_1 b.denominator_minus_1 c.denominator_minus_1),
      product_suc (product_minus_1 a.denominator_minus_1 b.denominator_minus_1) (product_minus_1 a.denominator_minus_1 c.denominator_minus_1),
    )
    (simp product_suc
    (ring_ℤ 6 (λ m u n v p w. m :* (n :* w :+ p :* v) :* (u :* v :* (u :* w)) := (m :* n :* (u :* w) :+ m :* p :* (u :* v)) :* (u :* (v :* w))) tt
    a.numerator (denominator a) b.numerator (denominator b) c.numerator (denominator c)))))

abbrev pub ℚ_ring : CommutativeRing
ℚ_ring =
    record {
      R = ℚ;
      𝟘 = from_ℤ (pos 0);
      𝟙 = from_ℤ (pos 1);
      add = ◌+ℚ◌;
      mul = ◌*ℚ◌;
      neg = -ℚ◌;
      add_assoc = +ℚ_assoc;
      add_comm = +ℚ_comm;
      add_zero = +ℚ_zero;
      add_neg = +ℚ_neg;
      mul_assoc = *ℚ_assoc;
      mul_comm = *ℚ_comm;
      mul_one = *ℚ_one;
      mul_add = *ℚ-+ℚ;
    }

-- ---- the solver: its numbers are the ratios

pub fraction_sum : (a b : Ratio) → fraction (a +ᴿ b) ≡ fraction a +ℚ fraction b
unfolding ◌+ℚ◌
fraction_sum a b = refl

pub fraction_product : (a b : Ratio) → fraction (a *ᴿ b) ≡ fraction a *ℚ fraction b
unfolding ◌*ℚ◌
fraction_product a b = refl

pub fraction_negation : (a : Ratio) → fraction (-ᴿ a) ≡ -ℚ fraction a
unfolding -ℚ◌
fraction_negation a = refl

pub fraction_zero : (a : Ratio) → T (is_zero a.numerator) → fraction a ≡ from_ℤ (pos 0)
fraction_zero a t =
    sound
    (ap (λ (z : ℤ). z *ℤ pos 1) (zero_is a.numerator t) ∙ ring_ℤ 1 (λ u. con (pos 0) :* con (pos 1) := con (pos 0) :* u) tt (denominator a))

abbrev pub ℚ_coefficients : Coefficients
ℚ_coefficients =
    record {
      C = Ratio;
      none = 0 over 1;
      unit = 1 over 1;
      add = ◌+ᴿ◌;
      mul = ◌*ᴿ◌;
      neg = -ᴿ◌;
      is_none = λ a. is_zero a.numerator;
    }

abbrev pub ℚ_value : Value ℚ_ring ℚ_coefficients
ℚ_value =
    record {
      ev = λ a. mk a;
      ev_none = refl;
      ev_unit = refl;
      ev_add = fraction_sum;
      ev_mul = fraction_product;
      ev_neg = fraction_negation;
      ev_is_none = fraction_zero;
    }

-- `ring_ℚ 2 (λ x y. x :- y := :- (y :- x)) tt x y`
pub ring_ℚ : (n : ℕ) (f : Of Ratio n) → T (holds ℚ_coefficients (more ℚ_ring ℚ_coefficients ℚ_value n 0) (numbered n 0 f)) → ForAll ℚ_ring ℚ_coefficients ℚ_value n [] (numbered n 0 f)
ring_ℚ = ring ℚ_ring ℚ_coefficients ℚ_value

-- an equation x = y from another, l = r: x - y = k (l - r)
pub from_multiple_ℚ : (k : ℚ) {l r x y : ℚ} → l ≡ r → x -ℚ y ≡ k *ℚ (l -ℚ r) → x ≡ y
from_multiple_ℚ k {l} {r} {x} {y} h e = from_multiple ℚ_ring k l r x y h e

-- the number n / d in an expression
infix 95 ◌#◌
abbrev pub ◌#◌ : ℕ → ℕ → Expression Ratio
n # d = con (n over d)
