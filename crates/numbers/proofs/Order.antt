-- The order of the fractions. `from_gap` is the way to an inequality: y - x is a sum of products of numbers that are not below 0, by the
-- solver. Assumes nothing.
use mathlib.Core.Path.{◌≡◌, refl, sym, ◌∙◌, ap, subst}
use mathlib.Core.HLevel.{Π_prop}
use mathlib.Core.Bool.{Bool, true, false, not}
use mathlib.Core.Quot.{sound, Quot-set, ind}
use Prim.Native.Nat.{suc}
use native.Mathlib.Nat.{zero-mul}
use lib.Dec.{T, T_prop, T_not, not_T}
use lib.IntN.{ℤ, pos, ◌*ℤ◌}
use Rattle.ratios.specs.Solver.{◌:+◌, ◌:-◌, ◌:*◌, :-◌, ◌:=◌}
use Rattle.ratios.specs.Ratios.{Ratio, denominator, nonnegᴿ, ◌+ᴿ◌, -ᴿ◌, ◌over◌}
use Rattle.numbers.proofs.RatioTests.{leᴿ, eqᴿ, posᴿ}
use Rattle.ratios.proofs.Congruence.{non_neg_mul}
use Rattle.numbers.specs.Fractions.{ℚ, fraction, from_ℤ, ◌+ℚ◌, ◌*ℚ◌, -ℚ◌, ◌-ℚ◌, inverse, nonneg, ◌≤ℚ◌, ◌<ℚ◌}
use Rattle.numbers.proofs.FractionSolver.{ring_ℚ, ◌#◌, fraction_sum, fraction_negation, fraction_zero}
use Rattle.numbers.proofs.IntegerOrder.{non_neg_add, non_neg_negate, zero_of_both}

-- what unfolds for a test of numbers that is answered by `tt`: `unfolding computed`
unfoldable pub computed : Type 0
unfolding ◌+ℚ◌ ◌*ℚ◌ -ℚ◌ nonneg inverse
computed = Unit {0}

-- x is not below 0, as a record, so that x can be inferred
pub record NonNeg (x : ℚ) : Type 0 where
  pub test : T (nonneg x)

-- a fact of fractions holds if it holds of the fractions of ratios
test_ind : (f : ℚ → Bool) → ((a : Ratio) → T (f (fraction a))) → (x : ℚ) → T (f x)
test_ind f h = ind {β = λ x. T (f x)} (λ x. T_prop (f x)) h

implies : Bool → Bool → Bool
implies true b = b
implies false b = true

implies_intro : (a b : Bool) → (T a → T b) → T (implies a b)
unfolding implies
implies_intro true b f = f tt
implies_intro false b f = tt

implies_elim : (a b : Bool) → T (implies a b) → T a → T b
unfolding implies
implies_elim true b f t = f
implies_elim false b f t = absurd t

-- ---- sums, products and negation

add_ratios : (a b : Ratio) → T (implies (nonneg (fraction a)) (implies (nonneg (fraction b)) (nonneg (fraction a +ℚ fraction b))))
unfolding nonneg ◌+ℚ◌
add_ratios a b =
    implies_intro (nonnegᴿ a) _
    (λ h. implies_intro (nonnegᴿ b) _
    (λ k. non_neg_add (a.numerator *ℤ denominator b) (b.numerator *ℤ denominator a) (non_neg_mul a.numerator (denominator b) h tt)
    (non_neg_mul b.numerator (denominator a) k tt)))

pub nonneg_add : {x y : ℚ} → NonNeg x → NonNeg y → NonNeg (x +ℚ y)
nonneg_add {x} {y} h k =
    record {
      test = implies_elim _ _
          (implies_elim _ _
          (test_ind (λ x. implies (nonneg x) (implies (nonneg y) (nonneg (x +ℚ y))))
          (λ a. test_ind (λ y. implies (nonneg (fraction a)) (implies (nonneg y) (nonneg (fraction a +ℚ y)))) (add_ratios a) y) x)
          h.test) k.test;
    }

mul_ratios : (a b : Ratio) → T (implies (nonneg (fraction a)) (implies (nonneg (fraction b)) (nonneg (fraction a *ℚ fraction b))))
unfolding nonneg ◌*ℚ◌
mul_ratios a b = implies_intro (nonnegᴿ a) _ (λ h. implies_intro (nonnegᴿ b) _ (λ k. non_neg_mul a.numerator b.numerator h k))

pub nonneg_mul : {x y : ℚ} → NonNeg x → NonNeg y → NonNeg (x *ℚ y)
nonneg_mul {x} {y} h k =
    record {
      test = implies_elim _ _
          (implies_elim _ _
          (test_ind (λ x. implies (nonneg x) (implies (nonneg y) (nonneg (x *ℚ y))))
          (λ a. test_ind (λ y. implies (nonneg (fraction a)) (implies (nonneg y) (nonneg (fraction a *ℚ y)))) (mul_ratios a) y) x)
          h.test) k.test;
    }

negate_ratio : (a : Ratio) → T (implies (not (nonneg (fraction a))) (nonneg (-ℚ fraction a)))
unfolding nonneg -ℚ◌
negate_ratio a = implies_intro (not (nonnegᴿ a)) _ (non_neg_negate a.numerator)

-- what is below 0 has a negative that is not
pub nonneg_negate : (x : ℚ) → T (not (nonneg x)) → NonNeg (-ℚ x)
nonneg_negate x t =
    record {
      test = implies_elim (not (nonneg x)) (nonneg (-ℚ x)) (test_ind (λ x. implies (not (nonneg x)) (nonneg (-ℚ x))) negate_ratio x) t;
    }

pub nonneg_eq : {x y : ℚ} → x ≡ y → NonNeg y → NonNeg x
nonneg_eq p h = record { test = subst (λ z. T (nonneg z)) (sym p) h.test }

pub nonneg_square : (x : ℚ) → NonNeg (x *ℚ x)
nonneg_square x = by_test (nonneg x) refl
  where
    by_test : (b : Bool) → nonneg x ≡ b → NonNeg (x *ℚ x)
    by_test true e = let n : NonNeg x = record { test = subst T (sym e) tt } in nonneg_mul n n
    by_test false e =
        let n = nonneg_negate x (subst (λ (b : Bool). T (not b)) (sym e) tt) in
        nonneg_eq (ring_ℚ 1 (λ x. x :* x := :- x :* :- x) tt x) (nonneg_mul n n)

-- ---- the gap y - x of x ≤ y

pub gap : {x y : ℚ} → x ≤ℚ y → NonNeg (y -ℚ x)
gap h = record { test = h.le }

pub from_gap : {x y e : ℚ} → NonNeg e → y -ℚ x ≡ e → x ≤ℚ y
from_gap h p = record { le = subst (λ z. T (nonneg z)) (sym p) h.test }

pub nonneg_of : {x : ℚ} → from_ℤ (pos 0) ≤ℚ x → NonNeg x
nonneg_of {x} h = nonneg_eq (ring_ℚ 1 (λ x. x := x :- 0 # 1) tt x) (gap h)

pub of_nonneg : {x : ℚ} → NonNeg x → from_ℤ (pos 0) ≤ℚ x
of_nonneg {x} h = from_gap h (ring_ℚ 1 (λ x. x :- 0 # 1 := x) tt x)

-- ---- numbers: the tests are answered by `tt`

pub nonneg_ratio : (a : Ratio) → T (nonnegᴿ a) → NonNeg (fraction a)
unfolding nonneg
nonneg_ratio a t = record { test = t }

pub ≤ℚ_ratio : (a b : Ratio) → T (leᴿ a b) → fraction a ≤ℚ fraction b
unfolding computed
≤ℚ_ratio a b t = record { le = t }

pub ≤ℚ_test : (a b : Ratio) → fraction a ≤ℚ fraction b → T (leᴿ a b)
unfolding computed
≤ℚ_test a b h = h.le

pub ≡_ratio : (a b : Ratio) → T (eqᴿ a b) → fraction a ≡ fraction b
≡_ratio a b t =
    ring_ℚ 2 (λ a b. a := a :- b :+ b) tt (fraction a) (fraction b)
    ∙ ap (λ (z : ℚ). z +ℚ fraction b)
    (ap (λ (z : ℚ). fraction a +ℚ z) (sym (fraction_negation b)) ∙ sym (fraction_sum a (-ᴿ b)) ∙ fraction_zero (a +ᴿ -ᴿ b) t)
    ∙ ring_ℚ 1 (λ b. 0 # 1 :+ b := b) tt (fraction b)

pub <ℚ_ratio : (a : Ratio) → T (posᴿ a) → from_ℤ (pos 0) <ℚ fraction a
unfolding computed
<ℚ_ratio a t = record { lt = t }

-- ---- a partial order, and what it keeps

pub ≤ℚ_refl : (x : ℚ) → x ≤ℚ x
≤ℚ_refl x = from_gap (nonneg_ratio (0 over 1) tt) (ring_ℚ 1 (λ x. x :- x := 0 # 1) tt x)

pub ≤ℚ_eq : {x y : ℚ} → x ≡ y → x ≤ℚ y
≤ℚ_eq {x} {y} p = subst (λ z. x ≤ℚ z) p (≤ℚ_refl x)

pub ≤ℚ_trans : {x y z : ℚ} → x ≤ℚ y → y ≤ℚ z → x ≤ℚ z
≤ℚ_trans {x} {y} {z} h k = from_gap (nonneg_add (gap k) (gap h)) (ring_ℚ 3 (λ x y z. z :- x := z :- y :+ (y :- x)) tt x y z)

pub +ℚ_mono : {x y u v : ℚ} → x ≤ℚ y → u ≤ℚ v → x +ℚ u ≤ℚ y +ℚ v
+ℚ_mono {x} {y} {u} {v} h k =
    from_gap (nonneg_add (gap h) (gap k)) (ring_ℚ 4 (λ x y u v. y :+ v :- (x :+ u) := y :- x :+ (v :- u)) tt x y u v)

pub *ℚ_mono : {x y z : ℚ} → NonNeg z → x ≤ℚ y → x *ℚ z ≤ℚ y *ℚ z
*ℚ_mono {x} {y} {z} n h = from_gap (nonneg_mul (gap h) n) (ring_ℚ 3 (λ x y z. y :* z :- x :* z := (y :- x) :* z) tt x y z)

-- a product of two that are at least so much
pub *ℚ_at_least : {x y l m : ℚ} → NonNeg l → NonNeg m → l ≤ℚ x → m ≤ℚ y → l *ℚ m ≤ℚ x *ℚ y
*ℚ_at_least {x} {y} {l} {m} nl nm hx hy =
    from_gap (nonneg_add (nonneg_mul (gap hx) (gap hy)) (nonneg_add (nonneg_mul nl (gap hy)) (nonneg_mul (gap hx) nm)))
    (ring_ℚ 4 (λ x y l m. x :* y :- l :* m := (x :- l) :* (y :- m) :+ (l :* (y :- m) :+ (x :- l) :* m)) tt x y l m)

zero_ratio : (a : Ratio) → T (nonneg (fraction a)) → T (nonneg (-ℚ fraction a)) → fraction a ≡ from_ℤ (pos 0)
unfolding nonneg -ℚ◌
zero_ratio a h k =
    sound
    (ap (λ (z : ℤ). z *ℤ pos 1) (zero_of_both a.numerator h k) ∙ sym (ap pos (zero-mul (suc a.denominator_minus_1))))

zero_of_both_ways : (x : ℚ) → T (nonneg x) → T (nonneg (-ℚ x)) → x ≡ from_ℤ (pos 0)
zero_of_both_ways =
    ind {β = λ x. T (nonneg x) → T (nonneg (-ℚ x)) → x ≡ from_ℤ (pos 0)} (λ x. Π_prop (λ h. Π_prop (λ k. Quot-set x (from_ℤ (pos 0))))) zero_ratio

pub ≤ℚ_antisym : {x y : ℚ} → x ≤ℚ y → y ≤ℚ x → x ≡ y
≤ℚ_antisym {x} {y} h k =
    ring_ℚ 2 (λ x y. x := x :- y :+ y) tt x y
    ∙ ap (λ (z : ℚ). z +ℚ y)
    (zero_of_both_ways (x -ℚ y) k.le (nonneg_eq (ring_ℚ 2 (λ x y. :- (x :- y) := y :- x) tt x y) (gap h)).test)
    ∙ ring_ℚ 1 (λ y. 0 # 1 :+ y := y) tt y

-- ---- below

pub <ℚ-≤ℚ : {x y : ℚ} → x <ℚ y → x ≤ℚ y
<ℚ-≤ℚ {x} {y} h = from_gap (nonneg_negate (x -ℚ y) h.lt) (ring_ℚ 2 (λ x y. y :- x := :- (x :- y)) tt x y)

pub <ℚ-≤ℚ_trans : {x y z : ℚ} → x <ℚ y → y ≤ℚ z → x <ℚ z
<ℚ-≤ℚ_trans {x} {y} {z} h k =
    record {
      lt = not_T (nonneg (x -ℚ z))
          (λ t. T_not (nonneg (x -ℚ y)) h.lt
          (nonneg_eq (ring_ℚ 3 (λ x y z. x :- y := x :- z :+ (z :- y)) tt x y z) (nonneg_add (record { test = t }) (gap k))).test);
    }

pub ≤ℚ-<ℚ_trans : {x y z : ℚ} → x ≤ℚ y → y <ℚ z → x <ℚ z
≤ℚ-<ℚ_trans {x} {y} {z} h k =
    record {
      lt = not_T (nonneg (x -ℚ z))
          (λ t. T_not (nonneg (y -ℚ z)) k.lt
          (nonneg_eq (ring_ℚ 3 (λ x y z. y :- z := x :- z :+ (y :- x)) tt x y z) (nonneg_add (record { test = t }) (gap h))).test);
    }

pub <ℚ_irrefl : {x : ℚ} → ¬ (x <ℚ x)
<ℚ_irrefl {x} h = T_not (nonneg (x -ℚ x)) h.lt (≤ℚ_refl x).le

pub not_above : {x y : ℚ} → ¬ (y <ℚ x) → x ≤ℚ y
not_above {x} {y} h = record { le = by_test (nonneg (y -ℚ x)) (λ t. h (record { lt = t })) }
  where
    by_test : (b : Bool) → ¬ T (not b) → T b
    by_test true n = tt
    by_test false n = absurd (n tt)
