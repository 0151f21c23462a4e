-- Bounds of fractions on either side of 0: `Bounded x a` says that -a ≤ x ≤ a. Assumes nothing.
use mathlib.Core.Path.{◌≡◌, refl, sym, ◌∙◌, subst}
use mathlib.Core.Bool.{Bool, true, false, not, cond}
use lib.Dec.{T}
use lib.IntN.{pos}
use Rattle.ratios.specs.Solver.{◌:+◌, ◌:-◌, ◌:*◌, :-◌, ◌:=◌}
use Rattle.ratios.specs.Ratios.{Ratio, ◌over◌, -ᴿ◌}
use Rattle.numbers.proofs.RatioTests.{leᴿ}
use Rattle.numbers.specs.Fractions.{ℚ, fraction, from_ℤ, ◌+ℚ◌, ◌*ℚ◌, -ℚ◌, ◌-ℚ◌, inverse, ◌÷ℚ◌, nonneg, ◌≤ℚ◌, ◌<ℚ◌, abs_ℚ}
use Rattle.numbers.proofs.FractionSolver.{ring_ℚ, ◌#◌, fraction_negation}
use Rattle.numbers.proofs.Order.{NonNeg, nonneg_add, nonneg_mul, nonneg_eq, nonneg_negate, nonneg_ratio, gap, from_gap, ≤ℚ_ratio, ≤ℚ_eq, ≤ℚ_trans, <ℚ-≤ℚ_trans}
use Rattle.numbers.proofs.Inverse.{*ℚ_inverse, nonneg_inverse_of, inverse_at_most}

pub record Bounded (x a : ℚ) : Type 0 where
  pub low : -ℚ a ≤ℚ x
  pub high : x ≤ℚ a

-- the two halves as what is not below 0, and back
pub above : {x a : ℚ} → Bounded x a → NonNeg (x +ℚ a)
above {x} {a} b = nonneg_eq (ring_ℚ 2 (λ x a. x :+ a := x :- :- a) tt x a) (gap b.low)

pub below : {x a : ℚ} → Bounded x a → NonNeg (a -ℚ x)
below b = gap b.high

pub bounded : {x a l h : ℚ} → NonNeg l → x +ℚ a ≡ l → NonNeg h → a -ℚ x ≡ h → Bounded x a
bounded {x} {a} nl el nh eh = record { low = from_gap nl (ring_ℚ 2 (λ x a. x :- :- a := x :+ a) tt x a ∙ el); high = from_gap nh eh }

pub bounded_ratio : (x a : Ratio) → T (leᴿ (-ᴿ a) x) → T (leᴿ x a) → Bounded (fraction x) (fraction a)
bounded_ratio x a l h = record { low = ≤ℚ_trans (≤ℚ_eq (sym (fraction_negation a))) (≤ℚ_ratio (-ᴿ a) x l); high = ≤ℚ_ratio x a h }

pub bounded_eq : {x y a : ℚ} → x ≡ y → Bounded y a → Bounded x a
bounded_eq {x} {y} {a} p b = subst (λ z. Bounded z a) (sym p) b

-- a bound is not below 0: it is half the sum of the halves
pub bound_nonneg : {x a : ℚ} → Bounded x a → NonNeg a
bound_nonneg {x} {a} b =
    nonneg_eq (ring_ℚ 2 (λ x a. a := 1 # 2 :* (x :+ a :+ (a :- x))) tt x a) (nonneg_mul (nonneg_ratio (1 over 2) tt) (nonneg_add (above b) (below b)))

pub bounded_nonneg : {x a : ℚ} → NonNeg x → x ≤ℚ a → Bounded x a
bounded_nonneg {x} {a} n h = bounded (nonneg_add n (nonneg_eq (ring_ℚ 2 (λ x a. a := a :- x :+ x) tt x a) (nonneg_add (gap h) n))) refl (gap h) refl

pub bounded_weaken : {x a b : ℚ} → Bounded x a → a ≤ℚ b → Bounded x b
bounded_weaken {x} {a} {b} p h =
    bounded (nonneg_add (above p) (gap h)) (ring_ℚ 3 (λ x a b. x :+ b := x :+ a :+ (b :- a)) tt x a b) (nonneg_add (below p) (gap h))
    (ring_ℚ 3 (λ x a b. b :- x := a :- x :+ (b :- a)) tt x a b)

pub bounded_add : {x y a b : ℚ} → Bounded x a → Bounded y b → Bounded (x +ℚ y) (a +ℚ b)
bounded_add {x} {y} {a} {b} p q =
    bounded (nonneg_add (above p) (above q)) (ring_ℚ 4 (λ x y a b. x :+ y :+ (a :+ b) := x :+ a :+ (y :+ b)) tt x y a b)
    (nonneg_add (below p) (below q)) (ring_ℚ 4 (λ x y a b. a :+ b :- (x :+ y) := a :- x :+ (b :- y)) tt x y a b)

pub bounded_neg : {x a : ℚ} → Bounded x a → Bounded (-ℚ x) a
bounded_neg {x} {a} p =
    bounded (below p) (ring_ℚ 2 (λ x a. :- x :+ a := a :- x) tt x a) (above p) (ring_ℚ 2 (λ x a. a :- :- x := x :+ a) tt x a)

-- of two that are not below 0 and at most a
pub bounded_sub : {x y a : ℚ} → NonNeg x → x ≤ℚ a → NonNeg y → y ≤ℚ a → Bounded (x -ℚ y) a
bounded_sub {x} {y} {a} nx hx ny hy =
    bounded (nonneg_add nx (gap hy)) (ring_ℚ 3 (λ x y a. x :- y :+ a := x :+ (a :- y)) tt x y a) (nonneg_add (gap hx) ny)
    (ring_ℚ 3 (λ x y a. a :- (x :- y) := a :- x :+ y) tt x y a)

-- 2 (xy + ab) = (x + a)(y + b) + (a - x)(b - y), and 2 (ab - xy) likewise
pub bounded_mul : {x y a b : ℚ} → Bounded x a → Bounded y b → Bounded (x *ℚ y) (a *ℚ b)
bounded_mul {x} {y} {a} {b} p q =
    bounded (nonneg_mul (nonneg_ratio (1 over 2) tt) (nonneg_add (nonneg_mul (above p) (above q)) (nonneg_mul (below p) (below q))))
    (ring_ℚ 4 (λ x y a b. x :* y :+ a :* b := 1 # 2 :* ((x :+ a) :* (y :+ b) :+ (a :- x) :* (b :- y))) tt x y a b)
    (nonneg_mul (nonneg_ratio (1 over 2) tt) (nonneg_add (nonneg_mul (below p) (above q)) (nonneg_mul (above p) (below q))))
    (ring_ℚ 4 (λ x y a b. a :* b :- x :* y := 1 # 2 :* ((a :- x) :* (y :+ b) :+ (x :+ a) :* (b :- y))) tt x y a b)

pub bounded_scale : {x a : ℚ} (c : ℚ) → NonNeg c → Bounded x a → Bounded (c *ℚ x) (c *ℚ a)
bounded_scale {x} {a} c n p =
    bounded (nonneg_mul n (above p)) (ring_ℚ 3 (λ c x a. c :* x :+ c :* a := c :* (x :+ a)) tt c x a) (nonneg_mul n (below p))
    (ring_ℚ 3 (λ c x a. c :* a :- c :* x := c :* (a :- x)) tt c x a)

-- a mean of two, with weights w and 1 - w, is bounded as they are
pub bounded_mean : {w x y a : ℚ} → NonNeg w → NonNeg (from_ℤ (pos 1) -ℚ w) → Bounded x a → Bounded y a → Bounded (w *ℚ x +ℚ (from_ℤ (pos 1) -ℚ w) *ℚ y) a
bounded_mean {w} {a = a} nw nv p q =
    bounded_weaken (bounded_add (bounded_scale w nw p) (bounded_scale (from_ℤ (pos 1) -ℚ w) nv q))
    (≤ℚ_eq (ring_ℚ 2 (λ w a. w :* a :+ (1 # 1 :- w) :* a := a) tt w a))

-- y ≥ m > 0
pub bounded_inverse : {y m : ℚ} → from_ℤ (pos 0) <ℚ m → m ≤ℚ y → Bounded (inverse y) (inverse m)
bounded_inverse hm hy = bounded_nonneg (nonneg_inverse_of (<ℚ-≤ℚ_trans hm hy)) (inverse_at_most hm hy)

pub bounded_quotient : {x y a m : ℚ} → from_ℤ (pos 0) <ℚ m → m ≤ℚ y → Bounded x a → Bounded (x ÷ℚ y) (a ÷ℚ m)
bounded_quotient hm hy p = bounded_mul p (bounded_inverse hm hy)

-- a part of a whole is at most one
pub bounded_part : {x y : ℚ} → from_ℤ (pos 0) <ℚ y → Bounded x y → Bounded (x ÷ℚ y) (from_ℤ (pos 1))
bounded_part {x} {y} hy p =
    bounded_weaken
    (bounded_eq (ring_ℚ 2 (λ x i. x :* i := i :* x) tt x (inverse y)) (bounded_scale (inverse y) (nonneg_inverse_of hy) p))
    (≤ℚ_eq (ring_ℚ 2 (λ y i. i :* y := y :* i) tt y (inverse y) ∙ *ℚ_inverse hy))

-- ---- the absolute value

by_abs : (x : ℚ) (b : Bool) → nonneg x ≡ b → Bounded x (cond b x (-ℚ x))
by_abs x true e = bounded (nonneg_add nx nx) refl (nonneg_ratio (0 over 1) tt) (ring_ℚ 1 (λ x. x :- x := 0 # 1) tt x)
  where
    nx : NonNeg x
    nx = record { test = subst T (sym e) tt }
by_abs x false e = bounded (nonneg_ratio (0 over 1) tt) (ring_ℚ 1 (λ x. x :- x := 0 # 1) tt x) (nonneg_add nx nx) refl
  where
    nx : NonNeg (-ℚ x)
    nx = nonneg_negate x (subst (λ (b : Bool). T (not b)) (sym e) tt)

pub bounded_abs : (x : ℚ) → Bounded x (abs_ℚ x)
unfolding abs_ℚ
bounded_abs x = by_abs x (nonneg x) refl

pub abs_bounded : {x a : ℚ} → Bounded x a → abs_ℚ x ≤ℚ a
unfolding abs_ℚ
abs_bounded {x} {a} p = by_test (nonneg x)
  where
    by_test : (b : Bool) → cond b x (-ℚ x) ≤ℚ a
    by_test true = p.high
    by_test false = (bounded_neg p).high

pub abs_is_nonneg : (x : ℚ) → NonNeg (abs_ℚ x)
abs_is_nonneg x = bound_nonneg (bounded_abs x)

pub abs_nonneg : {x : ℚ} → NonNeg x → abs_ℚ x ≡ x
unfolding abs_ℚ
abs_nonneg {x} h = by_test (nonneg x) h.test
  where
    by_test : (b : Bool) → T b → cond b x (-ℚ x) ≡ x
    by_test true t = refl
    by_test false t = absurd t
