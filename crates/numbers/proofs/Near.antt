-- Errors: what the operations make of numbers that are near others. `Near x X ε` says that x is within ε of X. Assumes nothing.
use mathlib.Core.Path.{◌≡◌, refl, sym, ◌∙◌, ap, ap₂, subst}
use mathlib.Core.Bool.{Bool, true, false, not, cond}
use lib.Dec.{T}
use lib.IntN.{pos}
use Rattle.ratios.specs.Solver.{◌:+◌, ◌:-◌, ◌:*◌, :-◌, ◌:=◌}
use Rattle.ratios.specs.Ratios.{◌over◌}
use Rattle.numbers.specs.Fractions.{ℚ, from_ℤ, ◌+ℚ◌, ◌*ℚ◌, -ℚ◌, ◌-ℚ◌, inverse, ◌÷ℚ◌, nonneg, ◌≤ℚ◌, ◌<ℚ◌, abs_ℚ, at_least_ℚ, at_most_ℚ, Near}
use Rattle.numbers.proofs.FractionSolver.{ring_ℚ, from_multiple_ℚ, ◌#◌}
use Rattle.numbers.proofs.Order.{NonNeg, nonneg_add, nonneg_mul, nonneg_negate, nonneg_ratio, gap, from_gap, ≤ℚ_eq, <ℚ-≤ℚ_trans}
use Rattle.numbers.proofs.Inverse.{*ℚ_inverse, nonneg_inverse_of}
use Rattle.numbers.proofs.Bounds.{Bounded, above, below, bounded, bounded_add, bounded_neg, bounded_mul, bounded_scale, bounded_weaken, bounded_eq, bounded_inverse, abs_bounded, bound_nonneg}

-- the error, as a bounded number
pub error : {x X ε : ℚ} → Near x X ε → Bounded (x -ℚ X) ε
error h = record { low = h.low; high = h.high }

pub near : {x X e ε : ℚ} → x -ℚ X ≡ e → Bounded e ε → Near x X ε
near {x} {X} {e} {ε} p b = let q = bounded_eq p b in record { low = q.low; high = q.high }

pub near_self : (x : ℚ) → Near x x (from_ℤ (pos 0))
near_self x =
    near (ring_ℚ 1 (λ x. x :- x := 0 # 1) tt x)
    (bounded (nonneg_ratio (0 over 1) tt) (ring_ℚ 0 (0 # 1 :+ 0 # 1 := 0 # 1) tt) (nonneg_ratio (0 over 1) tt) (ring_ℚ 0 (0 # 1 :- 0 # 1 := 0 # 1) tt))

pub near_weaken : {x X δ ε : ℚ} → Near x X δ → δ ≤ℚ ε → Near x X ε
near_weaken h k = near refl (bounded_weaken (error h) k)

pub near_eq : {x y X Y ε : ℚ} → x ≡ y → X ≡ Y → Near y Y ε → Near x X ε
near_eq p q h = near (ap₂ ◌-ℚ◌ p q) (error h)

pub near_trans : {x y z δ ε : ℚ} → Near x y δ → Near y z ε → Near x z (δ +ℚ ε)
near_trans {x} {y} {z} h k = near (ring_ℚ 3 (λ x y z. x :- z := x :- y :+ (y :- z)) tt x y z) (bounded_add (error h) (error k))

pub near_sym : {x y ε : ℚ} → Near x y ε → Near y x ε
near_sym {x} {y} h = near (ring_ℚ 2 (λ x y. y :- x := :- (x :- y)) tt x y) (bounded_neg (error h))

-- |x - X| ≤ ε, both ways
pub near_abs : {x X ε : ℚ} → Near x X ε → abs_ℚ (x -ℚ X) ≤ℚ ε
near_abs h = abs_bounded (error h)

-- ---- sums, products, quotients

pub near_add : {x X y Y δ ε : ℚ} → Near x X δ → Near y Y ε → Near (x +ℚ y) (X +ℚ Y) (δ +ℚ ε)
near_add {x} {X} {y} {Y} h k =
    near (ring_ℚ 4 (λ x X y Y. x :+ y :- (X :+ Y) := x :- X :+ (y :- Y)) tt x X y Y) (bounded_add (error h) (error k))

pub near_neg : {x X ε : ℚ} → Near x X ε → Near (-ℚ x) (-ℚ X) ε
near_neg {x} {X} h = near (ring_ℚ 2 (λ x X. :- x :- :- X := :- (x :- X)) tt x X) (bounded_neg (error h))

-- |x| ≤ a and |Y| ≤ b: xy - XY = x (y - Y) + (x - X) Y
pub near_mul : {x X y Y a b δ ε : ℚ} → Bounded x a → Bounded Y b → Near x X δ → Near y Y ε → Near (x *ℚ y) (X *ℚ Y) (a *ℚ ε +ℚ δ *ℚ b)
near_mul {x} {X} {y} {Y} p q h k =
    near (ring_ℚ 4 (λ x X y Y. x :* y :- X :* Y := x :* (y :- Y) :+ (x :- X) :* Y) tt x X y Y)
    (bounded_add (bounded_mul p (error k)) (bounded_mul (error h) q))

-- times an exact number that is not below 0
pub near_scale : {x X ε : ℚ} (c : ℚ) → NonNeg c → Near x X ε → Near (c *ℚ x) (c *ℚ X) (c *ℚ ε)
near_scale {x} {X} c n h = near (ring_ℚ 3 (λ c x X. c :* x :- c :* X := c :* (x :- X)) tt c x X) (bounded_scale c n (error h))

-- the divisors are at least m > 0, and |X / Y| ≤ c: x/y - X/Y = ((x - X) - X/Y (y - Y)) / y
pub near_quotient : {x X y Y m c δ ε : ℚ} → from_ℤ (pos 0) <ℚ m → m ≤ℚ y → m ≤ℚ Y → Bounded (X ÷ℚ Y) c → Near x X δ → Near y Y ε → Near (x ÷ℚ y) (X ÷ℚ Y) ((δ +ℚ c *ℚ ε) ÷ℚ m)
near_quotient {x} {X} {y} {Y} {m} {c} {δ} {ε} hm hy hY q h k =
    near split (bounded_mul (bounded_add (error h) (bounded_neg (bounded_mul q (error k)))) (bounded_inverse hm hy))
  where
    split : x ÷ℚ y -ℚ X ÷ℚ Y ≡ (x -ℚ X +ℚ -ℚ (X ÷ℚ Y *ℚ (y -ℚ Y))) *ℚ inverse y
    split =
        from_multiple_ℚ (X *ℚ inverse Y) (*ℚ_inverse (<ℚ-≤ℚ_trans hm hy))
        (from_multiple_ℚ (-ℚ (X *ℚ inverse y)) (*ℚ_inverse (<ℚ-≤ℚ_trans hm hY))
        (ring_ℚ 6 (λ x X y Y i I. x :* i :- X :* I :- (x :- X :+ :- (X :* I :* (y :- Y))) :* i :- X :* I :* (y :* i :- 1 # 1) := :- (X :* i) :* (Y :* I :- 1 # 1)) tt
        x X y Y (inverse y) (inverse Y)))

-- a part of a sum, X / (X + Y) with X and Y not below 0, times a number k:
-- x/(x + y) - X/(X + Y) = (Y (x - X) - X (y - Y)) / ((x + y)(X + Y))
pub part_error : {x X y Y k a c δ ε : ℚ} → NonNeg X → NonNeg Y → from_ℤ (pos 0) <ℚ x +ℚ y → from_ℤ (pos 0) <ℚ X +ℚ Y → Near x X δ → Near y Y ε → Bounded k a →
    (Y *ℚ δ +ℚ X *ℚ ε) *ℚ a ≤ℚ c *ℚ ((x +ℚ y) *ℚ (X +ℚ Y)) → Bounded ((x ÷ℚ (x +ℚ y) -ℚ X ÷ℚ (X +ℚ Y)) *ℚ k) c
part_error {x} {X} {y} {Y} {k} {a} {c} nX nY hs hS h j hk enough =
    bounded_weaken
    (bounded_eq split
    (bounded_scale (inverse (x +ℚ y) *ℚ inverse (X +ℚ Y)) (nonneg_mul (nonneg_inverse_of hs) (nonneg_inverse_of hS))
    (bounded_weaken (bounded_mul (bounded_add (bounded_scale Y nY (error h)) (bounded_neg (bounded_scale X nX (error j)))) hk) enough)))
    (≤ℚ_eq whole)
  where
    split : (x ÷ℚ (x +ℚ y) -ℚ X ÷ℚ (X +ℚ Y)) *ℚ k ≡ inverse (x +ℚ y) *ℚ inverse (X +ℚ Y) *ℚ ((Y *ℚ (x -ℚ X) +ℚ -ℚ (X *ℚ (y -ℚ Y))) *ℚ k)
    split =
        from_multiple_ℚ (X *ℚ inverse (X +ℚ Y) *ℚ k) (*ℚ_inverse hs)
        (from_multiple_ℚ (-ℚ (x *ℚ inverse (x +ℚ y) *ℚ k)) (*ℚ_inverse hS)
        (ring_ℚ 7 (λ x X y Y k i I. (x :* i :- X :* I) :* k :- i :* I :* ((Y :* (x :- X) :+ :- (X :* (y :- Y))) :* k) :- X :* I :* k :* ((x :+ y) :* i :- 1 # 1) := :- (x :* i :* k) :* ((X :+ Y) :* I :- 1 # 1)) tt
        x X y Y k (inverse (x +ℚ y)) (inverse (X +ℚ Y))))

    whole : inverse (x +ℚ y) *ℚ inverse (X +ℚ Y) *ℚ (c *ℚ ((x +ℚ y) *ℚ (X +ℚ Y))) ≡ c
    whole =
        from_multiple_ℚ (c *ℚ ((X +ℚ Y) *ℚ inverse (X +ℚ Y))) (*ℚ_inverse hs)
        (from_multiple_ℚ c (*ℚ_inverse hS)
        (ring_ℚ 5 (λ s S c i I. i :* I :* (c :* (s :* S)) :- c :- c :* (S :* I) :* (s :* i :- 1 # 1) := c :* (S :* I :- 1 # 1)) tt
        (x +ℚ y) (X +ℚ Y) c (inverse (x +ℚ y)) (inverse (X +ℚ Y))))

-- a mean with weights w and 1 - w: its error
pub near_mean : (w W x X y Y : ℚ) {c : ℚ} → Bounded (W *ℚ (x -ℚ X) +ℚ (from_ℤ (pos 1) -ℚ W) *ℚ (y -ℚ Y) +ℚ (w -ℚ W) *ℚ (x -ℚ y)) c →
    Near (w *ℚ x +ℚ (from_ℤ (pos 1) -ℚ w) *ℚ y) (W *ℚ X +ℚ (from_ℤ (pos 1) -ℚ W) *ℚ Y) c
near_mean w W x X y Y =
    near
    (ring_ℚ 6 (λ w W x X y Y. w :* x :+ (1 # 1 :- w) :* y :- (W :* X :+ (1 # 1 :- W) :* Y) := W :* (x :- X) :+ (1 # 1 :- W) :* (y :- Y) :+ (w :- W) :* (x :- y)) tt
    w W x X y Y)

-- ---- bounds of what is near

pub near_bounded : {x X a ε : ℚ} → Bounded X a → Near x X ε → Bounded x (a +ℚ ε)
near_bounded {x} {X} p h = bounded_eq (ring_ℚ 2 (λ x X. x := X :+ (x :- X)) tt x X) (bounded_add p (error h))

pub near_at_least : {x X ε l m : ℚ} → m +ℚ ε ≤ℚ l → l ≤ℚ X → Near x X ε → m ≤ℚ x
near_at_least {x} {X} {ε} {l} {m} t h k =
    from_gap (nonneg_add (nonneg_add (gap t) (gap h)) (above (error k)))
    (ring_ℚ 5 (λ x X e l m. x :- m := l :- (m :+ e) :+ (X :- l) :+ (x :- X :+ e)) tt x X ε l m)

-- ---- a limit from below, or from above: of x and of X alike

module _ {x X ε : ℚ} (l : ℚ) (h : Near x X ε) where
  by_tests : (b c : Bool) → nonneg (x -ℚ l) ≡ b → nonneg (X -ℚ l) ≡ c → Near (cond b x l) (cond c X l) ε
  by_tests true true p q = h
  by_tests true false p q =
      near refl
      (bounded (nonneg_add (record { test = subst T (sym p) tt }) (bound_nonneg (error h))) refl
      (nonneg_add (below (error h)) (nonneg_negate (X -ℚ l) (subst (λ (b : Bool). T (not b)) (sym q) tt)))
      (ring_ℚ 4 (λ x X l e. e :- (x :- l) := e :- (x :- X) :+ :- (X :- l)) tt x X l ε))
  by_tests false true p q =
      near refl
      (bounded (nonneg_add (above (error h)) (nonneg_negate (x -ℚ l) (subst (λ (b : Bool). T (not b)) (sym p) tt)))
      (ring_ℚ 4 (λ x X l e. l :- X :+ e := x :- X :+ e :+ :- (x :- l)) tt x X l ε)
      (nonneg_add (record { test = subst T (sym q) tt }) (bound_nonneg (error h)))
      (ring_ℚ 3 (λ X l e. e :- (l :- X) := X :- l :+ e) tt X l ε))
  by_tests false false p q = near_weaken (near_self l) (from_gap (bound_nonneg (error h)) (ring_ℚ 1 (λ e. e :- 0 # 1 := e) tt ε))

pub near_limit_below : {x X ε : ℚ} (l : ℚ) → Near x X ε → Near (at_least_ℚ l x) (at_least_ℚ l X) ε
unfolding at_least_ℚ
near_limit_below {x} {X} l h = by_tests l h (nonneg (x -ℚ l)) (nonneg (X -ℚ l)) refl refl

-- a limit from above is one from below, of the negatives
pub at_most_is : (l x : ℚ) → at_most_ℚ l x ≡ -ℚ at_least_ℚ (-ℚ l) (-ℚ x)
unfolding at_most_ℚ at_least_ℚ
at_most_is l x = ap (λ (b : Bool). cond b x l) (ap nonneg (ring_ℚ 2 (λ l x. l :- x := :- x :- :- l) tt l x)) ∙ by_test (nonneg (-ℚ x -ℚ -ℚ l))
  where
    by_test : (b : Bool) → cond b x l ≡ -ℚ cond b (-ℚ x) (-ℚ l)
    by_test true = ring_ℚ 1 (λ x. x := :- :- x) tt x
    by_test false = ring_ℚ 1 (λ x. x := :- :- x) tt l

pub near_limit_above : {x X ε : ℚ} (l : ℚ) → Near x X ε → Near (at_most_ℚ l x) (at_most_ℚ l X) ε
near_limit_above {x} {X} l h = near_eq (at_most_is l x) (at_most_is l X) (near_neg (near_limit_below (-ℚ l) (near_neg h)))
