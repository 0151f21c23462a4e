-- What the operations make of ranges. `Bounds r z` computes at a constructor of ℤ, so `omega` reads it there. Assumes nothing.
use mathlib.Core.Path.{◌≡◌, refl, subst}
use mathlib.Core.Bool.{Bool, true, false, not, cond, ◌&&◌}
use Prim.Native.Nat.{ℕ, zero, suc, ◌+◌, ◌-◌, ◌*◌, ◌/◌, ◌^◌, ◌≤◌, ◌<◌, max, zero-le}
use native.Mathlib.Nat.{le_trans, lt_of_lt_of_le, mul-le-mul, mul-le-mul_left, le-div_iff_mul-le, div-mul-le_self, le-max_left, le-max_right}
use native.Mathlib.Omega.{arith}
use lib.Dec.{T, leb, ltb, leb→le, nleb→lt, ltb→lt, nltb→le}
use lib.IntN.{ℤ, pos, negsuc, neg_ℤ, ◌+ℤ◌, ◌-ℤ◌, ◌*ℤ◌, sub_ℕ, +ℤ_comm}
use lib.Signed.{quot_z}
use mir.Syntax.{w16, w64}
use mir.Val.{SFits}
use Rattle.numbers.specs.Whole.{◌÷↓◌, ◌÷0◌}
use Rattle.numbers.specs.Ranges.{Range, from◌to◌, minus◌to◌, Bounds}

pub both : (s t : Bool) → T (s && t) → T s × T t
both true t h = (tt, h)
both false t h = absurd h

-- ---- the range of each operation's result

abbrev pub pick_range : Bool → Range → Range → Range
pick_range true r s = r
pick_range false r s = s

abbrev pub sum_range : Range → Range → Range
sum_range (from a to b) (from c to d) = from (a + c) to (b + d)
sum_range (from a to b) (minus c to d) = pick_range (leb c a) (from (a - c) to (b + d)) (minus (c - a) to (b + d))
sum_range (minus a to b) (from c to d) = pick_range (leb a c) (from (c - a) to (d + b)) (minus (a - c) to (d + b))
sum_range (minus a to b) (minus c to d) = minus (a + c) to (b + d)

abbrev pub difference_range : Range → Range → Range
difference_range (from a to b) (from c to d) = pick_range (leb d a) (from (a - d) to (b - c)) (minus (d - a) to (b - c))
difference_range (from a to b) (minus c to d) = sum_range (from a to b) (minus d to c)
difference_range (minus a to b) (from c to d) = minus (a + d) to (b - c)
difference_range (minus a to b) (minus c to d) = minus (a + d) to (b + c)

abbrev pub product_range : Range → Range → Range
product_range (from a to b) (from c to d) = from (a * c) to (b * d)
product_range (from a to b) (minus c to d) = minus (b * c) to (b * d)
product_range (minus a to b) (from c to d) = minus (a * d) to (b * d)
product_range (minus a to b) (minus c to d) = minus (max (a * d) (b * c)) to (max (a * c) (b * d))

-- where the divisor is above 0
abbrev pub quotient_range : Range → Range → Range
quotient_range (from a to b) (from c to d) = from (a / d) to (b / c)
quotient_range (minus a to b) (from c to d) = minus (a / c) to (b / c)
quotient_range r (minus c to d) = r

-- ---- tests of a range

abbrev pub above_zero : Range → Bool
above_zero (from a to b) = ltb 0 a
above_zero (minus a to b) = false

abbrev pub not_below_zero : Range → Bool
not_below_zero (from a to b) = true
not_below_zero (minus a to b) = false

-- an `i64` holds it, and an `i16`
abbrev pub fits_i64 : Range → Bool
fits_i64 (from a to b) = ltb b (2 ^ 63)
fits_i64 (minus a to b) = ltb (max a b) (2 ^ 63)

abbrev pub fits_i16 : Range → Bool
fits_i16 (from a to b) = ltb b (2 ^ 15)
fits_i16 (minus a to b) = leb a (2 ^ 15) && ltb b (2 ^ 15)

-- the first lies inside the second
abbrev pub inside : Range → Range → Bool
inside (from a to b) (from c to d) = leb c a && leb b d
inside (from a to b) (minus c to d) = leb b d
inside (minus a to b) (minus c to d) = leb a c && leb b d
inside (minus a to b) (from c to d) = false

pub wider : (r s : Range) (z : ℤ) → T (inside r s) → Bounds r z → Bounds s z
wider (from a to b) (from c to d) (pos n) t p = let u = both (leb c a) (leb b d) t in omega (arith, leb→le c a u.0, leb→le b d u.1)
wider (from a to b) (minus c to d) (pos n) t p = omega (arith, leb→le b d t)
wider (minus a to b) (minus c to d) (pos n) t p = let u = both (leb a c) (leb b d) t in omega (arith, leb→le b d u.1)
wider (minus a to b) (minus c to d) (negsuc n) t p = let u = both (leb a c) (leb b d) t in omega (arith, leb→le a c u.0)
wider (from a to b) (from c to d) (negsuc n) t p = absurd p
wider (from a to b) (minus c to d) (negsuc n) t p = absurd p
wider (minus a to b) (from c to d) z t p = absurd t

pub range_fits : (r : Range) (z : ℤ) → T (fits_i64 r) → Bounds r z → SFits w64 z
range_fits (from a to b) (pos n) t p = record { sfits = omega (arith, ltb→lt b (2 ^ 63) t) }
range_fits (from a to b) (negsuc n) t p = absurd p
range_fits (minus a to b) (pos n) t p = record { sfits = omega (arith, ltb→lt (max a b) (2 ^ 63) t) }
range_fits (minus a to b) (negsuc n) t p = record { sfits = omega (arith, ltb→lt (max a b) (2 ^ 63) t) }

pub range_fits_i16 : (r : Range) (z : ℤ) → T (fits_i16 r) → Bounds r z → SFits w16 z
range_fits_i16 (from a to b) (pos n) t p = record { sfits = omega (arith, ltb→lt b (2 ^ 15) t) }
range_fits_i16 (from a to b) (negsuc n) t p = absurd p
range_fits_i16 (minus a to b) (pos n) t p =
    record { sfits = omega (arith, ltb→lt b (2 ^ 15) (both (leb a (2 ^ 15)) (ltb b (2 ^ 15)) t).1) }
range_fits_i16 (minus a to b) (negsuc n) t p =
    record { sfits = omega (arith, leb→le a (2 ^ 15) (both (leb a (2 ^ 15)) (ltb b (2 ^ 15)) t).0) }

-- ---- sums and differences

in_picked : (t : Bool) (r s : Range) (z : ℤ) → (T t → Bounds r z) → (T (not t) → Bounds s z) → Bounds (pick_range t r s) z
in_picked true r s z f g = f tt
in_picked false r s z f g = g tt

in_by_test : (r : Range) (a b : ℕ) (t : Bool) → (T t → a < b) → (T (not t) → b ≤ a) → (a < b → Bounds r (negsuc (b - suc a))) → (b ≤ a → Bounds r (pos (a - b))) → Bounds r (cond t (negsuc (b - suc a)) (pos (a - b)))
in_by_test r a b true p q f g = f (p tt)
in_by_test r a b false p q f g = g (q tt)

in_sub_ℕ : (r : Range) (a b : ℕ) → (a < b → Bounds r (negsuc (b - suc a))) → (b ≤ a → Bounds r (pos (a - b))) → Bounds r (sub_ℕ a b)
in_sub_ℕ r a b f g = in_by_test r a b (ltb a b) (ltb→lt a b) (nltb→le a b) f g

sum_mixed : (a b c d : ℕ) (x y : ℤ) → Bounds (from a to b) x → Bounds (minus c to d) y → Bounds (pick_range (leb c a) (from (a - c) to (b + d)) (minus (c - a) to (b + d))) (x +ℤ y)
sum_mixed a b c d (pos m) (pos n) p q =
    in_picked (leb c a) (from (a - c) to (b + d)) (minus (c - a) to (b + d)) (pos (m + n)) (λ t. omega arith) (λ t. omega arith)
sum_mixed a b c d (pos m) (negsuc n) p q =
    in_picked (leb c a) (from (a - c) to (b + d)) (minus (c - a) to (b + d)) (sub_ℕ m (suc n))
    (λ t. in_sub_ℕ (from (a - c) to (b + d)) m (suc n) (λ u. omega (arith, leb→le c a t)) (λ u. omega (arith, leb→le c a t)))
    (λ t. in_sub_ℕ (minus (c - a) to (b + d)) m (suc n) (λ u. omega (arith, nleb→lt c a t)) (λ u. omega (arith, nleb→lt c a t)))
sum_mixed a b c d (negsuc m) y p q = absurd p

pub sum_in : (r s : Range) (x y : ℤ) → Bounds r x → Bounds s y → Bounds (sum_range r s) (x +ℤ y)
sum_in (from a to b) (from c to d) (pos m) (pos n) p q = omega arith
sum_in (from a to b) (from c to d) (pos m) (negsuc n) p q = absurd q
sum_in (from a to b) (from c to d) (negsuc m) y p q = absurd p
sum_in (from a to b) (minus c to d) x y p q = sum_mixed a b c d x y p q
sum_in (minus a to b) (from c to d) x y p q =
    subst (Bounds (sum_range (minus a to b) (from c to d))) (+ℤ_comm y x) (sum_mixed c d a b y x q p)
sum_in (minus a to b) (minus c to d) (pos m) (pos n) p q = omega arith
sum_in (minus a to b) (minus c to d) (pos m) (negsuc n) p q = in_sub_ℕ (minus (a + c) to (b + d)) m (suc n) (λ u. omega arith) (λ u. omega arith)
sum_in (minus a to b) (minus c to d) (negsuc m) (pos n) p q = in_sub_ℕ (minus (a + c) to (b + d)) n (suc m) (λ u. omega arith) (λ u. omega arith)
sum_in (minus a to b) (minus c to d) (negsuc m) (negsuc n) p q = omega arith

negative_ℕ : (a b k : ℕ) → k ≤ a → Bounds (minus a to b) (neg_ℤ (pos k))
negative_ℕ a b zero h = zero-le
negative_ℕ a b (suc k) h = h

negative_in : (a b : ℕ) (x : ℤ) → Bounds (minus a to b) x → Bounds (minus b to a) (neg_ℤ x)
negative_in a b (pos n) p = negative_ℕ b a n p
negative_in a b (negsuc n) p = p

difference_ℕ : (a b c d m n : ℕ) → a ≤ m → m ≤ b → c ≤ n → n ≤ d → Bounds (difference_range (from a to b) (from c to d)) (sub_ℕ m n)
difference_ℕ a b c d m n p q u v =
    in_picked (leb d a) (from (a - d) to (b - c)) (minus (d - a) to (b - c)) (sub_ℕ m n)
    (λ t. in_sub_ℕ (from (a - d) to (b - c)) m n (λ w. omega (arith, leb→le d a t)) (λ w. omega (arith, leb→le d a t)))
    (λ t. in_sub_ℕ (minus (d - a) to (b - c)) m n (λ w. omega arith) (λ w. omega arith))

pub difference_in : (r s : Range) (x y : ℤ) → Bounds r x → Bounds s y → Bounds (difference_range r s) (x -ℤ y)
difference_in (from a to b) (from c to d) (pos m) (pos zero) p q =
    in_picked (leb d a) (from (a - d) to (b - c)) (minus (d - a) to (b - c)) (pos (m + 0)) (λ t. omega arith) (λ t. omega arith)
difference_in (from a to b) (from c to d) (pos m) (pos (suc n)) p q = difference_ℕ a b c d m (suc n) p.0 p.1 q.0 q.1
difference_in (from a to b) (from c to d) (pos m) (negsuc n) p q = absurd q
difference_in (from a to b) (from c to d) (negsuc m) y p q = absurd p
difference_in (from a to b) (minus c to d) x y p q = sum_in (from a to b) (minus d to c) x (neg_ℤ y) p (negative_in c d y q)
difference_in (minus a to b) (from c to d) (pos m) (pos zero) p q = omega arith
difference_in (minus a to b) (from c to d) (pos m) (pos (suc n)) p q = in_sub_ℕ (minus (a + d) to (b - c)) m (suc n) (λ w. omega arith) (λ w. omega arith)
difference_in (minus a to b) (from c to d) (negsuc m) (pos zero) p q = in_sub_ℕ (minus (a + d) to (b - c)) 0 (suc m) (λ w. omega arith) (λ w. omega arith)
difference_in (minus a to b) (from c to d) (negsuc m) (pos (suc n)) p q = omega arith
difference_in (minus a to b) (from c to d) (pos m) (negsuc n) p q = absurd q
difference_in (minus a to b) (from c to d) (negsuc m) (negsuc n) p q = absurd q
difference_in (minus a to b) (minus c to d) x y p q = sum_in (minus a to b) (minus d to c) x (neg_ℤ y) p (negative_in c d y q)

-- ---- products

pub product_in : (r s : Range) (x y : ℤ) → Bounds r x → Bounds s y → Bounds (product_range r s) (x *ℤ y)
product_in (from a to b) (from c to d) (pos m) (pos n) p q = (mul-le-mul p.0 q.0, mul-le-mul p.1 q.1)
product_in (from a to b) (from c to d) (pos m) (negsuc n) p q = absurd q
product_in (from a to b) (from c to d) (negsuc m) y p q = absurd p
product_in (from a to b) (minus c to d) (pos m) (pos n) p q = mul-le-mul p.1 q
product_in (from a to b) (minus c to d) (pos m) (negsuc n) p q = negative_ℕ (b * c) (b * d) (m * suc n) (mul-le-mul p.1 q)
product_in (from a to b) (minus c to d) (negsuc m) y p q = absurd p
product_in (minus a to b) (from c to d) (pos m) (pos n) p q = mul-le-mul p q.1
product_in (minus a to b) (from c to d) (pos m) (negsuc n) p q = absurd q
product_in (minus a to b) (from c to d) (negsuc m) (pos n) p q = negative_ℕ (a * d) (b * d) (suc m * n) (mul-le-mul p q.1)
product_in (minus a to b) (from c to d) (negsuc m) (negsuc n) p q = absurd q
product_in (minus a to b) (minus c to d) (pos m) (pos n) p q = le_trans (mul-le-mul p q) (le-max_right (a * c) (b * d))
product_in (minus a to b) (minus c to d) (pos m) (negsuc n) p q =
    negative_ℕ (max (a * d) (b * c)) (max (a * c) (b * d)) (m * suc n) (le_trans (mul-le-mul p q) (le-max_right (a * d) (b * c)))
product_in (minus a to b) (minus c to d) (negsuc m) (pos n) p q =
    negative_ℕ (max (a * d) (b * c)) (max (a * c) (b * d)) (suc m * n) (le_trans (mul-le-mul p q) (le-max_left (a * d) (b * c)))
product_in (minus a to b) (minus c to d) (negsuc m) (negsuc n) p q = le_trans (mul-le-mul p q) (le-max_left (a * c) (b * d))

-- ---- quotients, by a divisor above 0

div_mono : (k l : ℕ) {m n : ℕ} → 0 < l → l ≤ k → m ≤ n → m / k ≤ n / l
div_mono k l {m} {n} h p q = (le-div_iff_mul-le h).1 (le_trans (mul-le-mul_left (m / k) p) (le_trans (div-mul-le_self m k) q))

pub quotient_in : (r s : Range) (x y : ℤ) → T (above_zero s) → Bounds r x → Bounds s y → Bounds (quotient_range r s) (quot_z x y)
quotient_in (from a to b) (from c to d) (pos m) (pos k) t p q =
    (div_mono d k (lt_of_lt_of_le (ltb→lt 0 c t) q.0) q.1 p.0, div_mono k c (ltb→lt 0 c t) q.0 p.1)
quotient_in (from a to b) (from c to d) (negsuc m) (pos k) t p q = absurd p
quotient_in (minus a to b) (from c to d) (pos m) (pos k) t p q = div_mono k c (ltb→lt 0 c t) q.0 p
quotient_in (minus a to b) (from c to d) (negsuc m) (pos k) t p q =
    negative_ℕ (a / c) (b / c) (suc m / k) (div_mono k c (ltb→lt 0 c t) q.0 p)
quotient_in (from a to b) (from c to d) x (negsuc k) t p q = absurd q
quotient_in (minus a to b) (from c to d) x (negsuc k) t p q = absurd q
quotient_in (from a to b) (minus c to d) x y t p q = absurd t
quotient_in (minus a to b) (minus c to d) x y t p q = absurd t

-- of `÷0`, whatever its rounding: the range that it keeps to
pub toward_zero_in : (r s : Range) (x y : ℤ) → T (above_zero s) → Bounds r x → Bounds s y → Bounds (quotient_range r s) (x ÷0 y)
toward_zero_in = quotient_in

-- "down" is the machine's division where the dividend is not below 0
pub down_is : (r s : Range) (x y : ℤ) → T (not_below_zero r) → T (above_zero s) → Bounds r x → Bounds s y → quot_z x y ≡ x ÷↓ y
down_is (from a to b) (from c to d) (pos m) (pos k) t u p q = refl
down_is (from a to b) (from c to d) (pos m) (negsuc k) t u p q = absurd q
down_is (from a to b) (from c to d) (negsuc m) y t u p q = absurd p
down_is (from a to b) (minus c to d) x y t u p q = absurd u
down_is (minus a to b) s x y t u p q = absurd t
