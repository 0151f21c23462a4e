-- A computed test that r is the whole number nearest to scale · (a/b)^5.257, in fixed point with s for the denominator, rounded up and down:
-- powers of 100,000 bits would be too dear. 5,257 is 5 · 1,000 + 257, and a thousandth power is three tenth powers. Assumes nothing.
use mathlib.Core.Path.{◌≡◌}
use mathlib.Core.Bool.{Bool, ◌&&◌}
use Prim.Native.Nat.{ℕ, ◌+◌, ◌*◌, ◌-◌, ◌^◌, ◌/◌, ◌≤◌, ◌<◌}
use native.Mathlib.Nat.{mul_assoc, one-le-pow, mul-pos, mul-le-mul_right, lt_of_mul-lt-mul_right, mul-lt-mul_of_pos_right}
use native.Mathlib.Nat.{lt-div-mul-add, div-mul-le_self}
use native.Mathlib.Omega.{arith}
use lib.Dec.{T, ltb, ltb→lt}
use lib.Pow.{pow-add}
use Rattle.numbers.proofs.RangeArithmetic.{both}
use Rattle.numbers.proofs.WholePowers.{product_power, power_power, power_up, power_down}

-- r is nearest to scale · (a/b)^(k/1000), the number whose thousandth power is scale^1000 · (a/b)^k: 2r - 1 < 2 scale · (a/b)^(k/1000) < 2r + 1
pub record NearestPower (scale a b k r : ℕ) : Type 0 where
  pub low : (2 * r - 1) ^ 1000 * b ^ k < a ^ k * (2 * scale) ^ 1000
  pub high : a ^ k * (2 * scale) ^ 1000 < (2 * r + 1) ^ 1000 * b ^ k

-- ---- bounds of s · (x/y)^1000

unfoldable pub tenth_up : ℕ → ℕ → ℕ
tenth_up s a = a ^ 10 / s ^ 9 + 1

unfoldable pub tenth_down : ℕ → ℕ → ℕ
tenth_down s a = a ^ 10 / s ^ 9

unfoldable pub upper : ℕ → ℕ → ℕ → ℕ
upper s x y = tenth_up s (tenth_up s (tenth_up s (x * s / y + 1)))

unfoldable pub lower : ℕ → ℕ → ℕ → ℕ
lower s x y = tenth_down s (tenth_down s (tenth_down s (x * s / y)))

thousandth : (x : ℕ) → ((x ^ 10) ^ 10) ^ 10 ≡ x ^ 1000
thousandth x = rw (power_power (x ^ 10) 10 10, power_power x 10 100)

upper_bound : (s x y : ℕ) → 0 < s → 0 < y → x ^ 1000 * s ≤ upper s x y * y ^ 1000
unfolding upper tenth_up
upper_bound s x y ps py =
    let a : ℕ = x * s / y + 1 in
    let start : x * s ≤ (x * s / y + 1) * y = omega (arith, lt-div-mul-add {a = x * s} {b = y} py) in
    let one = power_up s 9 x y a ps start in
    let two = power_up s 9 (x ^ 10) (y ^ 10) (tenth_up s a) ps one in
    rw (← thousandth x, ← thousandth y) (power_up s 9 ((x ^ 10) ^ 10) ((y ^ 10) ^ 10) (tenth_up s (tenth_up s a)) ps two)

lower_bound : (s x y : ℕ) → 0 < s → lower s x y * y ^ 1000 ≤ x ^ 1000 * s
unfolding lower tenth_down
lower_bound s x y ps =
    let a : ℕ = x * s / y in
    let one = power_down s 9 x y a ps (div-mul-le_self (x * s) y) in
    let two = power_down s 9 (x ^ 10) (y ^ 10) (tenth_down s a) ps one in
    rw (← thousandth x, ← thousandth y) (power_down s 9 ((x ^ 10) ^ 10) ((y ^ 10) ^ 10) (tenth_down s (tenth_down s a)) ps two)

-- ---- x/y < g/c and g/c < x/y, by a number of s-ths between them

below_middle : (s x y u l c g : ℕ) → 0 < y → 0 < c → x * s ≤ u * y → u < l → l * c ≤ s * g → x * c < g * y
below_middle s x y u l c g py pc h k m =
    lt_of_mul-lt-mul_right s
    (omega (arith, mul-le-mul_right c h, mul-lt-mul_of_pos_right k (mul-pos py pc), mul-le-mul_right y m))

above_middle : (s x y u l c g : ℕ) → 0 < y → u * y ≤ x * s → l < u → s * g < l * c + c → g * y < x * c
above_middle s x y u l c g py h k m =
    lt_of_mul-lt-mul_right s
    (omega (arith, mul-le-mul_right c h, mul-le-mul_right (y * c) k, mul-lt-mul_of_pos_right m py))

-- 5,257 = 5 · 1,000 + 257
split_power : (w b : ℕ) → (w * b ^ 5) ^ 1000 * b ^ 257 ≡ w ^ 1000 * b ^ 5257
split_power w b =
    rw (product_power w (b ^ 5) 1000, power_power b 5 1000, mul_assoc (w ^ 1000) (b ^ 5000) (b ^ 257), ← pow-add b 5000 257)

-- ---- the test

-- s · (a/b)^257, rounded down
abbrev pub middle : ℕ → ℕ → ℕ → ℕ
middle s a b = s * a ^ 257 / b ^ 257

abbrev pub low_test : ℕ → ℕ → ℕ → ℕ → ℕ → ℕ → Bool
low_test s scale a b r l = ltb (upper s ((2 * r - 1) * b ^ 5) (2 * scale * a ^ 5)) l

abbrev pub high_test : ℕ → ℕ → ℕ → ℕ → ℕ → ℕ → Bool
high_test s scale a b r l = ltb l (lower s ((2 * r + 1) * b ^ 5) (2 * scale * a ^ 5))

unfoldable pub power_test : ℕ → ℕ → ℕ → ℕ → ℕ → Bool
power_test s scale a b r =
    let l : ℕ = middle s a b in
    low_test s scale a b r l && high_test s scale a b r l

pub power_nearest : (s scale a b r : ℕ) → 0 < s → 0 < scale → 0 < a → 0 < b → T (power_test s scale a b r) → NearestPower scale a b 5257 r
unfolding power_test
power_nearest s scale a b r ps pk pa pb t =
    let l : ℕ = middle s a b in
    let tests = both (low_test s scale a b r l) (high_test s scale a b r l) t in
    let py : 0 < 2 * scale * a ^ 5 = mul-pos (mul-pos (omega arith) pk) (one-le-pow 5 a pa) in
    let pp : 0 < (2 * scale * a ^ 5) ^ 1000 = one-le-pow 1000 _ py in
    let pc : 0 < b ^ 257 = one-le-pow 257 b pb in
    let right : (2 * scale * a ^ 5) ^ 1000 * a ^ 257 ≡ (2 * scale) ^ 1000 * a ^ 5257 = split_power (2 * scale) a in
    record {
      low =
          omega (
            arith,
            right,
            split_power (2 * r - 1) b,
            below_middle s _ _ (upper s ((2 * r - 1) * b ^ 5) (2 * scale * a ^ 5)) l _ (a ^ 257) pp pc (upper_bound s _ _ ps py)
                (ltb→lt _ _ tests.0) (div-mul-le_self (s * a ^ 257) (b ^ 257)),
          );
      high =
          omega (
            arith,
            right,
            split_power (2 * r + 1) b,
            above_middle s _ _ (lower s ((2 * r + 1) * b ^ 5) (2 * scale * a ^ 5)) l _ (a ^ 257) pp (lower_bound s _ _ ps)
                (ltb→lt _ _ tests.1) (lt-div-mul-add {a = s * a ^ 257} {b = b ^ 257} pc),
          );
    }
