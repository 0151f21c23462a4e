-- Powers of whole numbers, and powers of fractions enclosed by fractions of a fixed denominator s, rounded up and rounded down: laws of any
-- whole numbers. Assumes nothing.
use mathlib.Core.Path.{◌≡◌}
use Prim.Native.Nat.{ℕ, zero, suc, ◌+◌, ◌*◌, ◌^◌, ◌/◌, ◌≤◌, ◌<◌}
use native.Mathlib.Nat.{mul-zero, mul-suc, mul-mul-mul_comm, pow-zero, pow-suc, one-le-pow, pow-le-pow_left}
use native.Mathlib.Nat.{mul-le-mul_right, le_of_mul-le-mul_right, lt-div-mul-add, div-mul-le_self}
use native.Mathlib.Omega.{arith}
use lib.Pow.{pow-add}

pub product_power : (x y n : ℕ) → (x * y) ^ n ≡ x ^ n * y ^ n
product_power x y zero = simp pow-zero
product_power x y (suc n) = simp (pow-suc, product_power x y n, mul-mul-mul_comm)

pub power_power : (x m n : ℕ) → (x ^ m) ^ n ≡ x ^ (m * n)
power_power x m zero = simp (pow-zero, mul-zero)
power_power x m (suc n) = simp (pow-suc, mul-suc, pow-add, power_power x m n)

-- x/y ≤ a/s: the power of x/y is at most that of a/s, rounded up to s-ths
pub power_up : (s m x y a : ℕ) → 0 < s → x * s ≤ a * y → x ^ suc m * s ≤ (a ^ suc m / s ^ m + 1) * y ^ suc m
power_up s m x y a above h =
    let sm : 0 < s ^ m = one-le-pow m s above in
    let p : (x * s) ^ suc m ≤ (a * y) ^ suc m = pow-le-pow_left h (suc m) in
    let q : x ^ suc m * (s ^ m * s) ≤ a ^ suc m * y ^ suc m = simp pow-suc (simp (product_power, pow-suc) at p) in
    let d : a ^ suc m < a ^ suc m / s ^ m * s ^ m + s ^ m = lt-div-mul-add sm in
    le_of_mul-le-mul_right {k = s ^ m} (omega (arith, q, mul-le-mul_right (y ^ suc m) d)) sm

-- a/s ≤ x/y: the power of x/y is at least that of a/s, rounded down to s-ths
pub power_down : (s m x y a : ℕ) → 0 < s → a * y ≤ x * s → a ^ suc m / s ^ m * y ^ suc m ≤ x ^ suc m * s
power_down s m x y a above h =
    let sm : 0 < s ^ m = one-le-pow m s above in
    let p : (a * y) ^ suc m ≤ (x * s) ^ suc m = pow-le-pow_left h (suc m) in
    let q : a ^ suc m * y ^ suc m ≤ x ^ suc m * (s ^ m * s) = simp pow-suc (simp (product_power, pow-suc) at p) in
    let d : a ^ suc m / s ^ m * s ^ m ≤ a ^ suc m = div-mul-le_self (a ^ suc m) (s ^ m) in
    le_of_mul-le-mul_right {k = s ^ m} (omega (arith, q, mul-le-mul_right (y ^ suc m) d)) sm
