-- Newton's step for the whole square root of n, from a guess g above 0: it is above 0 and at or above the root; where n / g is not below g, the square
-- of g is at most n. Assumes nothing.
use mathlib.Core.Path.{◌≡◌}
use mathlib.Core.Bool.{Bool, true, false, not}
use Prim.Native.Nat.{ℕ, zero, suc, ◌+◌, ◌*◌, ◌-◌, ◌/◌, ◌≤◌, ◌<◌}
use native.Mathlib.Nat.{mul-le-mul, mul-le-mul_right, div-mul-le_self, lt-div-mul-add, le_trans, div-one}
use native.Mathlib.Omega.{arith}
use lib.Dec.{T, leb, leb→le, nleb→lt}

abbrev pub step : ℕ → ℕ → ℕ
step n g = (g + n / g) / 2

-- 4ab ≤ (a + b)², from the difference k of the two
four_products : (a k : ℕ) → 4 * (a * (a + k)) ≤ (a + (a + k)) * (a + (a + k))
four_products a k = omega arith

four_times : (a b : ℕ) → 4 * (a * b) ≤ (a + b) * (a + b)
four_times a b = by_order (leb a b) (leb→le a b) (nleb→lt a b)
  where
    by_order : (t : Bool) → (T t → a ≤ b) → (T (not t) → b < a) → 4 * (a * b) ≤ (a + b) * (a + b)
    by_order true f g =
        let h = f tt in
        let e : a + (b - a) ≡ b = omega arith in
        rw e at (four_products a (b - a))
    by_order false f g =
        let h = g tt in
        let e : b + (a - b) ≡ a = omega arith in
        omega (arith, rw e at (four_products b (a - b)))

module _ (n g : ℕ) where
  -- n < g (n / g + 1), and 4g(n / g + 1) ≤ (g + n / g + 1)² ≤ 4 (step + 1)²
  pub step_above : 0 < g → n < (step n g + 1) * (step n g + 1)
  step_above h =
      let s : g + (n / g + 1) ≤ 2 * (step n g + 1) = omega arith in
      omega (arith, lt-div-mul-add {a = n} {b = g} h, four_times g (n / g + 1), mul-le-mul s s)

  pub root_when : g ≤ n / g → g * g ≤ n
  root_when h = le_trans (mul-le-mul_right g h) (div-mul-le_self n g)

pub step_some : (n g : ℕ) → 0 < n → 0 < g → 0 < step n g
step_some n zero h k = absurd (omega arith)
step_some n (suc zero) h k = omega (arith, div-one n)
step_some n (suc (suc g)) h k = omega arith
