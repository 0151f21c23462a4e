-- The whole square root is the one number whose square is at most n and whose successor's square is above n. Assumes nothing.
use mathlib.Core.Path.{◌≡◌, sym, ap}
use mathlib.Core.Bool.{Bool, true, false, not, cond}
use Prim.Native.Nat.{ℕ, zero, suc, ◌+◌, ◌*◌, ◌≤◌, ◌<◌}
use native.Mathlib.Nat.{mul-le-mul}
use native.Mathlib.Omega.{arith}
use lib.Dec.{T, leb, leb→le, nleb→lt}
use lib.IntN.{pos}
use Rattle.numbers.specs.Whole.{root_up_to, whole_root}
use Rattle.numbers.specs.Root.{WholeRoot}

-- a² ≤ n ≤ b², or n below b + 1 squared: a ≤ b
pub root_le : (a b n : ℕ) → a * a ≤ n → n < (b + 1) * (b + 1) → a ≤ b
root_le a b n h k = by_order (leb a b) (leb→le a b) (nleb→lt a b)
  where
    by_order : (t : Bool) → (T t → a ≤ b) → (T (not t) → b < a) → a ≤ b
    by_order true f g = f tt
    by_order false f g = let p : b + 1 ≤ a = (let q = g tt in omega arith) in absurd (omega (arith, mul-le-mul p p))

module _ (n r : ℕ) (root : WholeRoot n r) where
  by_square : (k : ℕ) (t : Bool) → (T t → suc k * suc k ≤ n) → (T (not t) → n < suc k * suc k) → r ≤ suc k → (r ≤ k → root_up_to n k ≡ r) → cond t (suc k) (root_up_to n k) ≡ r
  by_square k true f g h ih = let p = root_le (suc k) r n (f tt) root.high in omega arith
  by_square k false f g h ih =
      let q = g tt in
      ih (root_le r k n root.low (omega arith))

  up_to : (k : ℕ) → r ≤ k → root_up_to n k ≡ r
  unfolding root_up_to
  up_to zero h = omega arith
  up_to (suc k) h = by_square k (leb (suc k * suc k) n) (leb→le (suc k * suc k) n) (nleb→lt (suc k * suc k) n) h (up_to k)

  below_square : r ≤ n
  below_square = by_root r root.low
    where
      by_root : (r : ℕ) → r * r ≤ n → r ≤ n
      by_root zero h = omega arith
      by_root (suc r) h = omega arith

  pub root_is : pos r ≡ whole_root (pos n)
  unfolding whole_root
  root_is = ap pos (sym (up_to n below_square))

module _ (n : ℕ) where
  low_by : (k : ℕ) (t : Bool) → (T t → suc k * suc k ≤ n) → root_up_to n k * root_up_to n k ≤ n → cond t (suc k) (root_up_to n k) * cond t (suc k) (root_up_to n k) ≤ n
  low_by k true f ih = f tt
  low_by k false f ih = ih

  low_up_to : (k : ℕ) → root_up_to n k * root_up_to n k ≤ n
  unfolding root_up_to
  low_up_to zero = omega arith
  low_up_to (suc k) = low_by k (leb (suc k * suc k) n) (leb→le (suc k * suc k) n) (low_up_to k)

  high_by : (k : ℕ) (t : Bool) → n < (suc k + 1) * (suc k + 1) → (T (not t) → n < suc k * suc k) → (n < (k + 1) * (k + 1) → n < (root_up_to n k + 1) * (root_up_to n k + 1)) → n < (cond t (suc k) (root_up_to n k) + 1) * (cond t (suc k) (root_up_to n k) + 1)
  high_by k true h g ih = h
  high_by k false h g ih = ih (let q = g tt in omega arith)

  high_up_to : (k : ℕ) → n < (k + 1) * (k + 1) → n < (root_up_to n k + 1) * (root_up_to n k + 1)
  unfolding root_up_to
  high_up_to zero h = h
  high_up_to (suc k) h = high_by k (leb (suc k * suc k) n) h (nleb→lt (suc k * suc k) n) (high_up_to k)

  pub root_of : WholeRoot n (root_up_to n n)
  root_of = record { low = low_up_to n; high = high_up_to n (omega arith) }
