-- What a test on signed numbers tells in its two branches: which arm of a `cond` is meant, and the range that is left. Assumes nothing.
use mathlib.Core.Path.{◌≡◌, ap}
use mathlib.Core.Bool.{Bool, true, false, cond}
use Prim.Native.Nat.{ℕ, ◌+◌}
use native.Mathlib.Omega.{arith}
use lib.IntN.{ℤ, pos, negsuc}
use lib.Signed.{lt_z, le_z}
use mir.Syntax.{w64}
use mir.Val.{of_z}
use borrow.Author.Tests.{ltb-false, leb-false}
use Rattle.numbers.specs.Ranges.{InRange, from◌to◌, minus◌to◌}

-- the machine tests a and b, which are a' and b'
module _ (test : ℤ → ℤ → Bool) {a a' b b' : ℤ} (p : a ≡ a') (q : b ≡ b') (x y : ℤ) where
  pub taken : test a b ≡ true → x ≡ cond (test a' b') x y
  taken e = rw (← p, ← q, e)

  pub left : test a b ≡ false → y ≡ cond (test a' b') x y
  left e = rw (← p, ← q, e)

-- a test on the bits of a number that is not below 0
pub is_number : {a b k : ℕ} {z : ℤ} → InRange (from a to b) z → of_z w64 z ≡ k → z ≡ pos k
is_number {z = pos n} p e = ap pos e
is_number {z = negsuc n} p e = absurd p.bounds

pub is_above : {a b : ℕ} {z : ℤ} → InRange (from a to b) z → (of_z w64 z ≡ a → ⊥) → InRange (from a + 1 to b) z
is_above {z = pos n} p e = omega arith
is_above {z = negsuc n} p e = absurd p.bounds

pub is_only : {a : ℕ} {z : ℤ} → InRange (from a to a) z → z ≡ pos a
is_only {a} {z = pos n} p = let e : n ≡ a = omega (arith, p.bounds.0, p.bounds.1) in ap pos e
is_only {z = negsuc n} p = absurd p.bounds

pub positive_in : {a b : ℕ} {z : ℤ} → InRange (minus a to b) z → le_z z (pos 0) ≡ false → InRange (from 1 to b) z
positive_in {z = pos n} p e = omega (arith, leb-false n 0 e)
positive_in {z = negsuc n} p e = let q : ◌≡◌ {A = ℕ} 0 1 = cc in absurd (omega arith)

pub at_most_in : {a b x y : ℕ} {l z : ℤ} → InRange (from x to y) l → InRange (from a to b) z → lt_z l z ≡ false → InRange (from a to y) z
at_most_in {l = pos l} {z = pos n} p r e = omega (arith, ltb-false l n e)
at_most_in {l = negsuc l} p r e = absurd p.bounds
at_most_in {l = pos l} {z = negsuc n} p r e = absurd r.bounds

pub at_least_in : {a b x y : ℕ} {l z : ℤ} → InRange (from a to b) l → InRange (minus x to y) z → lt_z z l ≡ false → InRange (from a to y) z
at_least_in {l = pos l} {z = pos n} p r e = omega (arith, ltb-false n l e)
at_least_in {l = pos l} {z = negsuc n} p r e = let q : ◌≡◌ {A = ℕ} 0 1 = cc in absurd (omega arith)
at_least_in {l = negsuc l} p r e = absurd p.bounds
