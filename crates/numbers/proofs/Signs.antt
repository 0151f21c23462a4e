-- A number in a range that starts at 0 or above is not below 0, and is in it without its sign too. Assumes nothing.
use Prim.Native.Nat.{ℕ, ◌≤◌}
use lib.Dec.{T}
use lib.IntN.{ℤ, pos, negsuc, nat_abs}
use lib.Signed.{non_neg}
use Rattle.numbers.specs.Ranges.{from◌to◌, InRange}

pub is_non_neg : {a b : ℕ} {z : ℤ} → InRange (from a to b) z → T (non_neg z)
is_non_neg {z = pos n} p = tt
is_non_neg {z = negsuc n} p = absurd p.bounds

pub nat_abs_in : {a b : ℕ} {z : ℤ} → InRange (from a to b) z → (a ≤ nat_abs z) × (nat_abs z ≤ b)
nat_abs_in {z = pos n} p = p.bounds
nat_abs_in {z = negsuc n} p = absurd p.bounds
