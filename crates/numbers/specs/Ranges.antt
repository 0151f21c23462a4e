-- Ranges of whole numbers: `from a to b`, and `minus a to b`, which starts at -a. `InRange r z` says that z is in the range r, ends included.
-- Assumes nothing.
use Rattle.std.specs.Prelude.{Bool, ◌&&◌, ℕ, ◌≤◌, ◌<◌, ℤ, pos, negsuc, neg_ℤ}
use Rattle.std.specs.Int.Signed.{le_z}

infix 45 from◌to◌ minus◌to◌
pub data Range : Type 0 where
  from◌to◌ : ℕ → ℕ → Range
  minus◌to◌ : ℕ → ℕ → Range

-- by the sign of z: `negsuc n` is -(n + 1)
abbrev pub Bounds : Range → ℤ → Type 0
Bounds (from a to b) (pos n) = (a ≤ n) × (n ≤ b)
Bounds (from a to b) (negsuc n) = ⊥
Bounds (minus a to b) (pos n) = n ≤ b
Bounds (minus a to b) (negsuc n) = n < a

-- a record, so that the number and the range can be read off a fact
pub record InRange (r : Range) (z : ℤ) : Type 0 where
  pub bounds : Bounds r z

-- the test of a range
abbrev pub in_range : Range → ℤ → Bool
in_range (from a to b) z = le_z (pos a) z && le_z z (pos b)
in_range (minus a to b) z = le_z (neg_ℤ (pos a)) z && le_z z (pos b)
