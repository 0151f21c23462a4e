-- Whole-number arithmetic as the step sheet writes it. Assumes nothing.
use Rattle.std.specs.Prelude.{cond, ℕ, zero, suc, ◌*◌, leb, ℤ, pos, negsuc, neg_ℤ, ◌+ℤ◌, ◌*ℤ◌}
use Rattle.std.specs.Int.Signed.{lt_z, quot_z, shr_z}

infixl 7 ◌÷↓◌ ◌÷0◌
-- "Down": to the next lower whole number
abbrev pub ◌÷↓◌ : ℤ → ℤ → ℤ
x ÷↓ pos k = shr_z x k
x ÷↓ negsuc k = shr_z (neg_ℤ x) (suc k)

-- "÷0": drops the fraction toward zero
abbrev pub ◌÷0◌ : ℤ → ℤ → ℤ
x ÷0 y = quot_z x y

-- to the nearest whole number, halves up
abbrev pub nearest_quotient : ℤ → ℤ → ℤ
nearest_quotient x y = (pos 2 *ℤ x +ℤ y) ÷↓ (pos 2 *ℤ y)

-- x, or the limit where x is below it
abbrev pub at_least_ℤ : ℤ → ℤ → ℤ
at_least_ℤ limit x = cond (lt_z x limit) limit x

-- x, or the limit where x is above it
abbrev pub at_most_ℤ : ℤ → ℤ → ℤ
at_most_ℤ limit x = cond (lt_z limit x) limit x

-- the largest number up to k whose square is at most n
unfoldable pub root_up_to : ℕ → ℕ → ℕ
root_up_to n zero = zero
root_up_to n (suc k) = cond (leb (suc k * suc k) n) (suc k) (root_up_to n k)

-- the whole square root, down
unfoldable pub whole_root : ℤ → ℤ
whole_root (pos n) = pos (root_up_to n n)
whole_root (negsuc n) = pos 0
