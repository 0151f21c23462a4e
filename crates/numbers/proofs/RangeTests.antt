-- The computed test of a range, both ways: a number that passes it is in the range, and one in the range passes it. Assumes nothing.
use mathlib.Core.Bool.{Bool, true, false, ◌&&◌}
use Prim.Native.Nat.{zero, suc, ◌<◌, zero-le, suc-le-suc}
use native.Mathlib.Nat.{le_of_suc-le-suc}
use native.Mathlib.Omega.{arith}
use lib.Dec.{T, leb, leb→le, le→leb}
use lib.IntN.{ℤ, pos, negsuc}
use Rattle.numbers.specs.Ranges.{Range, from◌to◌, minus◌to◌, InRange, in_range}
use Rattle.numbers.proofs.RangeArithmetic.{both}

pub test_in_range : (r : Range) (z : ℤ) → T (in_range r z) → InRange r z
test_in_range (from a to b) (pos n) t = let h = both (leb a n) (leb n b) t in record { bounds = (leb→le a n h.0, leb→le n b h.1) }
test_in_range (from a to b) (negsuc n) t = absurd t
test_in_range (minus zero to b) (pos n) t = record { bounds = leb→le n b (both (leb 0 n) (leb n b) t).1 }
test_in_range (minus (suc a) to b) (pos n) t = record { bounds = leb→le n b t }
test_in_range (minus zero to b) (negsuc n) t = absurd t
test_in_range (minus (suc a) to b) (negsuc n) t = record { bounds = suc-le-suc (leb→le n a (both (leb n a) true t).0) }

and_intro : (a b : Bool) → T a → T b → T (a && b)
and_intro true b s t = t
and_intro false b s t = s

pub in_range_test : (r : Range) (z : ℤ) → InRange r z → T (in_range r z)
in_range_test (from a to b) (pos n) p = and_intro (leb a n) (leb n b) (le→leb a n p.bounds.0) (le→leb n b p.bounds.1)
in_range_test (from a to b) (negsuc n) p = absurd p.bounds
in_range_test (minus zero to b) (pos n) p = and_intro (leb 0 n) (leb n b) (le→leb 0 n zero-le) (le→leb n b p.bounds)
in_range_test (minus (suc a) to b) (pos n) p = le→leb n b p.bounds
in_range_test (minus zero to b) (negsuc n) p = let h : n < 0 = p.bounds in absurd (omega arith)
in_range_test (minus (suc a) to b) (negsuc n) p = and_intro (leb n a) true (le→leb n a (le_of_suc-le-suc p.bounds)) tt
