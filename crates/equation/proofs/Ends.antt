-- A number in range lies between the range's ends, or between ends that are enough, as two inequalities. Assumes nothing.
use mathlib.Core.Bool.{◌&&◌}
use Prim.Native.Nat.{ℕ}
use lib.Dec.{T}
use lib.IntN.{ℤ, pos, negsuc, neg_ℤ}
use lib.Signed.{le_z, ◌≤ℤ◌}
use Rattle.numbers.specs.Ranges.{from◌to◌, minus◌to◌, InRange}
use Rattle.numbers.proofs.RangeArithmetic.{both}
use Rattle.numbers.proofs.RangeTests.{in_range_test}
use Rattle.sheet.specs.Quantities as quantities
use Rattle.sheet.proofs.Laws.{limit_counts}

-- a low end a and a high end b
pub record Between (a b z : ℤ) : Type 0 where
  pub low : a ≤ℤ z
  pub high : z ≤ℤ b

of_test : (a b z : ℤ) → T (le_z a z && le_z z b) → Between a b z
of_test a b z t = let h = both (le_z a z) (le_z z b) t in record { low = record { le = h.0 }; high = record { le = h.1 } }

pub from_ends : (a b : ℕ) {z : ℤ} → InRange (from a to b) z → Between (pos a) (pos b) z
from_ends a b {z} p = of_test (pos a) (pos b) z (in_range_test (from a to b) z p)

pub minus_ends : (a b : ℕ) {z : ℤ} → InRange (minus a to b) z → Between (neg_ℤ (pos a)) (pos b) z
minus_ends a b {z} p = of_test (neg_ℤ (pos a)) (pos b) z (in_range_test (minus a to b) z p)

-- a temperature in tenths °F
abbrev pub IsTemperature : ℤ → Type 0
IsTemperature = Between (negsuc 93) (pos 1291)

pub temperature_ends : {f : ℤ} → InRange quantities.temperature f → IsTemperature f
temperature_ends p = minus_ends 94 1291 p

-- What the bound needs of a station's wind limit, in tenths: it is not below 0 and not above the routine's.
abbrev pub IsLimit : ℤ → Type 0
IsLimit = Between (pos 0) (pos quantities.routine_limit)

pub limit_ends : {limit : ℤ} → InRange quantities.wind_limit limit → IsLimit limit
limit_ends p = from_ends 0 quantities.routine_limit (limit_counts p)
