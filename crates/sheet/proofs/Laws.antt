-- Laws of the sheet's lines that its code rests on: the ranges that do not follow step by step, and the soil heat by its cases. Assumes nothing.
use mathlib.Core.Path.{◌≡◌, refl}
use mathlib.Core.Bool.{false}
use Prim.Native.Nat.{ℕ, zero, suc, ◌+◌, ◌*◌, ◌/◌, ◌≤◌, ◌<◌, zero-le}
use native.Mathlib.Nat.{div-le_of_le-mul}
use native.Mathlib.Omega.{arith}
use lib.IntN.{ℤ, pos, negsuc, nat_abs, ◌*ℤ◌, ◌-ℤ◌}
use borrow.Author.Tests.{ltb-false}
use Rattle.numbers.specs.Whole.{◌÷0◌, whole_root}
use Rattle.numbers.specs.Root.{WholeRoot}
use Rattle.numbers.specs.Ranges.{InRange, from◌to◌}
use Rattle.numbers.proofs.RangeArithmetic.{wider}
use Rattle.numbers.proofs.WholeRoots.{root_is}
use Rattle.sheet.specs.Quantities as quantities
use Rattle.sheet.specs.StepSheet.{w1, above_twice_clear, ρ, soil_heat}

-- a part over the whole is at most one
part : (D g : ℕ) → 0 < D + g → 1_000_000_000 * D / (D + g) ≤ 1_000_000_000
part D g h = div-le_of_le-mul (D + g) (omega arith)

pub weight_in : (D g : ℤ) → InRange quantities.slope D → InRange quantities.psychrometric g → InRange quantities.weight (w1 D g)
unfolding w1
weight_in (pos D) (pos g) p q = record { bounds = (zero-le, part D g (omega arith)) }
weight_in (pos D) (negsuc g) p q = absurd q.bounds
weight_in (negsuc D) g p q = absurd p.bounds

-- what is not above twice a clear day's has a ratio of at most two, but for what the division by 1,000 drops
ratio_most : (s q : ℕ) → 100_000_000 * s ≤ 2 * q → 50_000_000_000 ≤ q → 100_000_000_000_000 * s / (q / 1_000) ≤ 2_000_000_040
ratio_most s q h k = div-le_of_le-mul (q / 1_000) (omega arith)

pub ratio_in : (s q : ℤ) → InRange quantities.radiation s → InRange quantities.clear_day q → above_twice_clear s q ≡ false →
    InRange quantities.ratio (ρ s q)
unfolding ρ above_twice_clear
ratio_in (pos s) (pos q) p r e = record { bounds = (zero-le, ratio_most s q (ltb-false (2 * q) (100_000_000 * s) e) r.bounds.0) }
ratio_in (pos s) (negsuc q) p r e = absurd r.bounds
ratio_in (negsuc s) q p r e = absurd p.bounds

-- the whole root of the number's bits is the sheet's, of a number that is not below 0
pub root_of_nat_abs : {a b : ℕ} {z : ℤ} {root : ℕ} → InRange (from a to b) z → WholeRoot (nat_abs z) root → pos root ≡ whole_root z
root_of_nat_abs {z = pos n} {root = root} p h = root_is n root h
root_of_nat_abs {z = negsuc n} p h = absurd p.bounds

pub soil_none : (m z : ℤ) {k : ℤ} → k ≡ pos 0 → pos 0 ≡ soil_heat m k z
unfolding soil_heat
soil_none m z e = rw e

pub soil_some : (m z : ℤ) {k : ℤ} → InRange (from 1 to 3) k → pos 1_885_000 *ℤ (k *ℤ m -ℤ z) ÷0 (pos 9 *ℤ k) ≡ soil_heat m k z
unfolding soil_heat
soil_some m z {k = pos (suc k)} p = refl
soil_some m z {k = pos zero} p = absurd (omega (arith, p.bounds.0))
soil_some m z {k = negsuc k} p = absurd p.bounds

-- a wind limit is itself a wind run that counts
pub limit_counts : {l : ℤ} → InRange quantities.wind_limit l → InRange quantities.counted_wind l
limit_counts {l} p = record { bounds = wider quantities.wind_limit quantities.counted_wind l tt p.bounds }
