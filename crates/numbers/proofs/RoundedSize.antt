-- The error calculus: how large a rounded whole number can be. The lemma is `whole_at_most`. Assumes nothing.
use mathlib.Core.Path.{sym}
use mathlib.Core.Bool.{Bool, true, false, not}
use Prim.Native.Nat.{ℕ, suc, ◌≤◌, ◌<◌}
use lib.Dec.{T, T_not, leb, leb→le, nleb→lt}
use lib.IntN.{pos}
use Rattle.ratios.specs.Ratios.{Ratio, ◌over◌, ◌+ᴿ◌, ◌*ᴿ◌, nonnegᴿ}
use Rattle.numbers.proofs.RatioTests.{leᴿ}
use Rattle.numbers.specs.Fractions.{ℚ, fraction, ◌≤ℚ◌}
use Rattle.numbers.proofs.FractionSolver.{fraction_sum, fraction_product}
use Rattle.numbers.proofs.Order.{nonneg_ratio, ≤ℚ_test, ≤ℚ_eq, ≤ℚ_trans, *ℚ_mono}
use Rattle.numbers.proofs.WholeFractions.{from_ℕ_mono}
use Rattle.numbers.proofs.Near.{near_bounded}
use Rattle.numbers.proofs.Rounded.{Rounded}

-- were n above m, then m + 1 units would be at most what the value and the error come to
pub whole_at_most : {n : ℕ} {u : Ratio} {X : ℚ} {a ε : Ratio} (m : ℕ) → T (nonnegᴿ u) → T (not (leᴿ ((suc m over 1) *ᴿ u) (a +ᴿ ε))) → Rounded (pos n) u X a ε → n ≤ m
whole_at_most {n} {u} {X} {a} {ε} m hu t p = by_order (leb n m) (leb→le n m) (nleb→lt n m)
  where
    units : m < n → fraction ((suc m over 1) *ᴿ u) ≤ℚ fraction (a +ᴿ ε)
    units h =
        ≤ℚ_trans (≤ℚ_eq (fraction_product (suc m over 1) u))
        (≤ℚ_trans (*ℚ_mono (nonneg_ratio u hu) (from_ℕ_mono h))
        (≤ℚ_trans (near_bounded p.size p.near).high (≤ℚ_eq (sym (fraction_sum a ε)))))

    by_order : (b : Bool) → (T b → n ≤ m) → (T (not b) → m < n) → n ≤ m
    by_order true f g = f tt
    by_order false f g = absurd (T_not (leᴿ ((suc m over 1) *ᴿ u) (a +ᴿ ε)) t (≤ℚ_test ((suc m over 1) *ᴿ u) (a +ᴿ ε) (units (g tt))))
