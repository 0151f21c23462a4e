-- The tables' entries against any fractions within half a unit of them. Assumes nothing.
use mathlib.Core.Path.{◌≡◌, sym, ◌∙◌, ap}
use Prim.Native.Nat.{ℕ}
use lib.Dec.{T, le→leb}
use lib.IntN.{ℤ, pos, negsuc, nat_abs}
use Rattle.ratios.specs.Ratios.{Ratio, ◌over◌, ◌+ᴿ◌, ◌*ᴿ◌, -ᴿ◌, nonnegᴿ}
use Rattle.numbers.proofs.RatioTests.{leᴿ}
use Rattle.numbers.specs.Ranges.{from◌to◌, InRange}
use Rattle.numbers.specs.Fractions.{ℚ, fraction, ◌/ℚ◌, ◌+ℚ◌, ◌*ℚ◌, ◌≤ℚ◌}
use Rattle.numbers.proofs.FractionSolver.{fraction_sum, fraction_product}
use Rattle.numbers.proofs.Order.{nonneg_ratio, ≤ℚ_ratio, ≤ℚ_eq, ≤ℚ_trans, *ℚ_mono}
use Rattle.numbers.proofs.WholeFractions.{from_ℕ_mono}
use Rattle.numbers.proofs.Bounds.{bounded_weaken}
use Rattle.numbers.proofs.Near.{near_sym, near_weaken, near_bounded, near_at_least}
use Rattle.numbers.proofs.Rounded.{Rounded, wholeᴿ, weaken, in_range_lem}
use Rattle.tables.specs.Series.{HalfUnit}
use Rattle.tables.specs.Tables.{billionth, tenth_pascal}
use Rattle.sheet.specs.Quantities as quantities

-- an entry z of a table whose entries lie between a and b
half_unit_rounded : (a b : ℕ) (z : ℤ) (u : Ratio) (y : ℚ) (s : Ratio) → InRange (from a to b) z → HalfUnit (fraction u) (nat_abs z) y →
    T (nonnegᴿ u) → T (leᴿ (-ᴿ s) (wholeᴿ (pos a) *ᴿ u)) → T (leᴿ (wholeᴿ (pos b) *ᴿ u) s) → Rounded z u y (s +ᴿ (1 over 2) *ᴿ u) ((1 over 2) *ᴿ u)
unfolding HalfUnit
half_unit_rounded a b (negsuc r) u y s range half hu low high = absurd range.bounds
half_unit_rounded a b (pos r) u y s range half hu low high =
    let entry = in_range_lem (pos r) (pos a) (pos b) u s (record { le = le→leb a r range.bounds.0 }) (record { le = le→leb r b range.bounds.1 }) hu low high in
    let half_is : 1 /ℚ 2 *ℚ fraction u ≡ fraction ((1 over 2) *ᴿ u) = sym (fraction_product (1 over 2) u) in
    record {
      size = bounded_weaken (near_bounded entry.size half) (≤ℚ_eq (ap (λ (h : ℚ). fraction s +ℚ h) half_is ∙ sym (fraction_sum s ((1 over 2) *ᴿ u))));
      near = near_weaken (near_sym half) (≤ℚ_eq half_is);
    }

-- how small the fraction can be
pub entry_low : (a b : ℕ) (z : ℤ) (u : Ratio) (y : ℚ) (l : Ratio) → InRange (from a to b) z → HalfUnit (fraction u) (nat_abs z) y →
    T (nonnegᴿ u) → T (leᴿ (l +ᴿ (1 over 2) *ᴿ u) (wholeᴿ (pos a) *ᴿ u)) → fraction l ≤ℚ y
unfolding HalfUnit
entry_low a b (negsuc r) u y l range half hu low = absurd range.bounds
entry_low a b (pos r) u y l range half hu low =
    near_at_least
    (≤ℚ_trans (≤ℚ_eq (sym (fraction_sum l ((1 over 2) *ᴿ u) ∙ ap (λ (h : ℚ). fraction l +ℚ h) (fraction_product (1 over 2) u))))
    (≤ℚ_trans (≤ℚ_ratio (l +ᴿ (1 over 2) *ᴿ u) (wholeᴿ (pos a) *ᴿ u) low) (≤ℚ_eq (fraction_product (wholeᴿ (pos a)) u))))
    (*ℚ_mono (nonneg_ratio u hu) (from_ℕ_mono range.bounds.0)) half

-- billionths
pub day_entry : (a b : ℕ) (z : ℤ) (y : ℚ) (s t : Ratio) → InRange (from a to b) z → HalfUnit billionth (nat_abs z) y →
    T (leᴿ (-ᴿ s) (wholeᴿ (pos a) *ᴿ (1 over 1000000000))) → T (leᴿ (wholeᴿ (pos b) *ᴿ (1 over 1000000000)) s) → T (leᴿ (s +ᴿ (1 over 2) *ᴿ (1 over 1000000000)) t) →
    Rounded z (1 over 1000000000) y t (1 over 2000000000)
day_entry a b z y s t range half low high larger = weaken tt larger tt (half_unit_rounded a b z (1 over 1000000000) y s range half tt low high)

-- tenths of a pascal
module _ (z : ℤ) (P : ℚ) (range : InRange quantities.pressure z) (half : HalfUnit tenth_pascal (nat_abs z) P) where
  pub pressure_rounded : Rounded z (1 over 10000) P (102 over 1) (1 over 20000)
  pressure_rounded = weaken tt tt tt (half_unit_rounded 700000 1013000 z (1 over 10000) P (1013 over 10) range half tt tt tt)

  pub pressure_low : 6999 /ℚ 100 ≤ℚ P
  pressure_low = entry_low 700000 1013000 z (1 over 10000) P (6999 over 100) range half tt tt
