-- The values of base + scale · sin(d + 97.92 degrees), for every π within its bounds: `albedo_by_test`. Assumes nothing.
use mathlib.Core.Path.{◌≡◌, sym, ◌∙◌, ap, ap₂}
use Prim.Native.Nat.{ℕ, ◌+◌, ◌*◌}
use lib.Dec.{T}
use Rattle.ratios.specs.Solver.{◌:+◌, ◌:-◌, ◌:*◌, ◌:=◌}
use Rattle.ratios.specs.Ratios.{◌over◌}
use Rattle.numbers.specs.Fractions.{ℚ, ◌+ℚ◌, ◌*ℚ◌, ◌≤ℚ◌}
use Rattle.numbers.proofs.FractionSolver.{ring_ℚ, ◌#◌}
use Rattle.numbers.proofs.Order.{NonNeg, nonneg_add, nonneg_mul, nonneg_ratio, nonneg_of, of_nonneg, gap, from_gap, ≤ℚ_trans}
use Rattle.numbers.proofs.WholeFractions.{nonneg_ℕ}
use Rattle.tables.specs.Series.{sin_term}
use Rattle.tables.specs.Tables.{angle, albedo_formula, AlbedoEntry, albedo_range}
use Rattle.tables.specs.Values.{Enclosure, arc_sum, arc_sums, albedo_curve, albedo_at}
use Rattle.numbers.proofs.StrictOrder.{whole, whole_add, whole_mul, whole_times}
use Rattle.numbers.proofs.Table.{up_to}
use Rattle.tables.proofs.Terms.{sin_term_mono, sin_sums}
use Rattle.tables.proofs.Sums.{SumOf}
use Rattle.tables.proofs.SumTests.{Encloses}
use Rattle.tables.proofs.Curves.{DayValues, day_test, curve_values}

angle_nonneg : {π : ℚ} → NonNeg π → (d : ℕ) → NonNeg (angle π d)
unfolding angle
angle_nonneg h d = nonneg_mul (nonneg_add (nonneg_ℕ d) (nonneg_ratio _ tt)) (nonneg_mul h (nonneg_ratio _ tt))

angle_mono : {x y : ℚ} → x ≤ℚ y → (d : ℕ) → angle x d ≤ℚ angle y d
unfolding angle
angle_mono {x} {y} h d =
    from_gap (nonneg_mul (nonneg_add (nonneg_ℕ d) (nonneg_ratio _ tt)) (nonneg_mul (gap h) (nonneg_ratio _ tt)))
    (ring_ℚ 5 (λ d c k x y. (d :+ c) :* (y :* k) :- (d :+ c) :* (x :* k) := (d :+ c) :* ((y :- x) :* k)) tt (whole d) _ _ x y)

angle_is : (π : ℚ) (p q d : ℕ) → whole q *ℚ π ≡ whole p → whole (18000 * q) *ℚ angle π d ≡ whole ((100 * d + 9792) * p)
unfolding angle
angle_is π p q d h =
    ap (λ (z : ℚ). z *ℚ angle π d) (whole_mul 18000 q)
    ∙ ring_ℚ 5 (λ d q π c k. 18000 # 1 :* q :* ((d :+ c) :* (π :* k)) := (100 # 1 :* d :+ 100 # 1 :* c) :* (q :* π :* (180 # 1 :* k))) tt
    (whole d) (whole q) π _ _
    ∙ ap₂ (λ (y z : ℚ). (whole 100 *ℚ whole d +ℚ y) *ℚ (whole q *ℚ π *ℚ z)) (whole_times 100 _ (9792 over 1) tt) (whole_times 180 _ (1 over 1) tt)
    ∙ ring_ℚ 2 (λ x y. x :* (y :* 1 # 1) := x :* y) tt (whole 100 *ℚ whole d +ℚ whole 9792) (whole q *ℚ π)
    ∙ ap₂ ◌*ℚ◌ (sym (whole_add (100 * d) 9792 ∙ ap (λ (z : ℚ). z +ℚ whole 9792) (whole_mul 100 d))) h
    ∙ sym (whole_mul (100 * d + 9792) p)

arc_sums_lem : (π : ℚ) (p q : ℕ) → whole q *ℚ π ≡ whole p → (d n : ℕ) → SumOf (sin_term (angle π d)) n (arc_sum p q d n)
unfolding arc_sum
arc_sums_lem π p q h d = sin_sums (angle π d) ((100 * d + 9792) * p) (18000 * q) (angle_is π p q d h)

arc_encloses : {least π most : ℚ} → least ≤ℚ π → π ≤ℚ most → NonNeg least → (d : ℕ) {sums : ℕ → Enclosure} →
    ((n : ℕ) → SumOf (sin_term (angle least d)) n (sums n).low) → ((n : ℕ) → SumOf (sin_term (angle most d)) n (sums n).high) →
    Encloses sums (sin_term (angle π d))
arc_encloses {least} {π} {most} l h n d low high =
    record {
      least = sin_term (angle least d);
      most = sin_term (angle most d);
      low_sums = low;
      high_sums = high;
      at_least = sin_term_mono (angle_nonneg n d) (angle_mono l d);
      at_most = sin_term_mono (angle_nonneg (nonneg_of (≤ℚ_trans (of_nonneg n) l)) d) (angle_mono h d);
    }

pub albedo_by_test : T (up_to (day_test albedo_range albedo_curve) 366) → DayValues albedo_at AlbedoEntry albedo_range
unfolding AlbedoEntry albedo_formula arc_sums
albedo_by_test =
    curve_values albedo_range albedo_curve (whole_times _ _ _ tt) (whole_times _ _ _ tt) AlbedoEntry
    (λ d r nearest π isPi. nearest _
    (arc_encloses isPi.low isPi.high (nonneg_ratio _ tt) d
    (arc_sums_lem _ _ _ (whole_times _ _ _ tt) d) (arc_sums_lem _ _ _ (whole_times _ _ _ tt) d)))
