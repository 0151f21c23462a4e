-- One computed test of a whole number r answers for the partial sums of every series whose terms lie between those of two that the engine sums:
-- r is nearest to base + scale · s, s being such a sum (`sum_nearest`). Assumes nothing.
use mathlib.Core.Path.{◌≡◌, sym, ◌∙◌, ap, ap₂, subst, subst₂}
use mathlib.Core.Bool.{Bool, ◌&&◌}
use Prim.Native.Nat.{ℕ, ◌+◌, ◌*◌}
use native.Mathlib.Omega.{arith}
use lib.Dec.{T, ltb, ltb→lt}
use Rattle.ratios.specs.Solver.{◌:+◌, ◌:-◌, ◌:*◌, ◌:=◌}
use Rattle.ratios.specs.Ratios.{◌over◌}
use Rattle.numbers.specs.Fractions.{ℚ, ◌+ℚ◌, ◌*ℚ◌, ◌-ℚ◌, ◌≤ℚ◌, ◌<ℚ◌}
use Rattle.numbers.proofs.FractionSolver.{ring_ℚ, ◌#◌}
use Rattle.numbers.proofs.Order.{nonneg_add, nonneg_mul, gap, <ℚ_ratio}
use Rattle.numbers.proofs.WholeFractions.{nonneg_ℕ}
use Rattle.tables.specs.Series.{partial_sum, Nearest}
use Rattle.tables.specs.Values.{added, taken, Enclosure}
use Rattle.numbers.proofs.StrictOrder.{whole, whole_add, whole_mul, whole_odd, whole_below}
use Rattle.numbers.proofs.StrictOrder.{gap_positive, from_positive_gap, positive_add, positive_mul, positive_cancel}
use Rattle.numbers.proofs.RangeArithmetic.{both}
use Rattle.tables.proofs.Sums.{weighted, weighted_mono, partial_sum_parts, SumOf}

-- c + k h/ho < d + k l/lo, with the denominators multiplied out
abbrev pub side_test : ℕ → ℕ → ℕ → ℕ → ℕ → ℕ → ℕ → Bool
side_test c d k h ho l lo = ltb (c * (lo * ho) + k * (h * lo)) (d * (lo * ho) + k * (l * ho))

-- 2r - 1 < 2 base + 2 scale · s < 2r + 1 for every s that adds and takes off at least as much as low, and at most as much as high
abbrev pub low_test : ℕ → ℕ → ℕ → Enclosure → Bool
low_test base scale r s =
    side_test (2 * r) (2 * base + 1) (2 * scale) s.high.minus s.high.over s.low.plus s.low.over

abbrev pub high_test : ℕ → ℕ → ℕ → Enclosure → Bool
high_test base scale r s =
    side_test (2 * base) (2 * r + 1) (2 * scale) s.high.plus s.high.over s.low.minus s.low.over

abbrev pub near_test : ℕ → ℕ → ℕ → Enclosure → Bool
near_test base scale r s = low_test base scale r s && high_test base scale r s

-- ---- the test, over fractions

scaled : (c k x q : ℕ) (y : ℚ) → whole x ≡ whole q *ℚ y → whole (c * q + k * x) ≡ whole q *ℚ (whole c +ℚ whole k *ℚ y)
scaled c k x q y h =
    whole_add (c * q) (k * x)
    ∙ ap₂ ◌+ℚ◌ (whole_mul c q) (whole_mul k x ∙ ap (λ (z : ℚ). whole k *ℚ z) h)
    ∙ ring_ℚ 4 (λ c q k y. c :* q :+ k :* (q :* y) := q :* (c :+ k :* y)) tt (whole c) (whole q) (whole k) y

-- the part x/b over the denominator q = a b
over_both : (x a b q : ℕ) (y : ℚ) → whole x ≡ whole b *ℚ y → a * b ≡ q → whole (x * a) ≡ whole q *ℚ y
over_both x a b q y h e =
    whole_mul x a
    ∙ ap (λ (z : ℚ). z *ℚ whole a) h
    ∙ ring_ℚ 3 (λ a b y. b :* y :* a := a :* b :* y) tt (whole a) (whole b) y
    ∙ ap (λ (z : ℚ). z *ℚ y) (sym (whole_mul a b) ∙ ap (λ (n : ℕ). whole n) e)

side_below : (c d k h ho l lo : ℕ) (H L : ℚ) {P M : ℚ} → whole h ≡ whole ho *ℚ H → whole l ≡ whole lo *ℚ L →
    P ≤ℚ H → L ≤ℚ M → T (side_test c d k h ho l lo) → whole c +ℚ whole k *ℚ P <ℚ whole d +ℚ whole k *ℚ M
side_below c d k h ho l lo H L {P} {M} eh el hp lm t =
    let left = scaled c k (h * lo) (lo * ho) H (over_both h lo ho (lo * ho) H eh (omega arith)) in
    let right = scaled d k (l * ho) (lo * ho) L (over_both l ho lo (lo * ho) L el (omega arith)) in
    let test : whole (lo * ho) *ℚ (whole c +ℚ whole k *ℚ H) <ℚ whole (lo * ho) *ℚ (whole d +ℚ whole k *ℚ L) =
    subst₂ ◌<ℚ◌ left right (whole_below (ltb→lt _ _ t)) in
    let ends : whole 0 <ℚ whole d +ℚ whole k *ℚ L -ℚ (whole c +ℚ whole k *ℚ H) =
    positive_cancel (nonneg_ℕ (lo * ho))
    (subst (λ z. whole 0 <ℚ z) (ring_ℚ 3 (λ q x y. q :* y :- q :* x := q :* (y :- x)) tt _ _ _) (gap_positive test)) in
    from_positive_gap (positive_add ends (nonneg_mul (nonneg_ℕ k) (nonneg_add (gap hp) (gap lm))))
    (ring_ℚ 7 (λ c d k H L P M. d :+ k :* M :- (c :+ k :* P) := d :+ k :* L :- (c :+ k :* H) :+ k :* (H :- P :+ (M :- L))) tt
    (whole c) (whole d) (whole k) H L P M)

-- ---- the series

-- the terms of t lie between those of two series, whose sums are the bounds
pub record Encloses (sums : ℕ → Enclosure) (t : ℕ → ℚ) : Type 0 where
  pub least : ℕ → ℚ
  pub most : ℕ → ℚ
  pub low_sums : (n : ℕ) → SumOf least n (sums n).low
  pub high_sums : (n : ℕ) → SumOf most n (sums n).high
  pub at_least : (k : ℕ) → least k ≤ℚ t k
  pub at_most : (k : ℕ) → t k ≤ℚ most k

-- the nearest to B + S (A - M), from twice each side of it
from_doubles : (unit : ℚ) → whole 0 <ℚ unit → (base scale r : ℕ) (A M : ℚ) →
    whole (2 * r) +ℚ whole (2 * scale) *ℚ M <ℚ whole (2 * base + 1) +ℚ whole (2 * scale) *ℚ A →
    whole (2 * base) +ℚ whole (2 * scale) *ℚ A <ℚ whole (2 * r + 1) +ℚ whole (2 * scale) *ℚ M →
    Nearest unit r (whole base *ℚ unit +ℚ whole scale *ℚ unit *ℚ (A -ℚ M))
from_doubles unit p base scale r A M l h =
    let half = positive_mul (<ℚ_ratio (1 over 2) tt) p in
    record {
      low = from_positive_gap (positive_mul half (gap_positive (rw (whole_mul 2 r, whole_mul 2 scale, whole_odd base) at l)))
          (ring_ℚ 6
          (λ u b s r A M. b :* u :+ s :* u :* (A :- M) :- (r :* u :- 1 # 2 :* u)
          := 1 # 2 :* u :* (2 # 1 :* b :+ 1 # 1 :+ 2 # 1 :* s :* A :- (2 # 1 :* r :+ 2 # 1 :* s :* M))) tt
          unit (whole base) (whole scale) (whole r) A M);
      high = from_positive_gap (positive_mul half (gap_positive (rw (whole_mul 2 base, whole_mul 2 scale, whole_odd r) at h)))
          (ring_ℚ 6
          (λ u b s r A M. r :* u :+ 1 # 2 :* u :- (b :* u :+ s :* u :* (A :- M))
          := 1 # 2 :* u :* (2 # 1 :* r :+ 1 # 1 :+ 2 # 1 :* s :* M :- (2 # 1 :* b :+ 2 # 1 :* s :* A))) tt
          unit (whole base) (whole scale) (whole r) A M);
    }

pub sum_nearest : {unit : ℚ} → whole 0 <ℚ unit → {sums : ℕ → Enclosure} {t : ℕ → ℚ} → Encloses sums t → (base scale r n : ℕ) →
    T (near_test base scale r (sums n)) → Nearest unit r (whole base *ℚ unit +ℚ whole scale *ℚ unit *ℚ partial_sum t n)
sum_nearest {unit} p {sums} {t} e base scale r n test =
    let sides = both (low_test base scale r (sums n)) (high_test base scale r (sums n)) test in
    let low = (sums n).low in
    let high = (sums n).high in
    let l = e.low_sums n in
    let h = e.high_sums n in
    let less : (w : ℕ → ℕ) → weighted w e.least n ≤ℚ weighted w t n = λ w. weighted_mono w e.at_least n in
    let greater : (w : ℕ → ℕ) → weighted w t n ≤ℚ weighted w e.most n = λ w. weighted_mono w e.at_most n in
    subst (λ x. Nearest unit r (whole base *ℚ unit +ℚ whole scale *ℚ unit *ℚ x)) (sym (partial_sum_parts t n))
    (from_doubles unit p base scale r (weighted added t n) (weighted taken t n)
    (side_below (2 * r) (2 * base + 1) (2 * scale) high.minus high.over low.plus low.over
    (weighted taken e.most n) (weighted added e.least n) h.minus l.plus (greater taken) (less added) sides.0)
    (side_below (2 * base) (2 * r + 1) (2 * scale) high.plus high.over low.minus low.over
    (weighted added e.most n) (weighted taken e.least n) h.plus l.minus (greater added) (less taken) sides.1))
