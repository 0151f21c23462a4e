-- What is nearest is within half a unit (`nearest_half`); and r is nearest to base + scale · y, if it is for two numbers that y lies between.
-- Assumes nothing.
use Prim.Native.Nat.{ℕ}
use Rattle.ratios.specs.Solver.{◌:+◌, ◌:-◌, ◌:*◌, :-◌, ◌:=◌}
use Rattle.numbers.specs.Fractions.{ℚ, ◌+ℚ◌, ◌*ℚ◌, ◌≤ℚ◌}
use Rattle.numbers.proofs.FractionSolver.{ring_ℚ, ◌#◌}
use Rattle.numbers.proofs.Order.{NonNeg, nonneg_mul, gap, from_gap, <ℚ-≤ℚ, <ℚ-≤ℚ_trans, ≤ℚ-<ℚ_trans}
use Rattle.tables.specs.Series.{Between, rising, falling, Nearest, HalfUnit}
use Rattle.numbers.proofs.StrictOrder.{whole}

-- base + scale · s grows with s
line_mono : (base : ℚ) {scale x y : ℚ} → NonNeg scale → x ≤ℚ y → base +ℚ scale *ℚ x ≤ℚ base +ℚ scale *ℚ y
line_mono base {scale} {x} {y} n h =
    from_gap (nonneg_mul n (gap h))
    (ring_ℚ 4 (λ b s x y. b :+ s :* y :- (b :+ s :* x) := s :* (y :- x)) tt base scale x y)

pub nearest_between : (base : ℚ) {unit scale a b y : ℚ} {r : ℕ} → NonNeg scale →
    Nearest unit r (base +ℚ scale *ℚ a) → Nearest unit r (base +ℚ scale *ℚ b) → Between a b y → Nearest unit r (base +ℚ scale *ℚ y)
nearest_between base n p q (rising h k) =
    record { low = <ℚ-≤ℚ_trans p.low (line_mono base n h); high = ≤ℚ-<ℚ_trans (line_mono base n k) q.high }
nearest_between base n p q (falling h k) =
    record { low = <ℚ-≤ℚ_trans q.low (line_mono base n h); high = ≤ℚ-<ℚ_trans (line_mono base n k) p.high }

pub nearest_half : {unit y : ℚ} {r : ℕ} → Nearest unit r y → HalfUnit unit r y
unfolding HalfUnit
nearest_half {unit} {y} {r} h =
    record {
      low = from_gap (gap (<ℚ-≤ℚ h.low))
          (ring_ℚ 3 (λ u y r. y :- r :* u :- :- (1 # 2 :* u) := y :- (r :* u :- 1 # 2 :* u)) tt unit y (whole r));
      high = from_gap (gap (<ℚ-≤ℚ h.high))
          (ring_ℚ 3 (λ u y r. 1 # 2 :* u :- (y :- r :* u) := r :* u :+ 1 # 2 :* u :- y) tt unit y (whole r));
    }
