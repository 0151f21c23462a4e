-- The three whole quotients of the step sheet lie as near to the exact one as specs/Rounding.antt says: each leaves a remainder that is
-- bounded by the divisor. A factor that dividend and divisor share leaves `÷0` as it is. Assumes nothing.
use mathlib.Core.Path.{◌≡◌, sym, ◌∙◌, ap}
use Prim.Native.Nat.{ℕ, zero, suc, ◌*◌, ◌/◌, ◌%◌, ◌<◌, zero-le, suc-le-suc}
use native.Mathlib.Nat.{div-add-mod', mod-lt, le_of_lt, mul-pos}
use native.Mathlib.Numerals.{add-one}
use lib.Dec.{ltb→lt, lt→ltb, le→leb, lit<}
use lib.IntN.{ℤ, pos, negsuc, neg_ℤ, ◌+ℤ◌, ◌-ℤ◌, ◌*ℤ◌}
use lib.Signed.{◌≤ℤ◌, ◌<ℤ◌}
use Rattle.numbers.specs.Whole.{◌÷↓◌, ◌÷0◌, nearest_quotient}
use Rattle.ratios.specs.Solver.{con, ◌:+◌, ◌:-◌, ◌:*◌, :-◌, ◌:=◌}
use Rattle.ratios.specs.IntegerSolver.{ring_ℤ}
use Rattle.ratios.specs.Ratios.{◌over◌, -ᴿ◌}
use Rattle.numbers.specs.Fractions.{ℚ, fraction, from_ℤ, ◌/ℚ◌, ◌+ℚ◌, ◌*ℚ◌, -ℚ◌, ◌-ℚ◌, inverse, ◌÷ℚ◌, ◌<ℚ◌, Near, ◌≤ℚ◌}
use Rattle.numbers.proofs.RoundingErrors.{Rounds, down_error, toward_zero_error, nearest_error}
use Rattle.numbers.proofs.IntegerOrder.{nonneg_add_ℤ, gap_ℤ, from_gap_ℤ}
use Rattle.numbers.proofs.FractionSolver.{ring_ℚ, from_multiple_ℚ, ◌#◌}
use Rattle.numbers.proofs.Order.{nonneg_mul, nonneg_ratio, gap, from_gap, ≤ℚ_trans, ≤ℚ_eq, <ℚ-≤ℚ_trans, <ℚ_ratio, nonneg_add, <ℚ_irrefl}
use Rattle.numbers.proofs.WholeFractions.{from_ℤ_add, from_ℤ_mul, from_ℤ_neg, from_ℤ_mono}
use Rattle.numbers.proofs.Inverse.{*ℚ_inverse, nonneg_inverse_of}
use Rattle.numbers.proofs.Bounds.{Bounded, bounded, bounded_scale, bounded_weaken}
use Rattle.numbers.proofs.Near.{near}

-- z = q w + rest, with low ≤ rest ≤ high
pub record Divided (z w q low high : ℤ) : Type 0 where
  pub rest : ℤ
  pub splits : z ≡ q *ℤ w +ℤ rest
  pub at_least : low ≤ℤ rest
  pub at_most : rest ≤ℤ high

-- ---- what the quotients leave

positive : (k : ℕ) → pos 0 <ℤ pos k → 0 < k
positive k h = ltb→lt 0 k h.lt

rest_below : (a k : ℕ) → pos 0 <ℤ pos k → pos (a % k) ≤ℤ pos k
rest_below a k h = record { le = le→leb (a % k) k (le_of_lt (mod-lt a (positive k h))) }

-- -(n + 1)
negsuc_is : (n : ℕ) → negsuc n ≡ neg_ℤ (pos n +ℤ pos 1)
negsuc_is n = ap (λ (m : ℕ). neg_ℤ (pos m)) (sym (add-one n))

next_rest_below : (a k : ℕ) → pos 0 <ℤ pos k → ◌≤ℤ◌ (pos (a % k) +ℤ pos 1) (pos k)
next_rest_below a k h = record { le = rw (add-one (a % k)) (le→leb (suc (a % k)) k (mod-lt a (positive k h))) }

pub down_divided : (z w : ℤ) → pos 0 <ℤ w → Divided z w (z ÷↓ w) (pos 0) w
down_divided (pos a) (pos k) h =
    record { rest = pos (a % k); splits = ap pos (sym (div-add-mod' a k)); at_least = record { le = le→leb 0 (a % k) zero-le }; at_most = rest_below a k h }
down_divided (negsuc a) (pos k) h =
    record {
      rest = pos k -ℤ (pos (a % k) +ℤ pos 1);
      splits = negsuc_is a
          ∙ ap (λ (m : ℕ). neg_ℤ (pos m +ℤ pos 1)) (sym (div-add-mod' a k))
          ∙ ring_ℤ 3 (λ q k r. :- (q :* k :+ r :+ con (pos 1)) := :- (q :+ con (pos 1)) :* k :+ (k :- (r :+ con (pos 1)))) tt (pos (a / k)) (pos k) (pos (a % k))
          ∙ ap (λ (q : ℤ). q *ℤ pos k +ℤ (pos k -ℤ (pos (a % k) +ℤ pos 1))) (sym (negsuc_is (a / k)));
      at_least = from_gap_ℤ (gap_ℤ (next_rest_below a k h)) (ring_ℤ 2 (λ k r. k :- r :- con (pos 0) := k :- r) tt (pos k) (pos (a % k) +ℤ pos 1));
      at_most = from_gap_ℤ {e = pos (a % k) +ℤ pos 1} (record { test = tt })
          (ring_ℤ 2 (λ k r. k :- (k :- r) := r) tt (pos k) (pos (a % k) +ℤ pos 1));
    }
down_divided (pos a) (negsuc k) h = absurd h.lt
down_divided (negsuc a) (negsuc k) h = absurd h.lt

pub toward_zero_divided : (z w : ℤ) → pos 0 <ℤ w → Divided z w (z ÷0 w) (neg_ℤ w) w
toward_zero_divided (pos a) (pos k) h =
    record {
      rest = pos (a % k);
      splits = ap pos (sym (div-add-mod' a k));
      at_least = from_gap_ℤ {e = pos (a % k) +ℤ pos k} (record { test = tt }) (ring_ℤ 2 (λ k r. r :- :- k := r :+ k) tt (pos k) (pos (a % k)));
      at_most = rest_below a k h;
    }
toward_zero_divided (negsuc a) (pos k) h =
    record {
      rest = neg_ℤ (pos (suc a % k));
      splits = ap (λ (m : ℕ). neg_ℤ (pos m)) (sym (div-add-mod' (suc a) k))
          ∙ ring_ℤ 3 (λ q k r. :- (q :* k :+ r) := :- q :* k :+ :- r) tt (pos (suc a / k)) (pos k) (pos (suc a % k));
      at_least = from_gap_ℤ (gap_ℤ (rest_below (suc a) k h)) (ring_ℤ 2 (λ k r. :- r :- :- k := k :- r) tt (pos k) (pos (suc a % k)));
      at_most = from_gap_ℤ {e = pos k +ℤ pos (suc a % k)} (record { test = tt }) (ring_ℤ 2 (λ k r. k :- :- r := k :+ r) tt (pos k) (pos (suc a % k)));
    }
toward_zero_divided (pos a) (negsuc k) h = absurd h.lt
toward_zero_divided (negsuc a) (negsuc k) h = absurd h.lt

-- ---- the error: q - z/w = -rest/w

pub from_ℤ_above : {w : ℤ} → pos 0 <ℤ w → from_ℤ (pos 0) <ℚ from_ℤ w
from_ℤ_above {w} h = <ℚ-≤ℚ_trans (<ℚ_ratio (1 over 1) tt) (from_ℤ_mono (at_least_one w h))
  where
    at_least_one : (w : ℤ) → pos 0 <ℤ w → pos 1 ≤ℤ w
    at_least_one (pos k) h = record { le = le→leb 1 k (positive k h) }
    at_least_one (negsuc k) h = absurd h.lt

splits_ℚ : {z w q low high : ℤ} (d : Divided z w q low high) → from_ℤ z ≡ from_ℤ q *ℚ from_ℤ w +ℚ from_ℤ d.rest
splits_ℚ {z} {w} {q} d =
    ap (λ (x : ℤ). from_ℤ x) d.splits ∙ from_ℤ_add (q *ℤ w) d.rest ∙ ap (λ (x : ℚ). x +ℚ from_ℤ d.rest) (from_ℤ_mul q w)

near_of_rest : {z w q r e : ℚ} → from_ℤ (pos 0) <ℚ w → z ≡ q *ℚ w +ℚ r → Bounded r (e *ℚ w) → Near q (z ÷ℚ w) e
near_of_rest {z} {w} {q} {r} {e} hw s b =
    near
    (ap (λ (x : ℚ). q -ℚ x *ℚ inverse w) s
    ∙ from_multiple_ℚ (-ℚ q) (*ℚ_inverse hw)
    (ring_ℚ 4 (λ q w r i. q :- (q :* w :+ r) :* i :- i :* :- r := :- q :* (w :* i :- 1 # 1)) tt q w r (inverse w)))
    (bounded_weaken
    (bounded_scale (inverse w) (nonneg_inverse_of hw) (bounded (gap b.high) (ring_ℚ 2 (λ r a. :- r :+ a := a :- r) tt r (e *ℚ w)) (gap b.low) (ring_ℚ 2 (λ r a. a :- :- r := r :- :- a) tt r (e *ℚ w))))
    (≤ℚ_eq (from_multiple_ℚ e (*ℚ_inverse hw) (ring_ℚ 3 (λ e w i. i :* (e :* w) :- e := e :* (w :* i :- 1 # 1)) tt e w (inverse w)))))

within_divisor : {w r : ℤ} → neg_ℤ w ≤ℤ r → r ≤ℤ w → Bounded (from_ℤ r) (from_ℤ (pos 1) *ℚ from_ℤ w)
within_divisor {w} {r} l h =
    record {
      low = ≤ℚ_trans (≤ℚ_eq (ring_ℚ 1 (λ w. :- (1 # 1 :* w) := :- w) tt (from_ℤ w) ∙ sym (from_ℤ_neg w))) (from_ℤ_mono l);
      high = ≤ℚ_trans (from_ℤ_mono h) (≤ℚ_eq (ring_ℚ 1 (λ w. w := 1 # 1 :* w) tt (from_ℤ w)));
    }

pub rounds_down : Rounds ◌÷↓◌ down_error
rounds_down z w h =
    let d = down_divided z w h in
    near_of_rest (from_ℤ_above h) (splits_ℚ d)
    (within_divisor
    (from_gap_ℤ (nonneg_add_ℤ (nonneg_add_ℤ (gap_ℤ d.at_least) (gap_ℤ d.at_least)) (gap_ℤ d.at_most))
    (ring_ℤ 2 (λ w r. r :- :- w := r :- con (pos 0) :+ (r :- con (pos 0)) :+ (w :- r)) tt w d.rest))
    d.at_most)

pub rounds_toward_zero : Rounds ◌÷0◌ toward_zero_error
rounds_toward_zero z w h =
    let d = toward_zero_divided z w h in
    near_of_rest (from_ℤ_above h) (splits_ℚ d) (within_divisor d.at_least d.at_most)

-- 2z + w = q · 2w + rest gives z = q w + (rest - w)/2, where -w ≤ rest - w ≤ w
near_of_half : (z w q : ℤ) → pos 0 <ℤ w → Divided (pos 2 *ℤ z +ℤ w) (pos 2 *ℤ w) q (pos 0) (pos 2 *ℤ w) →
    Near (from_ℤ q) (from_ℤ z ÷ℚ from_ℤ w) (fraction nearest_error)
near_of_half z w q h d =
    near_of_rest (from_ℤ_above h) half_splits
    (bounded (nonneg_mul (nonneg_ratio (1 over 2) tt) (gap (from_ℤ_mono d.at_least)))
    (ring_ℚ 2 (λ w r. 1 # 2 :* (r :- w) :+ 1 # 2 :* w := 1 # 2 :* (r :- 0 # 1)) tt (from_ℤ w) r)
    (nonneg_mul (nonneg_ratio (1 over 2) tt) (gap (from_ℤ_mono d.at_most)))
    (ring_ℚ 2 (λ w r. 1 # 2 :* w :- 1 # 2 :* (r :- w) := 1 # 2 :* (2 # 1 :* w :- r)) tt (from_ℤ w) r
    ∙ ap (λ (x : ℚ). 1 /ℚ 2 *ℚ (x -ℚ r)) (sym (from_ℤ_mul (pos 2) w))))
  where
    r : ℚ
    r = from_ℤ d.rest

    doubled : from_ℤ (pos 2) *ℚ from_ℤ z +ℚ from_ℤ w ≡ from_ℤ q *ℚ (from_ℤ (pos 2) *ℚ from_ℤ w) +ℚ r
    doubled =
        sym (from_ℤ_add (pos 2 *ℤ z) w ∙ ap (λ (x : ℚ). x +ℚ from_ℤ w) (from_ℤ_mul (pos 2) z))
        ∙ splits_ℚ d
        ∙ ap (λ (x : ℚ). from_ℤ q *ℚ x +ℚ r) (from_ℤ_mul (pos 2) w)

    half_splits : from_ℤ z ≡ from_ℤ q *ℚ from_ℤ w +ℚ 1 /ℚ 2 *ℚ (r -ℚ from_ℤ w)
    half_splits =
        from_multiple_ℚ (1 /ℚ 2) doubled
        (ring_ℚ 4 (λ z w q r. z :- (q :* w :+ 1 # 2 :* (r :- w)) := 1 # 2 :* (2 # 1 :* z :+ w :- (q :* (2 # 1 :* w) :+ r))) tt
        (from_ℤ z) (from_ℤ w) (from_ℤ q) r)

twice_above : (w : ℤ) → pos 0 <ℤ w → pos 0 <ℤ (pos 2 *ℤ w)
twice_above (pos k) h = record { lt = lt→ltb 0 (2 * k) (mul-pos (lit< tt) (positive k h)) }
twice_above (negsuc k) h = absurd h.lt

pub rounds_nearest : Rounds nearest_quotient nearest_error
rounds_nearest z w h =
    near_of_half z w (nearest_quotient z w) h (down_divided (pos 2 *ℤ z +ℤ w) (pos 2 *ℤ w) (twice_above w h))

-- ---- the sign of the nearest: a whole number within one half of what is not above 0 is not above 0 either, and so from below

not_above_half : (q : ℤ) → from_ℤ q ≤ℚ 1 /ℚ 2 → q ≤ℤ pos 0
not_above_half (pos zero) h = record { le = tt }
not_above_half (pos (suc n)) h =
    absurd
    (<ℚ_irrefl
    (<ℚ-≤ℚ_trans (<ℚ_ratio (1 over 2) tt)
    (from_gap (nonneg_add (gap h) (gap (from_ℤ_mono {a = pos 1} {b = pos (suc n)} (record { le = le→leb 1 (suc n) (suc-le-suc zero-le) }))))
    (ring_ℚ 1 (λ n. 0 # 1 :- 1 # 2 := 1 # 2 :- n :+ (n :- 1 # 1)) tt (from_ℤ (pos (suc n)))))))
not_above_half (negsuc n) h = record { le = tt }

not_below_half : (q : ℤ) → -ℚ (1 /ℚ 2) ≤ℚ from_ℤ q → pos 0 ≤ℤ q
not_below_half (pos n) h = record { le = le→leb 0 n zero-le }
not_below_half (negsuc n) h =
    absurd
    (<ℚ_irrefl
    (<ℚ-≤ℚ_trans (<ℚ_ratio (1 over 2) tt)
    (from_gap (nonneg_add (gap h) (gap (from_ℤ_mono {a = negsuc n} {b = negsuc 0} (record { le = le→leb 0 n zero-le }))))
    (ring_ℚ 1 (λ q. 0 # 1 :- 1 # 2 := q :- :- 1 # 2 :+ (con (-ᴿ (1 over 1)) :- q)) tt (from_ℤ (negsuc n))))))

pub nearest_not_above : (z w : ℤ) → pos 0 <ℤ w → z ≤ℤ pos 0 → nearest_quotient z w ≤ℤ pos 0
nearest_not_above z w hw hz =
    not_above_half (nearest_quotient z w)
    (from_gap (nonneg_add (gap (rounds_nearest z w hw).high) (nonneg_mul (gap (from_ℤ_mono hz)) (nonneg_inverse_of (from_ℤ_above hw))))
    (ring_ℚ 3 (λ q z i. 1 # 2 :- q := 1 # 2 :- (q :- z :* i) :+ (0 # 1 :- z) :* i) tt (from_ℤ (nearest_quotient z w)) (from_ℤ z) (inverse (from_ℤ w))))

pub nearest_not_below : (z w : ℤ) → pos 0 <ℤ w → pos 0 ≤ℤ z → pos 0 ≤ℤ nearest_quotient z w
nearest_not_below z w hw hz =
    not_below_half (nearest_quotient z w)
    (from_gap (nonneg_add (gap (rounds_nearest z w hw).low) (nonneg_mul (gap (from_ℤ_mono hz)) (nonneg_inverse_of (from_ℤ_above hw))))
    (ring_ℚ 3 (λ q z i. q :- :- 1 # 2 := q :- z :* i :- :- 1 # 2 :+ (z :- 0 # 1) :* i) tt (from_ℤ (nearest_quotient z w)) (from_ℤ z) (inverse (from_ℤ w))))
