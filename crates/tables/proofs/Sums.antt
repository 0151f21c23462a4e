-- The partial sums of an alternating series, over fractions and as the engine of Values.antt computes them: what is added and what is taken off
-- are kept apart. Assumes nothing.
use mathlib.Core.Path.{◌≡◌, sym, ◌∙◌, ap, ap₂}
use Prim.Native.Nat.{ℕ, zero, suc, ◌+◌, ◌*◌}
use native.Mathlib.Omega.{arith}
use Rattle.ratios.specs.Solver.{◌:+◌, ◌:-◌, ◌:*◌, :-◌, ◌:=◌}
use Rattle.numbers.specs.Fractions.{ℚ, ◌+ℚ◌, ◌*ℚ◌, -ℚ◌, ◌-ℚ◌, ◌^ℚ◌, ◌≤ℚ◌}
use Rattle.numbers.proofs.FractionSolver.{ring_ℚ, from_multiple_ℚ, ◌#◌}
use Rattle.numbers.proofs.Order.{nonneg_mul, gap, from_gap, +ℚ_mono}
use Rattle.numbers.proofs.WholeFractions.{nonneg_ℕ}
use Rattle.tables.specs.Series.{partial_sum}
use Rattle.tables.specs.Values.{Sum, added, taken, more, sum_to}
use Rattle.numbers.proofs.StrictOrder.{whole, whole_add, whole_mul}

-- w₀ t₀ + .. + wₙ tₙ
unfoldable pub weighted : (ℕ → ℕ) → (ℕ → ℚ) → ℕ → ℚ
weighted w t zero = whole (w zero) *ℚ t zero
weighted w t (suc n) = weighted w t n +ℚ whole (w (suc n)) *ℚ t (suc n)

weigh : (w : ℕ) {x y : ℚ} → x ≤ℚ y → whole w *ℚ x ≤ℚ whole w *ℚ y
weigh w {x} {y} h =
    from_gap (nonneg_mul (nonneg_ℕ w) (gap h)) (ring_ℚ 3 (λ w x y. w :* y :- w :* x := w :* (y :- x)) tt (whole w) x y)

pub weighted_mono : (w : ℕ → ℕ) {s t : ℕ → ℚ} → ((k : ℕ) → s k ≤ℚ t k) → (n : ℕ) → weighted w s n ≤ℚ weighted w t n
unfolding weighted
weighted_mono w h zero = weigh (w zero) (h zero)
weighted_mono w h (suc n) = +ℚ_mono (weighted_mono w h n) (weigh (w (suc n)) (h (suc n)))

-- (-1)ᵏ: once added, or once taken off
sign : (k : ℕ) → (-ℚ whole 1) ^ℚ k ≡ whole (added k) -ℚ whole (taken k)
sign zero = ring_ℚ 0 (1 # 1 := 1 # 1 :- 0 # 1) tt
sign (suc k) =
    let e : added (suc k) ≡ taken k = omega arith in
    ap (λ (z : ℚ). z *ℚ -ℚ whole 1) (sign k)
    ∙ ring_ℚ 2 (λ a b. (a :- b) :* (:- 1 # 1) := b :- a) tt (whole (added k)) (whole (taken k))
    ∙ ap (λ (m : ℕ). whole m -ℚ whole (added k)) (sym e)

pub partial_sum_parts : (t : ℕ → ℚ) (n : ℕ) → partial_sum t n ≡ weighted added t n -ℚ weighted taken t n
unfolding partial_sum weighted
partial_sum_parts t zero = ring_ℚ 1 (λ x. x := 1 # 1 :* x :- 0 # 1 :* x) tt (t zero)
partial_sum_parts t (suc n) =
    ap₂ (λ (a b : ℚ). a +ℚ b *ℚ t (suc n)) (partial_sum_parts t n) (sign (suc n))
    ∙ ring_ℚ 5 (λ p m a b x. p :- m :+ (a :- b) :* x := p :+ a :* x :- (m :+ b :* x)) tt
    (weighted added t n) (weighted taken t n) (whole (added (suc n))) (whole (taken (suc n))) (t (suc n))

-- s is the sum of the series t to the place n
pub record SumOf (t : ℕ → ℚ) (n : ℕ) (s : Sum) : Type 0 where
  pub plus : whole s.plus ≡ whole s.over *ℚ weighted added t n
  pub minus : whole s.minus ≡ whole s.over *ℚ weighted taken t n
  pub term : whole s.term ≡ whole s.over *ℚ t n

-- the first term, u/v, is the sum to the place 0
pub first_sum : (t : ℕ → ℚ) (u v : ℕ) → whole v *ℚ t 0 ≡ whole u → SumOf t 0 (record { plus = u; minus = 0; term = u; over = v })
unfolding weighted
first_sum t u v h =
    record {
      plus = sym h ∙ ring_ℚ 2 (λ v x. v :* x := v :* (1 # 1 :* x)) tt (whole v) (t 0);
      minus = ring_ℚ 2 (λ v x. 0 # 1 := v :* (0 # 1 :* x)) tt (whole v) (t 0);
      term = sym h;
    }

-- one term more, in either part
part_more : (part w over down term : ℕ) (p x : ℚ) → whole part ≡ whole over *ℚ p → whole term ≡ whole (over * down) *ℚ x →
    whole (part * down + w * term) ≡ whole (over * down) *ℚ (p +ℚ whole w *ℚ x)
part_more part w over down term p x h k =
    whole_add (part * down) (w * term)
    ∙ ap₂ ◌+ℚ◌ (whole_mul part down ∙ ap (λ (z : ℚ). z *ℚ whole down) h) (whole_mul w term ∙ ap (λ (z : ℚ). whole w *ℚ z) k)
    ∙ ap (λ (z : ℚ). whole over *ℚ p *ℚ whole down +ℚ whole w *ℚ (z *ℚ x)) (whole_mul over down)
    ∙ ring_ℚ 5 (λ o p d w x. o :* p :* d :+ w :* (o :* d :* x) := o :* d :* (p :+ w :* x)) tt (whole over) p (whole down) (whole w) x
    ∙ ap (λ (z : ℚ). z *ℚ (p +ℚ whole w *ℚ x)) (sym (whole_mul over down))

-- the next term is up / down times the last
term_more : (term over up down : ℕ) (x y : ℚ) → whole term ≡ whole over *ℚ x → whole down *ℚ y ≡ whole up *ℚ x →
    whole (term * up) ≡ whole (over * down) *ℚ y
term_more term over up down x y h k =
    whole_mul term up
    ∙ ap (λ (z : ℚ). z *ℚ whole up) h
    ∙ from_multiple_ℚ (-ℚ whole over) k
    (ring_ℚ 5 (λ o x u d y. o :* x :* u :- o :* d :* y := :- o :* (d :* y :- u :* x)) tt (whole over) x (whole up) (whole down) y)
    ∙ ap (λ (z : ℚ). z *ℚ y) (sym (whole_mul over down))

-- the engine sums the series t, if it starts at its first term and each next term is up / down times the last
module _ (t : ℕ → ℚ) (up : ℕ) (down : ℕ → ℕ) (ratio : (n : ℕ) → whole (down n) *ℚ t (suc n) ≡ whole up *ℚ t n) where
  pub sums_of : {start : Sum} → SumOf t 0 start → (n : ℕ) → SumOf t n (sum_to start up down n)
  unfolding sum_to more weighted
  sums_of h zero = h
  sums_of {start} h (suc n) =
      let s : Sum = sum_to start up down n in
      let i : SumOf t n s = sums_of h n in
      let e = term_more s.term s.over up (down n) (t n) (t (suc n)) i.term (ratio n) in
      record {
        plus = part_more s.plus (added (suc n)) s.over (down n) (s.term * up) (weighted added t n) (t (suc n)) i.plus e;
        minus = part_more s.minus (taken (suc n)) s.over (down n) (s.term * up) (weighted taken t n) (t (suc n)) i.minus e;
        term = e;
      }
