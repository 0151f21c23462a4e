-- Square roots: a whole root of a number of units², against a root of the exact value. The lemma is `near_root`. Assumes nothing.
use mathlib.Core.Path.{refl}
use Rattle.ratios.specs.Solver.{◌:+◌, ◌:-◌, ◌:*◌, ◌:=◌}
use Rattle.numbers.specs.Fractions.{ℚ, ◌+ℚ◌, ◌*ℚ◌, ◌-ℚ◌, ◌≤ℚ◌, Near}
use Rattle.numbers.proofs.FractionSolver.{ring_ℚ}
use Rattle.numbers.proofs.Order.{NonNeg, nonneg_add, nonneg_mul, nonneg_eq, gap, from_gap, <ℚ-≤ℚ, <ℚ-≤ℚ_trans, <ℚ_irrefl, not_above}
use Rattle.numbers.proofs.StrictOrder.{gap_positive, from_positive_gap, positive_add, positive_mul}
use Rattle.numbers.proofs.Bounds.{bounded, above, below}
use Rattle.numbers.proofs.Near.{near, error}

-- s² ≤ t² gives s ≤ t, where t is not below 0: were s above t, then s² = t² + (s - t)² + 2t (s - t)
pub square_cancel : {s t : ℚ} → NonNeg t → s *ℚ s ≤ℚ t *ℚ t → s ≤ℚ t
square_cancel {s} {t} n h =
    not_above
    (λ k. let g = gap_positive k in
    <ℚ_irrefl
    (<ℚ-≤ℚ_trans
    (from_positive_gap (positive_add (positive_mul g g) (nonneg_mul (nonneg_add n n) (gap (<ℚ-≤ℚ k))))
    (ring_ℚ 2 (λ s t. s :* s :- t :* t := (s :- t) :* (s :- t) :+ (t :+ t) :* (s :- t)) tt s t))
    h))

-- s² ≤ N, N - A ≤ δ, A ≤ t²: s ≤ t + e, where t is at least m and δ at most 2 m e
root_at_most : {s t N A m e δ : ℚ} → NonNeg t → NonNeg e → m ≤ℚ t → s *ℚ s ≤ℚ N → NonNeg (δ -ℚ (N -ℚ A)) → A ≤ℚ t *ℚ t → δ ≤ℚ (m +ℚ m) *ℚ e → s ≤ℚ t +ℚ e
root_at_most {s} {t} {N} {A} {m} {e} {δ} nt ne mt sN Near-by At hδ =
    square_cancel (nonneg_add nt ne)
    (from_gap
    (nonneg_add (gap At) (nonneg_add Near-by (nonneg_add (gap sN) (nonneg_add (nonneg_mul (gap mt) (nonneg_add ne ne)) (nonneg_add (gap hδ) (nonneg_mul ne ne))))))
    (ring_ℚ 7 (λ s t n a m e d. (t :+ e) :* (t :+ e) :- s :* s := t :* t :- a :+ (d :- (n :- a) :+ (n :- s :* s :+ ((t :- m) :* (e :+ e) :+ ((m :+ m) :* e :- d :+ e :* e))))) tt
    s t N A m e δ))

-- s² ≤ N ≤ (s + u)² and k² ≤ A ≤ (k + u)², where N is within δ of A; x lies between k and k + u
pub near_root : {s k u x N A m e δ : ℚ} → NonNeg s → NonNeg k → NonNeg u → NonNeg e → m ≤ℚ s +ℚ u → m ≤ℚ k +ℚ u →
    s *ℚ s ≤ℚ N → N ≤ℚ (s +ℚ u) *ℚ (s +ℚ u) → k *ℚ k ≤ℚ A → A ≤ℚ (k +ℚ u) *ℚ (k +ℚ u) → k ≤ℚ x → x ≤ℚ k +ℚ u →
    Near N A δ → δ ≤ℚ (m +ℚ m) *ℚ e → Near s x (u +ℚ u +ℚ e)
near_root {s} {k} {u} {x} {N} {A} {m} {e} {δ} ns nk nu ne ms mk sN Ns kA Ak kx xk h hδ =
    near refl
    (bounded (nonneg_add (gap up) (gap xk)) (ring_ℚ 5 (λ s k u x e. s :- x :+ (u :+ u :+ e) := s :+ u :+ e :- k :+ (k :+ u :- x)) tt s k u x e)
    (nonneg_add (gap down) (nonneg_add (gap kx) nu))
    (ring_ℚ 5 (λ s k u x e. u :+ u :+ e :- (s :- x) := k :+ u :+ e :- s :+ (x :- k :+ u)) tt s k u x e))
  where
    down : s ≤ℚ k +ℚ u +ℚ e
    down = root_at_most (nonneg_add nk nu) ne mk sN (below (error h)) Ak hδ

    up : k ≤ℚ s +ℚ u +ℚ e
    up =
        root_at_most (nonneg_add ns nu) ne ms kA
        (nonneg_eq (ring_ℚ 3 (λ n a d. d :- (a :- n) := n :- a :+ d) tt N A δ) (above (error h))) Ns hδ
