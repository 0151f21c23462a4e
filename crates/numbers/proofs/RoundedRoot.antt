-- The error calculus: the whole square root of a rounded number. The lemma is `root_rounded`. Assumes nothing.
use mathlib.Core.Path.{◌≡◌, sym, ◌∙◌, ap, ap₂}
use Prim.Native.Nat.{ℕ, ◌+◌, ◌*◌}
use native.Mathlib.Nat.{le_of_lt}
use lib.Dec.{T}
use lib.IntN.{pos}
use Rattle.numbers.specs.Root.{WholeRoot}
use Rattle.ratios.specs.Solver.{◌:+◌, ◌:-◌, ◌:*◌, ◌:^◌, :-◌, ◌:=◌}
use Rattle.ratios.specs.Ratios.{Ratio, ◌+ᴿ◌, ◌*ᴿ◌, nonnegᴿ}
use Rattle.numbers.proofs.RatioTests.{leᴿ, eqᴿ}
use Rattle.numbers.specs.Fractions.{ℚ, fraction, from_ℤ, ◌+ℚ◌, ◌*ℚ◌, -ℚ◌, ◌-ℚ◌, ◌^ℚ◌, ◌≤ℚ◌}
use Rattle.numbers.specs.Rounding.{RootOf}
use Rattle.numbers.proofs.FractionSolver.{ring_ℚ, ◌#◌, fraction_sum, fraction_product}
use Rattle.numbers.proofs.Order.{NonNeg, nonneg_mul, nonneg_eq, nonneg_add, nonneg_ratio, gap, from_gap, ≤ℚ_ratio, ≡_ratio, ≤ℚ_eq, ≤ℚ_refl, ≤ℚ_trans, +ℚ_mono, *ℚ_mono}
use Rattle.numbers.proofs.WholeFractions.{nonneg_ℕ, from_ℤ_add, from_ℤ_mul, from_ℕ_mono}
use Rattle.numbers.proofs.Bounds.{bounded_nonneg, bounded_weaken, bound_nonneg}
use Rattle.numbers.proofs.Near.{error, near_weaken}
use Rattle.numbers.proofs.Roots.{square_cancel, near_root}
use Rattle.numbers.proofs.Rounded.{Rounded, at_least}

pub root_nonneg : {unit A x : ℚ} → NonNeg unit → RootOf unit A x → NonNeg x
root_nonneg {unit} {x = x} nu hx =
    nonneg_eq (ring_ℚ 2 (λ x k. x := x :- k :+ k) tt x (from_ℤ (pos hx.multiple) *ℚ unit))
    (nonneg_add (gap hx.low) (nonneg_mul (nonneg_ℕ hx.multiple) nu))

-- n has units u², and its exact value A is at least l; m² ≤ l - δ, and the value is at most c²; e is at least δ / 2m
module _ {n : ℕ} {A : ℚ} {w a δ : Ratio} (u l m c e : Ratio)
    (hu : T (nonnegᴿ u)) (hm : T (nonnegᴿ m)) (hc : T (nonnegᴿ c)) (he : T (nonnegᴿ e)) (uw : T (eqᴿ (u *ᴿ u) w))
    (ml : T (leᴿ (m *ᴿ m +ᴿ δ) l)) (ac : T (leᴿ a (c *ᴿ c))) (hδ : T (leᴿ δ ((m +ᴿ m) *ᴿ e)))
    (lA : fraction l ≤ℚ A) (p : Rounded (pos n) w A a δ) where
  nu : NonNeg (fraction u)
  nu = nonneg_ratio u hu

  square_unit : fraction u *ℚ fraction u ≡ fraction w
  square_unit = sym (fraction_product u u) ∙ ≡_ratio (u *ᴿ u) w uw

  nw : NonNeg (fraction w)
  nw = nonneg_eq (sym square_unit) (nonneg_mul nu nu)

  -- (k u)² = k² w, and ((k + 1) u)² = (k + 1)² w
  square_of : (k : ℕ) → (from_ℤ (pos k) *ℚ fraction u) *ℚ (from_ℤ (pos k) *ℚ fraction u) ≡ from_ℤ (pos (k * k)) *ℚ fraction w
  square_of k =
      ring_ℚ 2 (λ k u. k :* u :* (k :* u) := k :* k :* (u :* u)) tt (from_ℤ (pos k)) (fraction u)
      ∙ ap₂ ◌*ℚ◌ (sym (from_ℤ_mul (pos k) (pos k))) square_unit

  square_next : (k : ℕ) → (from_ℤ (pos k) *ℚ fraction u +ℚ fraction u) *ℚ (from_ℤ (pos k) *ℚ fraction u +ℚ fraction u) ≡ from_ℤ (pos ((k + 1) * (k + 1))) *ℚ fraction w
  square_next k =
      ring_ℚ 2 (λ k u. (k :* u :+ u) :* (k :* u :+ u) := (k :+ 1 # 1) :* (k :+ 1 # 1) :* (u :* u)) tt (from_ℤ (pos k)) (fraction u)
      ∙ ap₂ ◌*ℚ◌ (sym (from_ℤ_mul (pos (k + 1)) (pos (k + 1)) ∙ ap₂ ◌*ℚ◌ (from_ℤ_add (pos k) (pos 1)) (from_ℤ_add (pos k) (pos 1)))) square_unit

  pub root_rounded : (r : ℕ) (x : ℚ) → WholeRoot n r → RootOf (fraction u) A x → Rounded (pos r) u x (c +ᴿ u) (u +ᴿ u +ᴿ e)
  root_rounded r x hr hx =
      record {
        size = bounded_weaken (bounded_nonneg (root_nonneg nu hx) (≤ℚ_trans hx.high (+ℚ_mono k_c (≤ℚ_refl (fraction u))))) (≤ℚ_eq (sym (fraction_sum c u)));
        near = near_weaken
            (near_root ns nk nu (nonneg_ratio e he)
            (square_cancel (nonneg_add ns nu) (≤ℚ_trans (≤ℚ_eq (sym (fraction_product m m))) (≤ℚ_trans m_n n_next)))
            (square_cancel (nonneg_add nk nu) (≤ℚ_trans (≤ℚ_eq (sym (fraction_product m m))) (≤ℚ_trans m_A A_next)))
            (≤ℚ_trans (≤ℚ_eq (square_of r)) (*ℚ_mono nw (from_ℕ_mono hr.low))) n_next
            (≤ℚ_trans (≤ℚ_eq (sym (square (from_ℤ (pos hx.multiple) *ℚ fraction u)))) hx.square_low) A_next hx.low hx.high p.near
            (≤ℚ_trans (≤ℚ_ratio δ ((m +ᴿ m) *ᴿ e) hδ) (≤ℚ_eq (fraction_product (m +ᴿ m) e ∙ ap (λ (t : ℚ). t *ℚ fraction e) (fraction_sum m m)))))
            (≤ℚ_eq (sym (fraction_sum (u +ᴿ u) e ∙ ap (λ (t : ℚ). t +ℚ fraction e) (fraction_sum u u))));
      }
    where
      k : ℚ
      k = from_ℤ (pos hx.multiple) *ℚ fraction u

      nk : NonNeg k
      nk = nonneg_mul (nonneg_ℕ hx.multiple) nu

      ns : NonNeg (from_ℤ (pos r) *ℚ fraction u)
      ns = nonneg_mul (nonneg_ℕ r) nu

      square : (y : ℚ) → y ^ℚ 2 ≡ y *ℚ y
      square y = ring_ℚ 1 (λ y. y :^ 2 := y :* y) tt y

      A_next : A ≤ℚ (k +ℚ fraction u) *ℚ (k +ℚ fraction u)
      A_next = ≤ℚ_trans hx.square_high (≤ℚ_eq (square (k +ℚ fraction u)))

      n_next : from_ℤ (pos n) *ℚ fraction w ≤ℚ (from_ℤ (pos r) *ℚ fraction u +ℚ fraction u) *ℚ (from_ℤ (pos r) *ℚ fraction u +ℚ fraction u)
      n_next = ≤ℚ_trans (*ℚ_mono nw (from_ℕ_mono (le_of_lt hr.high))) (≤ℚ_eq (sym (square_next r)))

      m_n : fraction (m *ᴿ m) ≤ℚ from_ℤ (pos n) *ℚ fraction w
      m_n = at_least l (m *ᴿ m) ml lA p

      m_A : fraction (m *ᴿ m) ≤ℚ A
      m_A =
          ≤ℚ_trans
          (from_gap (bound_nonneg (error p.near))
          (ap (λ (t : ℚ). t -ℚ fraction (m *ᴿ m)) (fraction_sum (m *ᴿ m) δ)
          ∙ ring_ℚ 2 (λ m d. m :+ d :- m := d) tt (fraction (m *ᴿ m)) (fraction δ)))
          (≤ℚ_trans (≤ℚ_ratio (m *ᴿ m +ᴿ δ) l ml) lA)

      k_c : k ≤ℚ fraction c
      k_c =
          square_cancel (nonneg_ratio c hc)
          (≤ℚ_trans (≤ℚ_eq (sym (square k)))
          (≤ℚ_trans hx.square_low (≤ℚ_trans p.size.high (≤ℚ_trans (≤ℚ_ratio a (c *ᴿ c) ac) (≤ℚ_eq (fraction_product c c))))))
