-- The error calculus: a quotient of two rounded numbers, whose divisor is bounded below. The lemmas are `quotient_rounded` and `plain_quotient`.
-- Assumes nothing.
use mathlib.Core.Path.{◌≡◌, sym, ◌∙◌, ap, ap₂}
use Prim.Native.Nat.{zero, suc, zero-le, suc-le-suc}
use lib.Dec.{T, lt→ltb}
use lib.IntN.{ℤ, pos, negsuc}
use lib.Signed.{◌<ℤ◌}
use Rattle.ratios.specs.Solver.{◌:+◌, ◌:-◌, ◌:*◌, :-◌, ◌:=◌}
use Rattle.ratios.specs.Ratios.{Ratio, ◌+ᴿ◌, ◌*ᴿ◌, -ᴿ◌, inverseᴿ, nonnegᴿ}
use Rattle.numbers.proofs.RatioTests.{eqᴿ, posᴿ}
use Rattle.numbers.specs.Fractions.{ℚ, fraction, from_ℤ, ◌+ℚ◌, ◌*ℚ◌, -ℚ◌, ◌-ℚ◌, inverse, ◌÷ℚ◌, ◌≤ℚ◌, ◌<ℚ◌, Near}
use Rattle.numbers.proofs.RoundingErrors.{Rounds}
use Rattle.numbers.proofs.FractionSolver.{ring_ℚ, from_multiple_ℚ, ◌#◌, fraction_sum, fraction_product, fraction_negation}
use Rattle.numbers.proofs.Order.{nonneg_ratio, from_gap, ≡_ratio, <ℚ_ratio, ≤ℚ_eq, ≤ℚ_trans, <ℚ-≤ℚ_trans, <ℚ_irrefl, *ℚ_mono}
use Rattle.numbers.proofs.WholeFractions.{from_ℤ_mono}
use Rattle.numbers.proofs.Inverse.{*ℚ_inverse, fraction_inverse}
use Rattle.numbers.proofs.Bounds.{Bounded, bounded_weaken, bounded_quotient, bound_nonneg}
use Rattle.numbers.proofs.Near.{error, near_eq, near_trans, near_weaken, near_scale, near_quotient, near_at_least}
use Rattle.numbers.proofs.Quotients.{from_ℤ_above}
use Rattle.numbers.proofs.Rounded.{Rounded}

-- a divisor whose value is above 0 is above 0
pub divisor_above : (w : ℤ) (v : Ratio) → T (nonnegᴿ v) → from_ℤ (pos 0) <ℚ from_ℤ w *ℚ fraction v → pos 0 <ℤ w
divisor_above (pos zero) v hv h =
    absurd (<ℚ_irrefl (<ℚ-≤ℚ_trans h (≤ℚ_eq (ring_ℚ 1 (λ v. 0 # 1 :* v := 0 # 1) tt (fraction v)))))
divisor_above (pos (suc k)) v hv h = record { lt = lt→ltb 0 (suc k) (suc-le-suc zero-le) }
divisor_above (negsuc k) v hv h =
    absurd
    (<ℚ_irrefl
    (<ℚ-≤ℚ_trans h
    (≤ℚ_trans (*ℚ_mono (nonneg_ratio v hv) (from_ℤ_mono {a = negsuc k} {b = pos 0} (record { le = tt })))
    (≤ℚ_eq (ring_ℚ 1 (λ v. 0 # 1 :* v := 0 # 1) tt (fraction v))))))

-- the divisor's exact value is at least l, so the rounded one at least l - ε, above 0; |X / Y| ≤ c; the quotient's unit is r = u / v
abbrev pub quotient_error : Ratio → Ratio → Ratio → Ratio → Ratio → Ratio → Ratio
quotient_error e r l c δ ε = r *ᴿ e +ᴿ (δ +ᴿ c *ᴿ ε) *ᴿ inverseᴿ (l +ᴿ -ᴿ ε)

module _ {quotient : ℤ → ℤ → ℤ} {e : Ratio} {z w : ℤ} {u v : Ratio} {X Y : ℚ} {a b δ ε : Ratio} (rounds : Rounds quotient e) (r l : Ratio)
    (hr : T (nonnegᴿ r)) (hv : T (nonnegᴿ v)) (hu : T (eqᴿ (r *ᴿ v) u)) (hm : T (posᴿ (l +ᴿ -ᴿ ε))) (lY : fraction l ≤ℚ Y)
    (p : Rounded z u X a δ) (q : Rounded w v Y b ε) where
  m : Ratio
  m = l +ᴿ -ᴿ ε

  m_above : from_ℤ (pos 0) <ℚ fraction m
  unfolding m
  m_above = <ℚ_ratio (l +ᴿ -ᴿ ε) hm

  y : ℚ
  y = from_ℤ w *ℚ fraction v

  m_is : fraction m ≡ fraction l -ℚ fraction ε
  unfolding m
  m_is = fraction_sum l (-ᴿ ε) ∙ ap (λ (t : ℚ). fraction l +ℚ t) (fraction_negation ε)

  m_y : fraction m ≤ℚ y
  unfolding y
  m_y =
      near_at_least
      (≤ℚ_eq (ap (λ (t : ℚ). t +ℚ fraction ε) m_is ∙ ring_ℚ 2 (λ l e. l :- e :+ e := l) tt (fraction l) (fraction ε))) lY q.near

  l_m : fraction m ≤ℚ fraction l
  l_m =
      from_gap (bound_nonneg (error q.near))
      (ap (λ (t : ℚ). fraction l -ℚ t) m_is ∙ ring_ℚ 2 (λ l e. l :- (l :- e) := e) tt (fraction l) (fraction ε))

  y_above : from_ℤ (pos 0) <ℚ y
  y_above = <ℚ-≤ℚ_trans m_above m_y

  w_above : pos 0 <ℤ w
  unfolding y
  w_above = divisor_above w v hv y_above

  -- r (z / w) = (z u) / (w v), where r v = u
  units : fraction r *ℚ (from_ℤ z ÷ℚ from_ℤ w) ≡ (from_ℤ z *ℚ fraction u) ÷ℚ y
  unfolding y
  units =
      from_multiple_ℚ (-ℚ (fraction r *ℚ from_ℤ z *ℚ inverse (from_ℤ w))) (*ℚ_inverse y_above)
      (from_multiple_ℚ (fraction r *ℚ from_ℤ z *ℚ fraction v *ℚ inverse (from_ℤ w *ℚ fraction v)) (*ℚ_inverse (from_ℤ_above w_above))
      (from_multiple_ℚ (from_ℤ z *ℚ inverse (from_ℤ w *ℚ fraction v)) (sym (fraction_product r v) ∙ ≡_ratio (r *ᴿ v) u hu)
      (ring_ℚ 7 (λ r z i u w v j. r :* (z :* i) :- z :* u :* j :- :- (r :* z :* i) :* (w :* v :* j :- 1 # 1) :- r :* z :* v :* j :* (w :* i :- 1 # 1) := z :* j :* (r :* v :- u)) tt
      (fraction r) (from_ℤ z) (inverse (from_ℤ w)) (fraction u) (from_ℤ w) (fraction v) (inverse (from_ℤ w *ℚ fraction v)))))

  -- the whole quotient, against that of the rounded numbers
  pub quotient_near : Near (from_ℤ (quotient z w) *ℚ fraction r) ((from_ℤ z *ℚ fraction u) ÷ℚ (from_ℤ w *ℚ fraction v)) (fraction (r *ᴿ e))
  unfolding y
  quotient_near =
      near_weaken
      (near_eq (ring_ℚ 2 (λ q r. q :* r := r :* q) tt (from_ℤ (quotient z w)) (fraction r)) (sym units)
      (near_scale (fraction r) (nonneg_ratio r hr) (rounds z w w_above)))
      (≤ℚ_eq (sym (fraction_product r e)))

  pub quotient_rounded : (c : Ratio) → Bounded (X ÷ℚ Y) (fraction c) → Rounded (quotient z w) r (X ÷ℚ Y) c (quotient_error e r l c δ ε)
  unfolding m y
  quotient_rounded c hc =
      record {
        size = hc;
        near = near_weaken
            (near_trans quotient_near (near_quotient m_above m_y (≤ℚ_trans l_m lY) hc p.near q.near))
            (≤ℚ_eq
            (sym
            (fraction_sum (r *ᴿ e) ((δ +ᴿ c *ᴿ ε) *ᴿ inverseᴿ (l +ᴿ -ᴿ ε))
            ∙ ap (λ (t : ℚ). fraction (r *ᴿ e) +ℚ t)
            (fraction_product (δ +ᴿ c *ᴿ ε) (inverseᴿ (l +ᴿ -ᴿ ε))
            ∙ ap₂ ◌*ℚ◌ (fraction_sum δ (c *ᴿ ε) ∙ ap (λ (t : ℚ). fraction δ +ℚ t) (fraction_product c ε)) (sym (fraction_inverse (l +ᴿ -ᴿ ε)))))));
      }

  -- with |X / Y| ≤ a / (l - ε)
  pub plain_quotient : Rounded (quotient z w) r (X ÷ℚ Y) (a *ᴿ inverseᴿ (l +ᴿ -ᴿ ε)) (quotient_error e r l (a *ᴿ inverseᴿ (l +ᴿ -ᴿ ε)) δ ε)
  unfolding m
  plain_quotient =
      quotient_rounded (a *ᴿ inverseᴿ (l +ᴿ -ᴿ ε))
      (bounded_weaken (bounded_quotient m_above (≤ℚ_trans l_m lY) p.size)
      (≤ℚ_eq (ap (λ (t : ℚ). fraction a *ℚ t) (fraction_inverse (l +ᴿ -ᴿ ε)) ∙ sym (fraction_product a (inverseᴿ (l +ᴿ -ᴿ ε))))))
