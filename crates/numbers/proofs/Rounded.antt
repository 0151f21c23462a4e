-- The error calculus: what a sheet carries along of a number. `Rounded z u X a ε` says that the whole number z, in units u, stands for the exact
-- value X: |X| ≤ a, and z u is within ε of X. Unit and bounds are ratios, which compute, so each numeric condition of a lemma is answered by
-- `tt`. One lemma for each operation of a sheet. Assumes nothing.
use mathlib.Core.Path.{◌≡◌, refl, sym, ◌∙◌, ap, ap₂, subst}
use mathlib.Core.Bool.{Bool, true, false, cond}
use Prim.Native.Nat.{ℕ}
use lib.Dec.{T, ltb}
use lib.IntN.{ℤ, pos, neg_ℤ, ◌+ℤ◌, ◌-ℤ◌, ◌*ℤ◌}
use lib.Signed.{◌≤ℤ◌}
use Rattle.ratios.specs.Solver.{◌:+◌, ◌:-◌, ◌:*◌, :-◌, ◌:=◌}
use Rattle.ratios.specs.Ratios.{Ratio, ◌over◌, ◌+ᴿ◌, ◌*ᴿ◌, -ᴿ◌, nonnegᴿ}
use Rattle.numbers.proofs.RatioTests.{leᴿ, eqᴿ}
use Rattle.numbers.specs.Fractions.{ℚ, fraction, from_ℤ, ◌+ℚ◌, ◌*ℚ◌, -ℚ◌, ◌-ℚ◌, inverse, ◌≤ℚ◌, abs_ℚ, Near}
use Rattle.numbers.proofs.RoundingErrors.{Rounds}
use Rattle.numbers.proofs.FractionSolver.{ring_ℚ, from_multiple_ℚ, ◌#◌, fraction_sum, fraction_product, fraction_negation}
use Rattle.numbers.proofs.Order.{nonneg_mul, nonneg_ratio, ≤ℚ_ratio, ≡_ratio, ≤ℚ_eq, ≤ℚ_trans, ≤ℚ_antisym, *ℚ_mono}
use Rattle.numbers.proofs.WholeFractions.{nonneg_ℕ, from_ℤ_add, from_ℤ_mul, from_ℤ_neg, from_ℤ_mono}
use Rattle.numbers.proofs.Inverse.{*ℚ_inverse}
use Rattle.numbers.proofs.Bounds.{Bounded, bounded_ratio, bounded_weaken, bounded_add, bounded_neg, bounded_mul, bounded_scale}
use Rattle.numbers.proofs.Near.{near_self, near_weaken, near_eq, near_trans, near_abs, near_add, near_neg, near_mul, near_scale, near_bounded, near_at_least}
use Rattle.numbers.proofs.Quotients.{from_ℤ_above}

pub record Rounded (z : ℤ) (u : Ratio) (X : ℚ) (a ε : Ratio) : Type 0 where
  pub size : Bounded X (fraction a)
  pub near : Near (from_ℤ z *ℚ fraction u) X (fraction ε)

-- |z u - X| ≤ ε, as it is stated at the end
pub rounded_abs : {z : ℤ} {u : Ratio} {X : ℚ} {a ε : Ratio} → Rounded z u X a ε → abs_ℚ (from_ℤ z *ℚ fraction u -ℚ X) ≤ℚ fraction ε
rounded_abs p = near_abs p.near

-- ---- other names of the same: the unit, the exact value, the whole number; and larger bounds

pub in_unit : {z : ℤ} {u : Ratio} {X : ℚ} {a ε : Ratio} (v : Ratio) → T (eqᴿ u v) → Rounded z u X a ε → Rounded z v X a ε
in_unit {z} {u} v t p =
    record { size = p.size; near = near_eq (ap (λ (k : ℚ). from_ℤ z *ℚ k) (sym (≡_ratio u v t))) refl p.near }

pub of_value : {z : ℤ} {u : Ratio} {X Y : ℚ} {a ε : Ratio} → X ≡ Y → Rounded z u X a ε → Rounded z u Y a ε
of_value {z} {u} {X} {Y} {a} {ε} p b = subst (λ Z. Rounded z u Z a ε) p b

pub of_whole : {z w : ℤ} {u : Ratio} {X : ℚ} {a ε : Ratio} → z ≡ w → Rounded z u X a ε → Rounded w u X a ε
of_whole {z} {w} {u} {X} {a} {ε} p b = subst (λ t. Rounded t u X a ε) p b

pub sized : {z : ℤ} {u : Ratio} {X : ℚ} {b ε : Ratio} (a : Ratio) → Bounded X (fraction a) → Rounded z u X b ε → Rounded z u X a ε
sized a b p = record { size = b; near = p.near }

pub weaken : {z : ℤ} {u v : Ratio} {X : ℚ} {a b δ ε : Ratio} → T (eqᴿ u v) → T (leᴿ a b) → T (leᴿ δ ε) → Rounded z u X a δ → Rounded z v X b ε
weaken {u = u} {v = v} {a = a} {b = b} {δ = δ} {ε = ε} s t r p =
    let q = in_unit v s p in
    record { size = bounded_weaken q.size (≤ℚ_ratio a b t); near = near_weaken q.near (≤ℚ_ratio δ ε r) }

-- ---- exact numbers: any, a literal, and one in a range

pub exact : (z : ℤ) (u a : Ratio) → Bounded (from_ℤ z *ℚ fraction u) (fraction a) → Rounded z u (from_ℤ z *ℚ fraction u) a (0 over 1)
exact z u a b = record { size = b; near = near_self (from_ℤ z *ℚ fraction u) }

abbrev pub wholeᴿ : ℤ → Ratio
wholeᴿ z = record { numerator = z; denominator_minus_1 = 0 }

pub literal : (z : ℤ) (u x a : Ratio) → T (eqᴿ (wholeᴿ z *ᴿ u) x) → T (leᴿ (-ᴿ a) x) → T (leᴿ x a) → Rounded z u (fraction x) a (0 over 1)
literal z u x a e l h =
    record {
      size = bounded_ratio x a l h;
      near = near_eq (sym (fraction_product (wholeᴿ z) u) ∙ ≡_ratio (wholeᴿ z *ᴿ u) x e) refl (near_self (fraction x));
    }

-- l ≤ z ≤ h
pub in_range_lem : (z l h : ℤ) (u a : Ratio) → l ≤ℤ z → z ≤ℤ h → T (nonnegᴿ u) → T (leᴿ (-ᴿ a) (wholeᴿ l *ᴿ u)) → T (leᴿ (wholeᴿ h *ᴿ u) a) → Rounded z u (from_ℤ z *ℚ fraction u) a (0 over 1)
in_range_lem z l h u a p q hu tl th =
    exact z u a
    (record {
      low = ≤ℚ_trans (≤ℚ_eq (sym (fraction_negation a)))
          (≤ℚ_trans (≤ℚ_ratio (-ᴿ a) (wholeᴿ l *ᴿ u) tl)
          (≤ℚ_trans (≤ℚ_eq (fraction_product (wholeᴿ l) u)) (*ℚ_mono (nonneg_ratio u hu) (from_ℤ_mono p))));
      high = ≤ℚ_trans (*ℚ_mono (nonneg_ratio u hu) (from_ℤ_mono q))
          (≤ℚ_trans (≤ℚ_eq (sym (fraction_product (wholeᴿ h) u))) (≤ℚ_ratio (wholeᴿ h *ᴿ u) a th));
    })

-- no error: equal
pub exact_is : {z : ℤ} {u : Ratio} {X : ℚ} {a : Ratio} → Rounded z u X a (0 over 1) → from_ℤ z *ℚ fraction u ≡ X
exact_is {z} {u} {X} p =
    ring_ℚ 2 (λ x y. x := x :- y :+ y) tt (from_ℤ z *ℚ fraction u) X
    ∙ ap (λ (t : ℚ). t +ℚ X) (≤ℚ_antisym p.near.high (≤ℚ_trans (≤ℚ_eq (fraction_negation (0 over 1))) p.near.low))
    ∙ ring_ℚ 1 (λ x. 0 # 1 :+ x := x) tt X

-- ---- sum, difference, product

pub sum : {z w : ℤ} {u : Ratio} {X Y : ℚ} {a b δ ε : Ratio} → Rounded z u X a δ → Rounded w u Y b ε → Rounded (z +ℤ w) u (X +ℚ Y) (a +ᴿ b) (δ +ᴿ ε)
sum {z} {w} {u} {X} {Y} {a} {b} {δ} {ε} p q =
    record {
      size = bounded_weaken (bounded_add p.size q.size) (≤ℚ_eq (sym (fraction_sum a b)));
      near = near_weaken
          (near_eq
          (ap (λ (k : ℚ). k *ℚ fraction u) (from_ℤ_add z w) ∙ ring_ℚ 3 (λ z w u. (z :+ w) :* u := z :* u :+ w :* u) tt (from_ℤ z) (from_ℤ w) (fraction u))
          refl (near_add p.near q.near)) (≤ℚ_eq (sym (fraction_sum δ ε)));
    }

pub negative : {z : ℤ} {u : Ratio} {X : ℚ} {a ε : Ratio} → Rounded z u X a ε → Rounded (neg_ℤ z) u (-ℚ X) a ε
negative {z} {u} p =
    record {
      size = bounded_neg p.size;
      near = near_eq
          (ap (λ (k : ℚ). k *ℚ fraction u) (from_ℤ_neg z) ∙ ring_ℚ 2 (λ z u. :- z :* u := :- (z :* u)) tt (from_ℤ z) (fraction u)) refl
          (near_neg p.near);
    }

pub difference : {z w : ℤ} {u : Ratio} {X Y : ℚ} {a b δ ε : Ratio} → Rounded z u X a δ → Rounded w u Y b ε → Rounded (z -ℤ w) u (X -ℚ Y) (a +ᴿ b) (δ +ᴿ ε)
difference p q = sum p (negative q)

-- zw - XY = z (w - Y) + (z - X) Y
abbrev pub product_error : Ratio → Ratio → Ratio → Ratio → Ratio
product_error a b δ ε = (a +ᴿ δ) *ᴿ ε +ᴿ δ *ᴿ b

pub product : {z w : ℤ} {u v : Ratio} {X Y : ℚ} {a b δ ε : Ratio} → Rounded z u X a δ → Rounded w v Y b ε →
    Rounded (z *ℤ w) (u *ᴿ v) (X *ℚ Y) (a *ᴿ b) (product_error a b δ ε)
product {z} {w} {u} {v} {X} {Y} {a} {b} {δ} {ε} p q =
    record {
      size = bounded_weaken (bounded_mul p.size q.size) (≤ℚ_eq (sym (fraction_product a b)));
      near = near_weaken
          (near_eq
          (ap₂ ◌*ℚ◌ (from_ℤ_mul z w) (fraction_product u v)
          ∙ ring_ℚ 4 (λ z w u v. z :* w :* (u :* v) := z :* u :* (w :* v)) tt (from_ℤ z) (from_ℤ w) (fraction u) (fraction v))
          refl (near_mul (near_bounded p.size p.near) q.size p.near q.near))
          (≤ℚ_eq
          (sym
          (fraction_sum ((a +ᴿ δ) *ᴿ ε) (δ *ᴿ b)
          ∙ ap₂ ◌+ℚ◌ (fraction_product (a +ᴿ δ) ε ∙ ap (λ (k : ℚ). k *ℚ fraction ε) (fraction_sum a δ)) (fraction_product δ b))));
    }

-- ---- exact multiples: of the number, of the unit, and k of a unit that is a k-th

pub multiple : {z : ℤ} {u : Ratio} {X : ℚ} {a ε : Ratio} (k : ℕ) → Rounded z u X a ε →
    Rounded (pos k *ℤ z) u (from_ℤ (pos k) *ℚ X) ((k over 1) *ᴿ a) ((k over 1) *ᴿ ε)
multiple {z} {u} {X} {a} {ε} k p =
    record {
      size = bounded_weaken (bounded_scale (from_ℤ (pos k)) (nonneg_ℕ k) p.size) (≤ℚ_eq (sym (fraction_product (k over 1) a)));
      near = near_weaken
          (near_eq
          (ap (λ (t : ℚ). t *ℚ fraction u) (from_ℤ_mul (pos k) z)
          ∙ ring_ℚ 3 (λ k z u. k :* z :* u := k :* (z :* u)) tt (from_ℤ (pos k)) (from_ℤ z) (fraction u))
          refl (near_scale (from_ℤ (pos k)) (nonneg_ℕ k) p.near))
          (≤ℚ_eq (sym (fraction_product (k over 1) ε)));
    }

pub scaled : {z : ℤ} {u : Ratio} {X : ℚ} {a ε : Ratio} (c : Ratio) → T (nonnegᴿ c) → Rounded z u X a ε →
    Rounded z (c *ᴿ u) (fraction c *ℚ X) (c *ᴿ a) (c *ᴿ ε)
scaled {z} {u} {X} {a} {ε} c hc p =
    record {
      size = bounded_weaken (bounded_scale (fraction c) (nonneg_ratio c hc) p.size) (≤ℚ_eq (sym (fraction_product c a)));
      near = near_weaken
          (near_eq
          (ap (λ (t : ℚ). from_ℤ z *ℚ t) (fraction_product c u)
          ∙ ring_ℚ 3 (λ z c u. z :* (c :* u) := c :* (z :* u)) tt (from_ℤ z) (fraction c) (fraction u))
          refl (near_scale (fraction c) (nonneg_ratio c hc) p.near))
          (≤ℚ_eq (sym (fraction_product c ε)));
    }

-- ---- a whole quotient by a number d: `divided rounds_down 10`. The unit is d times as large; the rounding adds its error in that unit

pub divided : {quotient : ℤ → ℤ → ℤ} {e : Ratio} {z : ℤ} {u : Ratio} {X : ℚ} {a ε : Ratio} → Rounds quotient e → (d : ℕ) → T (ltb 0 d) → T (nonnegᴿ u) → Rounded z u X a ε →
    Rounded (quotient z (pos d)) ((d over 1) *ᴿ u) X a ((d over 1) *ᴿ u *ᴿ e +ᴿ ε)
divided {quotient} {e} {z} {u} {X} {a} {ε} rounds d hd hu p =
    record {
      size = p.size;
      near = near_weaken
          (near_trans
          (near_eq
          (ap (λ (t : ℚ). q *ℚ t) (fraction_product (d over 1) u)
          ∙ ring_ℚ 3 (λ q d u. q :* (d :* u) := d :* u :* q) tt q (from_ℤ (pos d)) (fraction u))
          refl (near_scale (from_ℤ (pos d) *ℚ fraction u) (nonneg_mul (nonneg_ℕ d) (nonneg_ratio u hu)) (rounds z (pos d) (record { lt = hd }))))
          (near_eq
          (from_multiple_ℚ (fraction u *ℚ from_ℤ z) (*ℚ_inverse (from_ℤ_above (record { lt = hd })))
          (ring_ℚ 4 (λ d u z i. d :* u :* (z :* i) :- z :* u := u :* z :* (d :* i :- 1 # 1)) tt (from_ℤ (pos d)) (fraction u) (from_ℤ z)
          (inverse (from_ℤ (pos d)))))
          refl p.near))
          (≤ℚ_eq
          (sym
          (fraction_sum ((d over 1) *ᴿ u *ᴿ e) ε
          ∙ ap (λ (t : ℚ). t +ℚ fraction ε) (fraction_product ((d over 1) *ᴿ u) e ∙ ap (λ (t : ℚ). t *ℚ fraction e) (fraction_product (d over 1) u)))));
    }
  where
    q : ℚ
    q = from_ℤ (quotient z (pos d))

-- n z / d: the unit stays
pub portion : {quotient : ℤ → ℤ → ℤ} {e : Ratio} {z : ℤ} {u : Ratio} {X : ℚ} {a ε : Ratio} → Rounds quotient e → (n d : ℕ) → T (ltb 0 d) → T (nonnegᴿ u) → Rounded z u X a ε →
    Rounded (quotient (pos n *ℤ z) (pos d)) ((1 over d) *ᴿ ((d over 1) *ᴿ u)) (fraction (1 over d) *ℚ (from_ℤ (pos n) *ℚ X)) ((1 over d) *ᴿ ((n over 1) *ᴿ a))
    ((1 over d) *ᴿ ((d over 1) *ᴿ u *ᴿ e +ᴿ (n over 1) *ᴿ ε))
portion rounds n d hd hu p = scaled (1 over d) tt (divided rounds d hd hu (multiple n p))

-- ---- from below, and a choice

pub at_least : {z : ℤ} {u : Ratio} {X : ℚ} {a ε : Ratio} (l m : Ratio) → T (leᴿ (m +ᴿ ε) l) → fraction l ≤ℚ X → Rounded z u X a ε → fraction m ≤ℚ from_ℤ z *ℚ fraction u
at_least {ε = ε} l m t h p = near_at_least (≤ℚ_trans (≤ℚ_eq (sym (fraction_sum m ε))) (≤ℚ_ratio (m +ᴿ ε) l t)) h p.near

-- one choice, made for the whole numbers and for the exact values alike
pub chosen : {z w : ℤ} {u : Ratio} {X Y : ℚ} {a ε : Ratio} (b c : Bool) → b ≡ c → Rounded z u X a ε → Rounded w u Y a ε → Rounded (cond b z w) u (cond c X Y) a ε
chosen {z} {w} {u} {X} {Y} {a} {ε} b c e p q = subst (λ (c : Bool). Rounded (cond b z w) u (cond c X Y) a ε) e (by_test b)
  where
    by_test : (b : Bool) → Rounded (cond b z w) u (cond b X Y) a ε
    by_test true = p
    by_test false = q
