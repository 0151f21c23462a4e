-- What the operations and the tests of ratios make of two ratios that are one fraction: they see the fraction alone. Fractions.antt needs this
-- to be well formed; nothing here has to be believed. Assumes nothing.
use Rattle.std.specs.Prelude.{◌≡◌, refl, Bool, true, false, ℕ, zero, suc, ◌*◌, T, ℤ, pos, negsuc, neg_ℤ, ◌*ℤ◌}
use Rattle.std.proofs.Common.{sym, ◌∙◌, ap, subst, suc-mul, add-suc, mul_comm, zero-mul, arith}
use Rattle.std.specs.Int.Signed.{non_neg}
use Rattle.ratios.specs.Solver.{con, ◌:+◌, ◌:-◌, ◌:*◌, :-◌, ◌:=◌}
use Rattle.ratios.specs.IntegerSolver.{ring_ℤ, from_multiple_ℤ}
use Rattle.ratios.specs.Ratios.{Ratio, denominator, product_minus_1, ◌+ᴿ◌, ◌*ᴿ◌, -ᴿ◌, reciprocal, inverseᴿ, Same, nonnegᴿ}

pub product_suc : (m n : ℕ) → suc (product_minus_1 m n) ≡ suc m * suc n
product_suc m n = sym (suc-mul m (suc n) ∙ add-suc (m * suc n) n)

-- ---- the operations

pub sum_right : (a b c : Ratio) → Same b c → Same (a +ᴿ b) (a +ᴿ c)
sum_right a b c h =
    simp product_suc
    (from_multiple_ℤ (denominator a *ℤ denominator a) h
    (ring_ℤ 6 (λ p q m u n v. (p :* u :+ m :* q) :* (q :* v) :- (p :* v :+ n :* q) :* (q :* u) := q :* q :* (m :* v :- n :* u)) tt
    a.numerator (denominator a) b.numerator (denominator b) c.numerator (denominator c)))

pub sum_left : (a b c : Ratio) → Same a b → Same (a +ᴿ c) (b +ᴿ c)
sum_left a b c h =
    simp product_suc
    (from_multiple_ℤ (denominator c *ℤ denominator c) h
    (ring_ℤ 6 (λ p q m u n v. (m :* q :+ p :* u) :* (v :* q) :- (n :* q :+ p :* v) :* (u :* q) := q :* q :* (m :* v :- n :* u)) tt
    c.numerator (denominator c) a.numerator (denominator a) b.numerator (denominator b)))

pub product_right : (a b c : Ratio) → Same b c → Same (a *ᴿ b) (a *ᴿ c)
product_right a b c h =
    simp product_suc
    (from_multiple_ℤ (a.numerator *ℤ denominator a) h
    (ring_ℤ 6 (λ p q m u n v. (p :* m) :* (q :* v) :- (p :* n) :* (q :* u) := p :* q :* (m :* v :- n :* u)) tt
    a.numerator (denominator a) b.numerator (denominator b) c.numerator (denominator c)))

pub product_left : (a b c : Ratio) → Same a b → Same (a *ᴿ c) (b *ᴿ c)
product_left a b c h =
    simp product_suc
    (from_multiple_ℤ (c.numerator *ℤ denominator c) h
    (ring_ℤ 6 (λ p q m u n v. (m :* p) :* (v :* q) :- (n :* p) :* (u :* q) := p :* q :* (m :* v :- n :* u)) tt
    c.numerator (denominator c) a.numerator (denominator a) b.numerator (denominator b)))

pub negation : (a b : Ratio) → Same a b → Same (-ᴿ a) (-ᴿ b)
negation a b h =
    from_multiple_ℤ (negsuc 0) h
    (ring_ℤ 4 (λ m u n v. (:- m) :* v :- (:- n) :* u := con (negsuc 0) :* (m :* v :- n :* u)) tt
    a.numerator (denominator a) b.numerator (denominator b))

-- ---- the test that a ratio is not below 0

pub non_neg_mul : (a b : ℤ) → T (non_neg a) → T (non_neg b) → T (non_neg (a *ℤ b))
non_neg_mul (pos a) (pos b) h k = tt
non_neg_mul (pos a) (negsuc b) h k = absurd k
non_neg_mul (negsuc a) b h k = absurd h

non_neg_cancel : (a : ℤ) (d : ℕ) → T (non_neg (a *ℤ pos (suc d))) → T (non_neg a)
non_neg_cancel (pos a) d h = tt
non_neg_cancel (negsuc a) d h = subst (λ (m : ℕ). T (non_neg (neg_ℤ (pos m)))) (sym (product_suc a d)) h

pub bool_equal : (a b : Bool) → (T a → T b) → (T b → T a) → a ≡ b
bool_equal true true f g = refl
bool_equal true false f g = absurd (f tt)
bool_equal false true f g = absurd (g tt)
bool_equal false false f g = refl

nonneg_to : (a b : Ratio) → Same a b → T (nonnegᴿ a) → T (nonnegᴿ b)
nonneg_to a b h t =
    non_neg_cancel b.numerator a.denominator_minus_1 (subst (λ (z : ℤ). T (non_neg z)) h (non_neg_mul a.numerator (denominator b) t tt))

pub nonneg_same : (a b : Ratio) → Same a b → nonnegᴿ a ≡ nonnegᴿ b
nonneg_same a b h = bool_equal (nonnegᴿ a) (nonnegᴿ b) (nonneg_to a b h) (nonneg_to b a (sym h))

-- ---- the inverse

sign : ℤ → ℕ
sign (pos zero) = 0
sign (pos (suc n)) = 1
sign (negsuc n) = 2

sign_mul : (z : ℤ) (d : ℕ) → sign (z *ℤ pos (suc d)) ≡ sign z
unfolding sign
sign_mul (pos zero) d = ap (λ (m : ℕ). sign (pos m)) (zero-mul (suc d))
sign_mul (pos (suc n)) d = ap (λ (m : ℕ). sign (pos m)) (sym (product_suc n d))
sign_mul (negsuc n) d = ap (λ (m : ℕ). sign (neg_ℤ (pos m))) (sym (product_suc n d))

reciprocal_same : (y z : ℤ) (c d : ℕ) → y *ℤ pos (suc d) ≡ z *ℤ pos (suc c) → sign y ≡ sign z → Same (reciprocal y c) (reciprocal z d)
unfolding sign
reciprocal_same (pos zero) (pos zero) c d h s = refl
reciprocal_same (pos zero) (pos (suc n)) c d h s = absurd (omega arith)
reciprocal_same (pos zero) (negsuc n) c d h s = absurd (omega arith)
reciprocal_same (pos (suc m)) (pos zero) c d h s = absurd (omega arith)
reciprocal_same (pos (suc m)) (pos (suc n)) c d h s =
    ap pos (mul_comm (suc c) (suc n)) ∙ sym h ∙ ap pos (mul_comm (suc m) (suc d))
reciprocal_same (pos (suc m)) (negsuc n) c d h s = absurd (omega arith)
reciprocal_same (negsuc m) (pos zero) c d h s = absurd (omega arith)
reciprocal_same (negsuc m) (pos (suc n)) c d h s = absurd (omega arith)
reciprocal_same (negsuc m) (negsuc n) c d h s =
    ap (λ (t : ℕ). neg_ℤ (pos t)) (mul_comm (suc c) (suc n)) ∙ sym h ∙ ap (λ (t : ℕ). neg_ℤ (pos t)) (mul_comm (suc m) (suc d))

pub inverse_same : (a b : Ratio) → Same a b → Same (inverseᴿ a) (inverseᴿ b)
inverse_same a b h =
    reciprocal_same a.numerator b.numerator a.denominator_minus_1 b.denominator_minus_1 h
    (sym (sign_mul a.numerator b.denominator_minus_1) ∙ ap sign h ∙ sign_mul b.numerator a.denominator_minus_1)
