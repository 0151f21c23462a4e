-- The order of ℤ (`lib.Signed`) with the laws that the library lacks. `from_gap_ℤ` is the way to an inequality: b - a is a sum of products of numbers
-- that are not below 0. Assumes nothing.
use mathlib.Core.Path.{◌≡◌, refl, sym, ◌∙◌, ap, subst}
use mathlib.Core.Bool.{Bool, true, false, not, cond}
use Prim.Native.Nat.{ℕ, zero, suc, ◌-◌, ◌≤◌, zero-le, suc-le-suc}
use native.Mathlib.Nat.{le_of_suc-le-suc, not-suc-le-zero}
use lib.Dec.{T, leb, ltb, le→leb, leb→le, nltb→le}
use lib.Arith.{le→nltb}
use lib.IntN.{ℤ, pos, negsuc, neg_ℤ, ◌+ℤ◌, ◌-ℤ◌, ◌*ℤ◌, sub_ℕ}
use lib.Signed.{non_neg, lt_z, le_z, ◌≤ℤ◌}
use borrow.Author.Tests.{ltb-true, ltb-false, lt-leb, le-leb}
use Rattle.ratios.specs.Solver.{con, ◌:-◌, ◌:*◌, :-◌, ◌:=◌}
use Rattle.ratios.specs.IntegerSolver.{ring_ℤ}
use Rattle.ratios.proofs.Congruence.{non_neg_mul}

-- ---- the test that a whole number is not below 0

pub non_neg_add : (a b : ℤ) → T (non_neg a) → T (non_neg b) → T (non_neg (a +ℤ b))
non_neg_add (pos a) (pos b) h k = tt
non_neg_add (pos a) (negsuc b) h k = absurd k
non_neg_add (negsuc a) b h k = absurd h

pub non_neg_negate : (z : ℤ) → T (not (non_neg z)) → T (non_neg (neg_ℤ z))
non_neg_negate (pos n) t = absurd t
non_neg_negate (negsuc n) t = tt

pub zero_of_both : (z : ℤ) → T (non_neg z) → T (non_neg (neg_ℤ z)) → z ≡ pos 0
zero_of_both (pos zero) h k = refl
zero_of_both (pos (suc n)) h k = absurd k
zero_of_both (negsuc n) h k = absurd h

-- ---- a ≤ b exactly if b - a is not below 0

false_of : (b : Bool) → T (not b) → b ≡ false
false_of true t = absurd t
false_of false t = refl

sub_non_neg : (a b : ℕ) → b ≤ a → T (non_neg (sub_ℕ a b))
sub_non_neg a b h =
    subst (λ (c : Bool). T (non_neg (cond c (negsuc (b - suc a)) (pos (a - b))))) (sym (false_of (ltb a b) (le→nltb a b h))) tt

non_neg_sub : (a b : ℕ) → T (non_neg (sub_ℕ a b)) → b ≤ a
non_neg_sub a b t = by_test (ltb a b) refl t
  where
    by_test : (c : Bool) → ltb a b ≡ c → T (non_neg (cond c (negsuc (b - suc a)) (pos (a - b)))) → b ≤ a
    by_test true e u = absurd u
    by_test false e u = nltb→le a b (subst (λ (c : Bool). T (not c)) (sym e) tt)

pub gap_test : (a b : ℤ) → T (le_z a b) → T (non_neg (b -ℤ a))
gap_test (pos zero) (pos b) t = tt
gap_test (pos (suc a)) (pos b) t = sub_non_neg b (suc a) (leb→le (suc a) b t)
gap_test (pos a) (negsuc b) t = absurd t
gap_test (negsuc a) (pos b) t = tt
gap_test (negsuc a) (negsuc b) t = sub_non_neg (suc a) (suc b) (suc-le-suc (leb→le b a t))

pub test_gap : (a b : ℤ) → T (non_neg (b -ℤ a)) → T (le_z a b)
test_gap (pos zero) (pos b) t = le→leb zero b zero-le
test_gap (pos (suc a)) (pos b) t = le→leb (suc a) b (non_neg_sub b (suc a) t)
test_gap (pos zero) (negsuc b) t = absurd (not-suc-le-zero (non_neg_sub 0 (suc b) t))
test_gap (pos (suc a)) (negsuc b) t = t
test_gap (negsuc a) (pos b) t = tt
test_gap (negsuc a) (negsuc b) t = le→leb b a (le_of_suc-le-suc (non_neg_sub (suc a) (suc b) t))

-- ---- not below 0, as a record, so that the number can be inferred

pub record NonNegℤ (a : ℤ) : Type 0 where
  pub test : T (non_neg a)

pub nonneg_add_ℤ : {a b : ℤ} → NonNegℤ a → NonNegℤ b → NonNegℤ (a +ℤ b)
nonneg_add_ℤ {a} {b} h k = record { test = non_neg_add a b h.test k.test }

pub nonneg_mul_ℤ : {a b : ℤ} → NonNegℤ a → NonNegℤ b → NonNegℤ (a *ℤ b)
nonneg_mul_ℤ {a} {b} h k = record { test = non_neg_mul a b h.test k.test }

pub gap_ℤ : {a b : ℤ} → a ≤ℤ b → NonNegℤ (b -ℤ a)
gap_ℤ {a} {b} h = record { test = gap_test a b h.le }

pub from_gap_ℤ : {a b e : ℤ} → NonNegℤ e → b -ℤ a ≡ e → a ≤ℤ b
from_gap_ℤ {a} {b} h p = record { le = test_gap a b (subst (λ (z : ℤ). T (non_neg z)) (sym p) h.test) }

-- ---- the order's laws

pub ≤ℤ_antisym : {a b : ℤ} → a ≤ℤ b → b ≤ℤ a → a ≡ b
≤ℤ_antisym {a} {b} h k =
    ring_ℤ 2 (λ a b. a := b :- (b :- a)) tt a b
    ∙ ap (λ (z : ℤ). b -ℤ z)
    (zero_of_both (b -ℤ a) (gap_ℤ h).test
    (subst (λ (z : ℤ). T (non_neg z)) (ring_ℤ 2 (λ a b. a :- b := :- (b :- a)) tt a b) (gap_ℤ k).test))
    ∙ ring_ℤ 1 (λ b. b :- con (pos 0) := b) tt b

pub *ℤ_mono : {a b c : ℤ} → NonNegℤ c → a ≤ℤ b → ◌≤ℤ◌ (a *ℤ c) (b *ℤ c)
*ℤ_mono {a} {b} {c} n h =
    from_gap_ℤ (nonneg_mul_ℤ (gap_ℤ h) n) (ring_ℤ 3 (λ a b c. b :* c :- a :* c := (b :- a) :* c) tt a b c)

-- ---- `b ≤ a` is what `a < b` is not

leb_is : (a b : ℕ) (t : Bool) → ltb a b ≡ t → leb b a ≡ not t
leb_is a b true e = lt-leb b a (ltb-true a b e)
leb_is a b false e = le-leb b a (ltb-false a b e)

pub le_z_is : (a b : ℤ) → le_z b a ≡ not (lt_z a b)
le_z_is (pos a) (pos b) = leb_is a b (ltb a b) refl
le_z_is (pos a) (negsuc b) = refl
le_z_is (negsuc a) (pos b) = refl
le_z_is (negsuc a) (negsuc b) = leb_is b a (ltb b a) refl
