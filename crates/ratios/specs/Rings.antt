-- Commutative rings, and the few laws of theirs that the solver needs. Nothing here has to be believed.
-- Assumes nothing.
use Rattle.std.specs.Prelude.{◌≡◌}
use Rattle.std.proofs.Common.{sym, ◌∙◌, ap, ap₂}

pub record CommutativeRing : Type 1 where
  pub R : Type 0
  pub 𝟘 : R
  pub 𝟙 : R
  pub add : R → R → R
  pub mul : R → R → R
  pub neg : R → R
  pub add_assoc : (a b c : R) → add (add a b) c ≡ add a (add b c)
  pub add_comm : (a b : R) → add a b ≡ add b a
  pub add_zero : (a : R) → add a 𝟘 ≡ a
  pub add_neg : (a : R) → add a (neg a) ≡ 𝟘
  pub mul_assoc : (a b c : R) → mul (mul a b) c ≡ mul a (mul b c)
  pub mul_comm : (a b : R) → mul a b ≡ mul b a
  pub mul_one : (a : R) → mul a 𝟙 ≡ a
  pub mul_add : (a b c : R) → mul a (add b c) ≡ add (mul a b) (mul a c)

module _ (A : CommutativeRing) where
  open A use {R, 𝟘, add, mul, neg, add_assoc, add_comm, add_zero, add_neg, mul_assoc, mul_comm, mul_add}

  pub zero_add : (a : R) → add 𝟘 a ≡ a
  zero_add a = add_comm 𝟘 a ∙ add_zero a

  -- (a + b) + (c + d) = (a + c) + (b + d)
  pub add_swap : (a b c d : R) → add (add a b) (add c d) ≡ add (add a c) (add b d)
  add_swap a b c d =
      add_assoc a b (add c d)
      ∙ ap (add a) (sym (add_assoc b c d) ∙ ap (λ (x : R). add x d) (add_comm b c) ∙ add_assoc c b d)
      ∙ sym (add_assoc a c (add b d))

  cancel : (a b : R) → add a b ≡ 𝟘 → b ≡ neg a
  cancel a b h =
      sym (zero_add b)
      ∙ ap (λ (x : R). add x b) (sym (add_neg a) ∙ add_comm a (neg a))
      ∙ add_assoc (neg a) a b
      ∙ ap (add (neg a)) h
      ∙ add_zero (neg a)

  pub mul_zero : (a : R) → mul a 𝟘 ≡ 𝟘
  mul_zero a =
      sym (add_zero (mul a 𝟘))
      ∙ ap (add (mul a 𝟘)) (sym (add_neg (mul a 𝟘)))
      ∙ sym (add_assoc (mul a 𝟘) (mul a 𝟘) (neg (mul a 𝟘)))
      ∙ ap (λ (x : R). add x (neg (mul a 𝟘))) (sym (mul_add a 𝟘 𝟘) ∙ ap (mul a) (add_zero 𝟘))
      ∙ add_neg (mul a 𝟘)

  pub mul_neg : (a b : R) → mul a (neg b) ≡ neg (mul a b)
  mul_neg a b = cancel (mul a b) (mul a (neg b)) (sym (mul_add a b (neg b)) ∙ ap (mul a) (add_neg b) ∙ mul_zero a)

  pub neg_zero : neg 𝟘 ≡ 𝟘
  neg_zero = sym (cancel 𝟘 𝟘 (add_zero 𝟘))

  pub neg_add : (a b : R) → neg (add a b) ≡ add (neg a) (neg b)
  neg_add a b =
      sym
      (cancel (add a b) (add (neg a) (neg b))
      (add_swap a b (neg a) (neg b) ∙ ap₂ add (add_neg a) (add_neg b) ∙ add_zero 𝟘))

  -- a (b c) = b (a c)
  pub mul_left_comm : (a b c : R) → mul a (mul b c) ≡ mul b (mul a c)
  mul_left_comm a b c = sym (mul_assoc a b c) ∙ ap (λ (t : R). mul t c) (mul_comm a b) ∙ mul_assoc b a c

  pub add_mul : (a b c : R) → mul (add a b) c ≡ add (mul a c) (mul b c)
  add_mul a b c = mul_comm (add a b) c ∙ mul_add c a b ∙ ap₂ add (mul_comm c a) (mul_comm c b)

  -- equal, if the difference is 0
  pub equal_of_difference : (a b : R) → add a (neg b) ≡ 𝟘 → a ≡ b
  equal_of_difference a b h =
      sym (add_zero a)
      ∙ ap (add a) (sym (add_neg b) ∙ add_comm b (neg b))
      ∙ sym (add_assoc a (neg b) b)
      ∙ ap (λ (x : R). add x b) h
      ∙ zero_add b

  -- an equation a = b from another, l = r, of which it is a multiple: a - b = k (l - r)
  pub from_multiple : (k l r a b : R) → l ≡ r → add a (neg b) ≡ mul k (add l (neg r)) → a ≡ b
  from_multiple k l r a b h e =
      equal_of_difference a b (e ∙ ap (mul k) (ap (λ (t : R). add l (neg t)) (sym h) ∙ add_neg l) ∙ mul_zero k)
