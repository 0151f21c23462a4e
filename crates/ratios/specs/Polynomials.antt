-- Polynomials in one variable more: the list of a polynomial's coefficients, lowest power first, and its value at a ring's element. Nothing here
-- has to be believed. Assumes nothing.
use Rattle.std.specs.Prelude.{◌≡◌, Bool, true, false, T}
use Rattle.std.proofs.Math.Path.{refl, sym, ap, ap₂}
use Rattle.std.proofs.Common.{◌∙◌}
use mathlib.Core.List.{List, [], ◌∷◌}
use Rattle.ratios.specs.Rings.{CommutativeRing, zero_add, add_swap, mul_zero, mul_neg, neg_zero, neg_add, mul_left_comm, add_mul}

-- numbers that compute
pub record Coefficients : Type 1 where
  pub C : Type 0
  pub none : C
  pub unit : C
  pub add : C → C → C
  pub mul : C → C → C
  pub neg : C → C
  pub is_none : C → Bool

-- what they stand for in a ring
pub record Value (A : CommutativeRing) (K : Coefficients) : Type 0 where
  pub ev : K.C → A.R
  pub ev_none : ev K.none ≡ A.𝟘
  pub ev_unit : ev K.unit ≡ A.𝟙
  pub ev_add : (a b : K.C) → ev (K.add a b) ≡ A.add (ev a) (ev b)
  pub ev_mul : (a b : K.C) → ev (K.mul a b) ≡ A.mul (ev a) (ev b)
  pub ev_neg : (a : K.C) → ev (K.neg a) ≡ A.neg (ev a)
  pub ev_is_none : (a : K.C) → T (K.is_none a) → ev a ≡ A.𝟘

abbrev pub and : Bool → Bool → Bool
and true b = b
and false b = false

and_left : (a b : Bool) → T (and a b) → T a
and_left true b t = tt
and_left false b t = t

and_right : (a b : Bool) → T (and a b) → T b
and_right true b t = t
and_right false b t = absurd t

module _ (K : Coefficients) where
  open K use {C, none, unit, add, mul, neg, is_none}

  abbrev pub add_p : List C → List C → List C
  add_p [] q = q
  add_p (a ∷ p) [] = a ∷ p
  add_p (a ∷ p) (b ∷ q) = add a b ∷ add_p p q

  abbrev pub scale_p : C → List C → List C
  scale_p a [] = []
  scale_p a (b ∷ q) = mul a b ∷ scale_p a q

  abbrev pub mul_p : List C → List C → List C
  mul_p [] q = []
  mul_p (a ∷ p) q = add_p (scale_p a q) (none ∷ mul_p p q)

  abbrev pub neg_p : List C → List C
  neg_p [] = []
  neg_p (a ∷ p) = neg a ∷ neg_p p

  abbrev pub is_none_p : List C → Bool
  is_none_p [] = true
  is_none_p (a ∷ p) = and (is_none a) (is_none_p p)

  abbrev pub polynomials : Coefficients
  polynomials = record { C = List C; none = []; unit = unit ∷ []; add = add_p; mul = mul_p; neg = neg_p; is_none = is_none_p }

module _ (A : CommutativeRing) (K : Coefficients) (h : Value A K) (x : A.R) where
  open A use {R, 𝟘, add, mul, neg, add_zero, mul_assoc, mul_comm, mul_one, mul_add}
  open K use {C}
  open h use {ev, ev_none, ev_unit, ev_add, ev_mul, ev_neg, ev_is_none}

  -- a + x (b + x (c + ..))
  unfoldable pub ev_p : List C → R
  ev_p [] = 𝟘
  ev_p (a ∷ p) = add (ev a) (mul x (ev_p p))

  pub ev_p_add : (p q : List C) → ev_p (add_p K p q) ≡ add (ev_p p) (ev_p q)
  unfolding ev_p
  ev_p_add [] q = sym (zero_add A (ev_p q))
  ev_p_add (a ∷ p) [] = sym (add_zero (ev_p (a ∷ p)))
  ev_p_add (a ∷ p) (b ∷ q) =
      ap₂ add (ev_add a b) (ap (mul x) (ev_p_add p q) ∙ mul_add x (ev_p p) (ev_p q))
      ∙ add_swap A (ev a) (ev b) (mul x (ev_p p)) (mul x (ev_p q))

  ev_p_scale : (a : C) (q : List C) → ev_p (scale_p K a q) ≡ mul (ev a) (ev_p q)
  unfolding ev_p
  ev_p_scale a [] = sym (mul_zero A (ev a))
  ev_p_scale a (b ∷ q) =
      ap₂ add (ev_mul a b) (ap (mul x) (ev_p_scale a q) ∙ mul_left_comm A x (ev a) (ev_p q))
      ∙ sym (mul_add (ev a) (ev b) (mul x (ev_p q)))

  pub ev_p_mul : (p q : List C) → ev_p (mul_p K p q) ≡ mul (ev_p p) (ev_p q)
  unfolding ev_p
  ev_p_mul [] q = sym (mul_comm 𝟘 (ev_p q) ∙ mul_zero A (ev_p q))
  ev_p_mul (a ∷ p) q =
      ev_p_add (scale_p K a q) (K.none ∷ mul_p K p q)
      ∙ ap₂ add (ev_p_scale a q)
      (ap₂ add ev_none (ap (mul x) (ev_p_mul p q)) ∙ zero_add A (mul x (mul (ev_p p) (ev_p q))) ∙ sym (mul_assoc x (ev_p p) (ev_p q)))
      ∙ sym (add_mul A (ev a) (mul x (ev_p p)) (ev_p q))

  pub ev_p_neg : (p : List C) → ev_p (neg_p K p) ≡ neg (ev_p p)
  unfolding ev_p
  ev_p_neg [] = sym (neg_zero A)
  ev_p_neg (a ∷ p) =
      ap₂ add (ev_neg a) (ap (mul x) (ev_p_neg p) ∙ mul_neg A x (ev_p p)) ∙ sym (neg_add A (ev a) (mul x (ev_p p)))

  pub ev_p_is_none : (p : List C) → T (is_none_p K p) → ev_p p ≡ 𝟘
  unfolding ev_p
  ev_p_is_none [] t = refl
  ev_p_is_none (a ∷ p) t =
      ap₂ add (ev_is_none a (and_left (K.is_none a) (is_none_p K p) t))
      (ap (mul x) (ev_p_is_none p (and_right (K.is_none a) (is_none_p K p) t)) ∙ mul_zero A x)
      ∙ add_zero 𝟘

  -- the values of a constant, and of the variable
  pub ev_p_constant : (a : C) → ev_p (a ∷ []) ≡ ev a
  unfolding ev_p
  ev_p_constant a = ap (add (ev a)) (mul_zero A x) ∙ add_zero (ev a)

  pub ev_p_variable : ev_p (K.none ∷ K.unit ∷ []) ≡ x
  unfolding ev_p
  ev_p_variable = ap₂ add ev_none (ap (mul x) (ev_p_constant K.unit ∙ ev_unit) ∙ mul_one x) ∙ zero_add A x

  unfoldable pub at_variable : Value A (polynomials K)
  unfolding ev_p
  at_variable =
      record {
        ev = ev_p;
        ev_none = refl;
        ev_unit = ev_p_constant K.unit ∙ ev_unit;
        ev_add = ev_p_add;
        ev_mul = ev_p_mul;
        ev_neg = ev_p_neg;
        ev_is_none = ev_p_is_none;
      }
