-- A solver for equations of polynomials over any commutative ring, by computation. An expression is brought to a polynomial in its variables, one
-- after the other, whose last coefficients are numbers that compute; an equation holds if all coefficients of the difference of its sides are 0.
-- The solver is `ring`, the last definition: `ring 2 (λ a b. a :* b := b :* a) tt x y`. Nothing here has to be believed. Assumes nothing.
use Rattle.std.specs.Prelude.{◌≡◌, Bool, T}
use Rattle.std.proofs.Math.Path.{refl}
use Rattle.std.proofs.Common.{sym, ◌∙◌, ap, ap₂}
use mathlib.Core.List.{List, [], ◌∷◌}
use Prim.Native.Nat.{ℕ, zero, suc}
use Rattle.ratios.specs.Rings.{CommutativeRing, equal_of_difference}
use Rattle.ratios.specs.Polynomials.{Coefficients, Value, polynomials, ev_p_constant, ev_p_variable, at_variable}

-- ---- expressions and equations, with numbers of the type K

infixl 60 ◌:+◌ ◌:-◌
infixl 70 ◌:*◌
infix 80 :-◌
infix 90 ◌:^◌
infix 50 ◌:=◌
pub data Expression (K : Type 0) : Type 0 where
  var : ℕ → Expression K
  con : K → Expression K
  ◌:+◌ : Expression K → Expression K → Expression K
  ◌:-◌ : Expression K → Expression K → Expression K
  ◌:*◌ : Expression K → Expression K → Expression K
  :-◌ : Expression K → Expression K
  ◌:^◌ : Expression K → ℕ → Expression K

pub data Equation (K : Type 0) : Type 0 where
  ◌:=◌ : Expression K → Expression K → Equation K

abbrev pub left : {K : Type 0} → Equation K → Expression K
left (a := b) = a

abbrev pub right : {K : Type 0} → Equation K → Expression K
right (a := b) = b

-- an equation as a function of its n variables, and the variables numbered from i put in
abbrev pub Of : Type 0 → ℕ → Type 0
Of K zero = Equation K
Of K (suc n) = Expression K → Of K n

abbrev pub numbered : {K : Type 0} (n i : ℕ) → Of K n → Equation K
numbered zero i e = e
numbered (suc n) i f = numbered n (suc i) (f (var i))

-- one · a · a · .. · a
abbrev pub power : {R : Type 0} → R → (R → R → R) → R → ℕ → R
power one mul a zero = one
power one mul a (suc n) = mul (power one mul a n) a

-- ---- values of the variables

abbrev pub value_of : {R : Type 0} → R → List R → ℕ → R
value_of default [] i = default
value_of default (x ∷ xs) zero = x
value_of default (x ∷ xs) (suc i) = value_of default xs i

abbrev pub first : {R : Type 0} → R → List R → R
first default [] = default
first default (x ∷ xs) = x

abbrev pub rest : {R : Type 0} → List R → List R
rest [] = []
rest (x ∷ xs) = xs

abbrev pub and_last : {R : Type 0} → List R → R → List R
and_last [] y = y ∷ []
and_last (x ∷ xs) y = x ∷ and_last xs y

-- ---- an expression's polynomial in n variables

module _ (K : Coefficients) where
  abbrev pub polynomials_in : ℕ → Coefficients
  polynomials_in zero = K
  polynomials_in (suc n) = polynomials (polynomials_in n)

  abbrev pub constant : (n : ℕ) → K.C → (polynomials_in n).C
  constant zero k = k
  constant (suc n) k = constant n k ∷ []

  abbrev pub variable : (n : ℕ) → ℕ → (polynomials_in n).C
  variable zero i = K.none
  variable (suc n) zero = (polynomials_in n).none ∷ (polynomials_in n).unit ∷ []
  variable (suc n) (suc i) = variable n i ∷ []

  abbrev pub polynomial : (n : ℕ) → Expression K.C → (polynomials_in n).C
  polynomial n (var i) = variable n i
  polynomial n (con k) = constant n k
  polynomial n (a :+ b) = (polynomials_in n).add (polynomial n a) (polynomial n b)
  polynomial n (a :- b) = (polynomials_in n).add (polynomial n a) ((polynomials_in n).neg (polynomial n b))
  polynomial n (a :* b) = (polynomials_in n).mul (polynomial n a) (polynomial n b)
  polynomial n (:- a) = (polynomials_in n).neg (polynomial n a)
  polynomial n (a :^ k) = power (polynomials_in n).unit (polynomials_in n).mul (polynomial n a) k

  -- the test of an equation in n variables
  abbrev pub holds : ℕ → Equation K.C → Bool
  holds n e = (polynomials_in n).is_none (polynomial n (left e :- right e))

module _ (A : CommutativeRing) (K : Coefficients) (φ : Value A K) where
  -- what an expression says in the ring
  abbrev pub meaning : Expression K.C → List A.R → A.R
  meaning (var i) xs = value_of A.𝟘 xs i
  meaning (con k) xs = φ.ev k
  meaning (a :+ b) xs = A.add (meaning a xs) (meaning b xs)
  meaning (a :- b) xs = A.add (meaning a xs) (A.neg (meaning b xs))
  meaning (a :* b) xs = A.mul (meaning a xs) (meaning b xs)
  meaning (:- a) xs = A.neg (meaning a xs)
  meaning (a :^ n) xs = power A.𝟙 A.mul (meaning a xs) n

  -- the equation holds for all values of n more variables
  abbrev pub ForAll : ℕ → List A.R → Equation K.C → Type 0
  ForAll zero xs e = meaning (left e) xs ≡ meaning (right e) xs
  ForAll (suc n) xs e = (x : A.R) → ForAll n (and_last xs x) e

  -- the list has as many values as there are variables
  abbrev HasLength : ℕ → List A.R → Type 0
  HasLength zero [] = Unit {0}
  HasLength zero (x ∷ xs) = ⊥
  HasLength (suc n) [] = ⊥
  HasLength (suc n) (x ∷ xs) = HasLength n xs

  -- ---- the value of the polynomial is what the expression says

  values : (n : ℕ) → List A.R → Value A (polynomials_in K n)
  values zero xs = φ
  values (suc n) xs = at_variable A (polynomials_in K n) (values n (rest xs)) (first A.𝟘 xs)

  constant_value : (n : ℕ) (xs : List A.R) (k : K.C) → (values n xs).ev (constant K n k) ≡ φ.ev k
  unfolding values at_variable
  constant_value zero xs k = refl
  constant_value (suc n) xs k =
      ev_p_constant A (polynomials_in K n) (values n (rest xs)) (first A.𝟘 xs) (constant K n k) ∙ constant_value n (rest xs) k

  variable_value : (n : ℕ) (xs : List A.R) → HasLength n xs → (i : ℕ) → (values n xs).ev (variable K n i) ≡ value_of A.𝟘 xs i
  unfolding values at_variable
  variable_value zero [] l i = φ.ev_none
  variable_value zero (x ∷ xs) l i = absurd l
  variable_value (suc n) [] l i = absurd l
  variable_value (suc n) (x ∷ xs) l zero = ev_p_variable A (polynomials_in K n) (values n xs) x
  variable_value (suc n) (x ∷ xs) l (suc i) =
      ev_p_constant A (polynomials_in K n) (values n xs) x (variable K n i) ∙ variable_value n xs l i

  power_value : (n : ℕ) (xs : List A.R) (c : (polynomials_in K n).C) (k : ℕ) →
      (values n xs).ev (power (polynomials_in K n).unit (polynomials_in K n).mul c k) ≡ power A.𝟙 A.mul ((values n xs).ev c) k
  power_value n xs c zero = (values n xs).ev_unit
  power_value n xs c (suc k) =
      (values n xs).ev_mul (power (polynomials_in K n).unit (polynomials_in K n).mul c k) c
      ∙ ap (λ (t : A.R). A.mul t ((values n xs).ev c)) (power_value n xs c k)

  polynomial_value : (n : ℕ) (xs : List A.R) → HasLength n xs → (e : Expression K.C) → (values n xs).ev (polynomial K n e) ≡ meaning e xs
  polynomial_value n xs l (var i) = variable_value n xs l i
  polynomial_value n xs l (con k) = constant_value n xs k
  polynomial_value n xs l (a :+ b) =
      (values n xs).ev_add (polynomial K n a) (polynomial K n b)
      ∙ ap₂ A.add (polynomial_value n xs l a) (polynomial_value n xs l b)
  polynomial_value n xs l (a :- b) =
      (values n xs).ev_add (polynomial K n a) ((polynomials_in K n).neg (polynomial K n b))
      ∙ ap₂ A.add (polynomial_value n xs l a)
      ((values n xs).ev_neg (polynomial K n b) ∙ ap A.neg (polynomial_value n xs l b))
  polynomial_value n xs l (a :* b) =
      (values n xs).ev_mul (polynomial K n a) (polynomial K n b)
      ∙ ap₂ A.mul (polynomial_value n xs l a) (polynomial_value n xs l b)
  polynomial_value n xs l (:- a) = (values n xs).ev_neg (polynomial K n a) ∙ ap A.neg (polynomial_value n xs l a)
  polynomial_value n xs l (a :^ k) =
      power_value n xs (polynomial K n a) k ∙ ap (λ (t : A.R). power A.𝟙 A.mul t k) (polynomial_value n xs l a)

  holds_at : (n : ℕ) (xs : List A.R) → HasLength n xs → (e : Equation K.C) → T (holds K n e) → meaning (left e) xs ≡ meaning (right e) xs
  holds_at n xs l e t =
      equal_of_difference A (meaning (left e) xs) (meaning (right e) xs)
      (sym (polynomial_value n xs l (left e :- right e)) ∙ (values n xs).ev_is_none (polynomial K n (left e :- right e)) t)

  longer : (n : ℕ) (xs : List A.R) (x : A.R) → HasLength n xs → HasLength (suc n) (and_last xs x)
  longer zero [] x l = tt
  longer zero (y ∷ xs) x l = absurd l
  longer (suc n) [] x l = absurd l
  longer (suc n) (y ∷ xs) x l = longer n xs x l

  abbrev pub more : ℕ → ℕ → ℕ
  more zero n = n
  more (suc k) n = more k (suc n)

  holds_for_all : (k n : ℕ) (xs : List A.R) → HasLength n xs → (e : Equation K.C) → T (holds K (more k n) e) → ForAll k xs e
  holds_for_all zero n xs l e t = holds_at n xs l e t
  holds_for_all (suc k) n xs l e t = λ x. holds_for_all k (suc n) (and_last xs x) (longer n xs x l) e t

  -- the equation f of n variables holds at every n values, if its test passes
  pub ring : (n : ℕ) (f : Of K.C n) → T (holds K (more n 0) (numbered n 0 f)) → ForAll n [] (numbered n 0 f)
  ring n f t = holds_for_all n 0 [] tt (numbered n 0 f) t
