-- The fractions ℚ, as statements cite them: + - × ÷ ≤ < and the absolute value. Two ratios are one fraction if cross multiplication says so;
-- `≡` is then true equality. proofs/CrossMultiplication.antt proves that ≡ and ≤ of two fractions are cross multiplication. Assumes nothing.
use Rattle.std.specs.Prelude.{◌≡◌, Bool, not, cond, ℕ, T, ℤ, pos}
use Rattle.std.proofs.Math.Bool.{Bool-set}
use mathlib.Core.Quot.{Quot, mk, sound, Quot-set, lift, ind}
use Rattle.ratios.specs.Solver.{power}
use Rattle.ratios.specs.Ratios.{Ratio, ◌over◌, ◌+ᴿ◌, ◌*ᴿ◌, -ᴿ◌, inverseᴿ, Same, nonnegᴿ}
use Rattle.ratios.proofs.Congruence.{sum_right, sum_left, product_right, product_left, negation, nonneg_same, inverse_same}

infix 5 ◌≤ℚ◌ ◌<ℚ◌
infixl 6 ◌+ℚ◌ ◌-ℚ◌
infixl 7 ◌*ℚ◌ ◌÷ℚ◌
infix 8 -ℚ◌ ◌^ℚ◌
infix 94 ◌/ℚ◌
abbrev pub ℚ : Type 0
ℚ = Quot Same

-- the fraction that a ratio is
abbrev pub fraction : Ratio → ℚ
fraction a = mk a

-- n / d, for d from 1 on; and a whole number
abbrev pub ◌/ℚ◌ : ℕ → ℕ → ℚ
n /ℚ d = fraction (n over d)

abbrev pub from_ℤ : ℤ → ℚ
from_ℤ z = fraction (record { numerator = z; denominator_minus_1 = 0 })

-- an operation on ratios that sees their fractions alone, as one on fractions
abbrev of_one : (f : Ratio → Ratio) → ((a b : Ratio) → Same a b → Same (f a) (f b)) → ℚ → ℚ
of_one f same = lift Quot-set (λ a. fraction (f a)) (λ a b h. sound (same a b h))

abbrev of_two : (f : Ratio → Ratio → Ratio) → ((a b c : Ratio) → Same b c → Same (f a b) (f a c)) → ((a b c : Ratio) → Same a b → Same (f a c) (f b c)) → ℚ → ℚ → ℚ
of_two f right left x y =
    lift Quot-set (λ a. of_one (f a) (right a) y)
    (λ a b h. ind {β = λ y. of_one (f a) (right a) y ≡ of_one (f b) (right b) y} (λ y. Quot-set _ _) (λ c. sound (left a b c h)) y) x

unfoldable pub ◌+ℚ◌ : ℚ → ℚ → ℚ
◌+ℚ◌ = of_two ◌+ᴿ◌ sum_right sum_left

unfoldable pub ◌*ℚ◌ : ℚ → ℚ → ℚ
◌*ℚ◌ = of_two ◌*ᴿ◌ product_right product_left

unfoldable pub -ℚ◌ : ℚ → ℚ
-ℚ◌ = of_one -ᴿ◌ negation

abbrev pub ◌-ℚ◌ : ℚ → ℚ → ℚ
x -ℚ y = x +ℚ -ℚ y

-- 1 / x, and 0 where x is 0
unfoldable pub inverse : ℚ → ℚ
inverse = of_one inverseᴿ inverse_same

abbrev pub ◌÷ℚ◌ : ℚ → ℚ → ℚ
x ÷ℚ y = x *ℚ inverse y

-- x to the n
abbrev pub ◌^ℚ◌ : ℚ → ℕ → ℚ
◌^ℚ◌ = power (from_ℤ (pos 1)) ◌*ℚ◌

-- the test that x is not below 0: its numerator is not
unfoldable pub nonneg : ℚ → Bool
nonneg = lift Bool-set nonnegᴿ nonneg_same

-- x ≤ y: y - x is not below 0; x < y: x - y is below 0
pub record ◌≤ℚ◌ (x y : ℚ) : Type 0 where
  pub le : T (nonneg (y -ℚ x))

pub record ◌<ℚ◌ (x y : ℚ) : Type 0 where
  pub lt : T (not (nonneg (x -ℚ y)))

-- the test x > y
unfoldable pub above_ℚ : ℚ → ℚ → Bool
above_ℚ x y = not (nonneg (y -ℚ x))

unfoldable pub abs_ℚ : ℚ → ℚ
abs_ℚ x = cond (nonneg x) x (-ℚ x)

-- x, or the limit where x is below it
unfoldable pub at_least_ℚ : ℚ → ℚ → ℚ
at_least_ℚ limit x = cond (nonneg (x -ℚ limit)) x limit

-- x, or the limit where x is above it
unfoldable pub at_most_ℚ : ℚ → ℚ → ℚ
at_most_ℚ limit x = cond (nonneg (limit -ℚ x)) x limit

-- x is within ε of y, ends included
pub record Near (x y ε : ℚ) : Type 0 where
  pub low : -ℚ ε ≤ℚ x -ℚ y
  pub high : x -ℚ y ≤ℚ ε
