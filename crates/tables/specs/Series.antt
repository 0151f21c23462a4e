-- Numbers given by an alternating series in powers of x, and what it is for a whole number of units to be nearest to such a number.
-- Assumes nothing.
use Rattle.std.specs.Prelude.{ℕ, zero, suc, ◌+◌, ◌*◌, pos}
use Rattle.numbers.specs.Fractions.{ℚ, from_ℤ, ◌/ℚ◌, ◌+ℚ◌, ◌-ℚ◌, -ℚ◌, ◌*ℚ◌, ◌÷ℚ◌, ◌^ℚ◌, ◌≤ℚ◌, ◌<ℚ◌, Near}

-- n! = 1 · 2 · .. · n
unfoldable pub factorial : ℕ → ℕ
factorial zero = 1
factorial (suc n) = factorial n * suc n

-- exp(-x) = 1 - x + x²/2! - x³/3! + ..: the term xⁿ/n!, without its sign
unfoldable pub exp_term : ℚ → ℕ → ℚ
exp_term x n = x ^ℚ n ÷ℚ from_ℤ (pos (factorial n))

-- sin x = x - x³/3! + x⁵/5! - ..: the term xᵐ/m!, m = 2n + 1, without its sign
unfoldable pub sin_term : ℚ → ℕ → ℚ
sin_term x n = x ^ℚ (2 * n + 1) ÷ℚ from_ℤ (pos (factorial (2 * n + 1)))

-- the partial sum of an alternating series to the place n: t₀ - t₁ + t₂ - .. ± tₙ
unfoldable pub partial_sum : (ℕ → ℚ) → ℕ → ℚ
partial_sum t zero = t zero
partial_sum t (suc n) = partial_sum t n +ℚ (-ℚ from_ℤ (pos 1)) ^ℚ suc n *ℚ t (suc n)

-- y lies between the numbers a and b, ends included, whichever is the larger
pub data Between (a b y : ℚ) : Type 0 where
  rising : a ≤ℚ y → y ≤ℚ b → Between a b y
  falling : b ≤ℚ y → y ≤ℚ a → Between a b y

-- r is the whole number of units nearest to y: y lies less than half a unit from r units
pub record Nearest (unit : ℚ) (r : ℕ) (y : ℚ) : Type 0 where
  pub low : from_ℤ (pos r) *ℚ unit -ℚ 1 /ℚ 2 *ℚ unit <ℚ y
  pub high : y <ℚ from_ℤ (pos r) *ℚ unit +ℚ 1 /ℚ 2 *ℚ unit

-- a formula f(s), s being the number that lies between any two consecutive partial sums of an alternating series: f, and the series' terms
pub record Formula : Type 0 where
  pub at : ℚ → ℚ
  pub terms : ℕ → ℚ

-- r is the whole number of units nearest to f(s): two consecutive partial sums enclose s so narrowly that r is nearest to f of every number between
-- them
unfoldable pub NearestOfSeries : ℚ → ℕ → Formula → Type 0
NearestOfSeries unit r f =
    (n : ℕ) × ((s : ℚ) → Between (partial_sum f.terms n) (partial_sum f.terms (suc n)) s → Nearest unit r (f.at s))

-- y is within half a unit of r units, ends included: what the error bound takes for the value behind an entry
unfoldable pub HalfUnit : ℚ → ℕ → ℚ → Type 0
HalfUnit unit r y = Near y (from_ℤ (pos r) *ℚ unit) (1 /ℚ 2 *ℚ unit)
