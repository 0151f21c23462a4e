-- The unrounded equation over fractions, as document 01 writes it out: every fraction is kept, its choices are exact, its letters are its own, and
-- it takes nothing from the step sheet. Assumes nothing.
use Rattle.std.specs.Prelude.{cond, List, [], ◌∷◌, ℤ}
use Rattle.numbers.specs.Fractions.{ℚ, from_ℤ, ◌/ℚ◌, ◌+ℚ◌, ◌-ℚ◌, ◌*ℚ◌, ◌÷ℚ◌, ◌^ℚ◌, abs_ℚ, above_ℚ, at_least_ℚ, at_most_ℚ}

-- F is a temperature in °F, t = (F - 32)/1.8, y = 0.00738t + 0.8072
unfoldable pub t : ℚ → ℚ
t F = (F -ℚ 32 /ℚ 1) ÷ℚ 18 /ℚ 10

unfoldable pub y : ℚ → ℚ
y F = 738 /ℚ 100000 *ℚ t F +ℚ 8072 /ℚ 10000

-- e = 3.38639(y⁸ - 0.000019|F + 16| + 0.001316), in kPa; ea is e at the dew point
unfoldable pub e : ℚ → ℚ
e F = 338639 /ℚ 100000 *ℚ (y F ^ℚ 8 -ℚ 19 /ℚ 1000000 *ℚ abs_ℚ (F +ℚ 16 /ℚ 1) +ℚ 1316 /ℚ 1000000)

-- At the mean: Δ = 0.2y⁷ - 0.000116; L = 2.501 - 0.002361t; γ = 0.001005P/(0.622L), P the pressure in kPa
unfoldable pub Δ : ℚ → ℚ
Δ F = 2 /ℚ 10 *ℚ y F ^ℚ 7 -ℚ 116 /ℚ 1000000

unfoldable pub L : ℚ → ℚ
L F = 2501 /ℚ 1000 -ℚ 2361 /ℚ 1000000 *ℚ t F

unfoldable pub γ : ℚ → ℚ → ℚ
γ P L = (1005 /ℚ 1000000 *ℚ P) ÷ℚ (622 /ℚ 1000 *ℚ L)

-- R is the radiation. C = c1 + c2·d + c3·d² + c4·d³ + c5·d⁴, or the minimum if that sum is below it.
unfoldable pub C : ℚ → ℚ → ℚ → ℚ → ℚ → ℚ → ℚ → ℚ
C c1 c2 c3 c4 c5 minimum d = at_least_ℚ minimum (c1 +ℚ c2 *ℚ d +ℚ c3 *ℚ d ^ℚ 2 +ℚ c4 *ℚ d ^ℚ 3 +ℚ c5 *ℚ d ^ℚ 4)

-- K = 1.126R/C - 0.07 if R > 0.7C, else 1.017R/C - 0.06
unfoldable pub K : ℚ → ℚ → ℚ
K R C = cond (above_ℚ R (7 /ℚ 10 *ℚ C)) ((1126 /ℚ 1000 *ℚ R) ÷ℚ C -ℚ 7 /ℚ 100) ((1017 /ℚ 1000 *ℚ R) ÷ℚ C -ℚ 6 /ℚ 100)

-- B = 4.903 × 10⁻⁹ times the plain mean of (t + 273.16)⁴ at maximum and minimum
unfoldable pub B : ℚ → ℚ → ℚ
B maximum minimum = 4903 /ℚ 1000000000000 *ℚ (((t maximum +ℚ 27316 /ℚ 100) ^ℚ 4 +ℚ (t minimum +ℚ 27316 /ℚ 100) ^ℚ 4) ÷ℚ 2 /ℚ 1)

-- x is the number not below 0 whose square is ea. Rn = 0.041868(1 - α)R - (a1 - 0.139x) × B × K, α being the albedo.
unfoldable pub Rn : ℚ → ℚ → ℚ → ℚ → ℚ → ℚ → ℚ
Rn α R a1 x B K = 41868 /ℚ 1000000 *ℚ (1 /ℚ 1 -ℚ α) *ℚ R -ℚ (a1 -ℚ 139 /ℚ 1000 *ℚ x) *ℚ B *ℚ K

-- the sum of t at some temperatures, and their number
unfoldable pub sum_of : List ℚ → ℚ
sum_of [] = 0 /ℚ 1
sum_of (F ∷ Fs) = t F +ℚ sum_of Fs

unfoldable pub number_of : List ℚ → ℚ
number_of [] = 0 /ℚ 1
number_of (F ∷ Fs) = 1 /ℚ 1 +ℚ number_of Fs

-- Soil heat G = 0.377 times (t at the mean, less the plain mean of t at the earlier means present); 0 with none
unfoldable pub G : ℚ → List ℚ → ℚ
G mean [] = 0 /ℚ 1
G mean (F ∷ Fs) = 377 /ℚ 1000 *ℚ (t mean -ℚ sum_of (F ∷ Fs) ÷ℚ number_of (F ∷ Fs))

-- u is the wind run, at most 150, or the station's limit in its place (02, W2). T = 6.43(aw + 1.6093 × bw × u) × ((e at maximum + e at minimum)/2 - ea).
unfoldable pub u : ℚ → ℚ → ℚ
u limit wind = at_most_ℚ limit wind

unfoldable pub T : ℚ → ℚ → ℚ → ℚ → ℚ → ℚ → ℚ
T aw bw u eMaximum eMinimum ea = 643 /ℚ 100 *ℚ (aw +ℚ 16093 /ℚ 10000 *ℚ bw *ℚ u) *ℚ ((eMaximum +ℚ eMinimum) ÷ℚ 2 /ℚ 1 -ℚ ea)

-- The value in inches: 0.03937(Δ(Rn - G) + γT)/((Δ + γ)L), or 0 if that is below 0
unfoldable pub inches : ℚ → ℚ → ℚ → ℚ → ℚ → ℚ → ℚ
inches Δ γ L Rn G T = at_least_ℚ (0 /ℚ 1) ((3937 /ℚ 100000 *ℚ (Δ *ℚ (Rn -ℚ G) +ℚ γ *ℚ T)) ÷ℚ ((Δ +ℚ γ) *ℚ L))

-- a reading in tenths as a fraction
abbrev pub tenths : ℤ → ℚ
tenths f = from_ℤ f *ℚ 1 /ℚ 10

-- What the equation is fed: `d`, the six readings in °F, cal and miles, the station's fields in their units, the earlier means present; the values
-- of the tables' formulas; and x.
pub record Inputs : Type 0 where
  pub d : ℚ
  pub maximum : ℚ
  pub minimum : ℚ
  pub mean : ℚ
  pub dew_point : ℚ
  pub radiation : ℚ
  pub wind : ℚ
  pub c1 : ℚ
  pub c2 : ℚ
  pub c3 : ℚ
  pub c4 : ℚ
  pub c5 : ℚ
  pub clear_minimum : ℚ
  pub wind_limit : ℚ
  pub earlier : List ℚ
  pub α : ℚ
  pub a1 : ℚ
  pub aw : ℚ
  pub bw : ℚ
  pub P : ℚ
  pub x : ℚ

unfoldable pub value : Inputs → ℚ
value i =
    inches (Δ i.mean) (γ i.P (L i.mean)) (L i.mean)
    (Rn i.α i.radiation i.a1 i.x (B i.maximum i.minimum)
    (K i.radiation (C i.c1 i.c2 i.c3 i.c4 i.c5 i.clear_minimum i.d)))
    (G i.mean i.earlier)
    (T i.aw i.bw (u i.wind_limit i.wind) (e i.maximum) (e i.minimum) (e i.dew_point))
