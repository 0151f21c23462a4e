-- The step sheet, line by line, in document 01's order and letters. f is a temperature in tenths of a degree Fahrenheit and m the mean; s is the
-- radiation, w the wind run and `limit` the station's wind limit, in tenths. `÷↓` is "down", `÷0` drops the fraction toward zero. Assumes nothing.
use Rattle.std.specs.Prelude.{Bool, cond, List, [], ◌∷◌, zero, suc, ℤ, pos, negsuc, ◌+ℤ◌, ◌-ℤ◌, ◌*ℤ◌}
use Rattle.std.specs.Int.Signed.{lt_z, le_z}
use Rattle.numbers.specs.Whole.{◌÷↓◌, ◌÷0◌, nearest_quotient, whole_root, at_least_ℤ, at_most_ℤ}
use Rattle.sheet.specs.declared.Readings.{Readings}
use Rattle.sheet.specs.declared.Entries.{Entries}
use Rattle.sheet.specs.declared.Earlier.{Earlier}

-- ---- U = 41f + 67,600. V2 = U²/10, V4 = V2²/10⁹, V8 = V4²/10⁹, V6 = V4 × V2/10⁹, V7 = V6 × U/10⁵, each down.

-- hundred-thousandths; the rest in billionths
unfoldable pub U : ℤ → ℤ
U f = pos 41 *ℤ f +ℤ pos 67_600

unfoldable pub V2 : ℤ → ℤ
V2 f = U f *ℤ U f ÷↓ pos 10

unfoldable pub V4 : ℤ → ℤ
V4 f = V2 f *ℤ V2 f ÷↓ pos 1_000_000_000

unfoldable pub V8 : ℤ → ℤ
V8 f = V4 f *ℤ V4 f ÷↓ pos 1_000_000_000

unfoldable pub V6 : ℤ → ℤ
V6 f = V4 f *ℤ V2 f ÷↓ pos 1_000_000_000

unfoldable pub V7 : ℤ → ℤ
V7 f = V6 f *ℤ U f ÷↓ pos 100_000

-- ---- Vapour pressure e = (V8 - 1,900 × (f + 160) + 1,316,000) × 338,639/100,000, down, as 02, W6 leaves it; ea at the dew point.

-- 10⁻⁹ kPa; W6 took out the bars of |f + 160|, since f + 160 is above zero at every accepted temperature (day/proofs/LeastValues.antt)
unfoldable pub e : ℤ → ℤ
e f = (V8 f -ℤ pos 1_900 *ℤ (f +ℤ pos 160) +ℤ pos 1_316_000) *ℤ pos 338_639 ÷↓ pos 100_000

-- ---- Slope D = V7/5 down, less 116,000, at m. Latent heat M = 15,006,000 - 787(m - 320).

-- 10⁻⁹ kPa per °C
unfoldable pub D : ℤ → ℤ
D m = (V7 m ÷↓ pos 5) -ℤ pos 116_000

-- 1/6,000,000 MJ/kg
unfoldable pub M : ℤ → ℤ
M m = pos 15_006_000 -ℤ pos 787 *ℤ (m -ℤ pos 320)

-- ---- g = 603,000,000,000 × p/(622M) down. w1 = 10⁹ × D/(D + g) down; w2 = 10⁹ - w1.

-- 10⁻⁹ kPa per °C
unfoldable pub g : ℤ → ℤ → ℤ
g p M = pos 603_000_000_000 *ℤ p ÷↓ (pos 622 *ℤ M)

-- billionths
unfoldable pub w1 : ℤ → ℤ → ℤ
w1 D g = pos 1_000_000_000 *ℤ D ÷↓ (D +ℤ g)

unfoldable pub w2 : ℤ → ℤ → ℤ
w2 D g = pos 1_000_000_000 -ℤ w1 D g

-- ---- Clear-day Q = 10⁹c1 + 10⁶c2·d + 10⁵c3·d² + 10³c4·d³ + c5·d⁴. Office: if below 10⁹ × minimum, that is Q. Refusal 10: 10⁸s > 2Q.

-- 10⁻⁹ cal/cm²/d
unfoldable pub clear_sum : ℤ → ℤ → ℤ → ℤ → ℤ → ℤ → ℤ
clear_sum c1 c2 c3 c4 c5 d =
    pos 1_000_000_000 *ℤ c1
    +ℤ pos 1_000_000 *ℤ c2 *ℤ d
    +ℤ pos 100_000 *ℤ c3 *ℤ d *ℤ d
    +ℤ pos 1_000 *ℤ c4 *ℤ d *ℤ d *ℤ d
    +ℤ c5 *ℤ d *ℤ d *ℤ d *ℤ d

unfoldable pub Q : ℤ → ℤ → ℤ
Q minimum sum = at_least_ℤ (pos 1_000_000_000 *ℤ minimum) sum

unfoldable pub above_twice_clear : ℤ → ℤ → Bool
above_twice_clear s Q = lt_z (pos 2 *ℤ Q) (pos 100_000_000 *ℤ s)

-- ---- ρ = 10¹⁴s/(Q/1,000 down), down. If 10⁹s > 7Q, K = 1,126ρ/1,000 down, less 70,000,000; else 1,017ρ/1,000 down, less 60,000,000.

-- billionths
unfoldable pub ρ : ℤ → ℤ → ℤ
ρ s Q = pos 100_000_000_000_000 *ℤ s ÷↓ (Q ÷↓ pos 1_000)

unfoldable pub K : ℤ → ℤ → ℤ
K s Q =
    cond (lt_z (pos 7 *ℤ Q) (pos 1_000_000_000 *ℤ s))
    ((pos 1_126 *ℤ ρ s Q ÷↓ pos 1_000) -ℤ pos 70_000_000)
    ((pos 1_017 *ℤ ρ s Q ÷↓ pos 1_000) -ℤ pos 60_000_000)

-- ---- N = 50(f - 320) + 245,844 at maximum and minimum; each N²/100 down, squared; added; divided by 10⁶ down; B = 4,903 × that/13,122,000 down.

-- 1/900 K
unfoldable pub N : ℤ → ℤ
N f = pos 50 *ℤ (f -ℤ pos 320) +ℤ pos 245_844

unfoldable pub fourth_power : ℤ → ℤ
fourth_power f = (N f *ℤ N f ÷↓ pos 100) *ℤ (N f *ℤ N f ÷↓ pos 100)

-- 10⁻⁷ MJ/m²
unfoldable pub B : ℤ → ℤ → ℤ
B maximum minimum = pos 4_903 *ℤ ((fourth_power maximum +ℤ fourth_power minimum) ÷↓ pos 1_000_000) ÷↓ pos 13_122_000

-- ---- r = whole square root of 10⁷ × ea, down. Emittance = a1 - (139r/100 down), may be negative.

-- 10⁻⁸
unfoldable pub r : ℤ → ℤ
r ea = whole_root (pos 10_000_000 *ℤ ea)

-- billionths
unfoldable pub emittance : ℤ → ℤ → ℤ
emittance a1 r = a1 -ℤ (pos 139 *ℤ r ÷↓ pos 100)

-- ---- Rb = ((emittance × B ÷0 10⁹) × K) ÷0 10⁹. S = 41,868s. Rn = ((10⁹ - albedo) × S/10⁹ down) - Rb.

-- 10⁻⁷ MJ/m²
unfoldable pub Rb : ℤ → ℤ → ℤ → ℤ
Rb emittance B K = ((emittance *ℤ B ÷0 pos 1_000_000_000) *ℤ K) ÷0 pos 1_000_000_000

unfoldable pub S : ℤ → ℤ
S s = pos 41_868 *ℤ s

unfoldable pub Rn : ℤ → ℤ → ℤ → ℤ
Rn albedo s Rb = ((pos 1_000_000_000 -ℤ albedo) *ℤ S s ÷↓ pos 1_000_000_000) -ℤ Rb

-- ---- Soil heat: with k earlier means present, sum z: 1,885,000(k × m - z) ÷0 (9k); k = 0 gives 0. H = Rn - soil heat.

-- z, of the earlier means present
unfoldable pub sum_of : List ℤ → ℤ
sum_of [] = pos 0
sum_of (f ∷ fs) = f +ℤ sum_of fs

unfoldable pub soil_heat : ℤ → ℤ → ℤ → ℤ
soil_heat m (pos zero) z = pos 0
soil_heat m (pos (suc k)) z = pos 1_885_000 *ℤ (pos (suc k) *ℤ m -ℤ z) ÷0 (pos 9 *ℤ pos (suc k))
soil_heat m (negsuc k) z = pos 0

unfoldable pub H : ℤ → ℤ → ℤ
H Rn soil_heat = Rn -ℤ soil_heat

-- ---- Office keeps the routine's limit: w over 1,500 counts as 1,500. Wf = aw + (bw × 16,093w/10⁵ down).

-- the station's limit "in place of 1,500 tenths" (02, W2)
unfoldable pub counted_wind : ℤ → ℤ → ℤ
counted_wind limit w = at_most_ℤ limit w

-- billionths
unfoldable pub Wf : ℤ → ℤ → ℤ → ℤ
Wf aw bw w = aw +ℤ (bw *ℤ (pos 16_093 *ℤ w) ÷↓ pos 100_000)

-- ---- V = ((e at maximum + e at minimum)/2 down) - ea. T = (((V ÷0 100) × Wf) ÷0 10⁹) × 643 ÷0 100.

-- 10⁻⁹ kPa; `V` is a word of antt, so it stands in marks
unfoldable pub «V» : ℤ → ℤ → ℤ → ℤ
«V» eMaximum eMinimum ea = ((eMaximum +ℤ eMinimum) ÷↓ pos 2) -ℤ ea

-- 10⁻⁷ MJ/m²
unfoldable pub T : ℤ → ℤ → ℤ
T v Wf = (((v ÷0 pos 100) *ℤ Wf) ÷0 pos 1_000_000_000) *ℤ pos 643 ÷0 pos 100

-- ---- A = (w1·H + w2·T) ÷0 10⁹. Figure 0 if A ≤ 0, else 23,622A/(100M) to nearest, halves up.

unfoldable pub A : ℤ → ℤ → ℤ → ℤ → ℤ
A w1 w2 H T = (w1 *ℤ H +ℤ w2 *ℤ T) ÷0 pos 1_000_000_000

-- 0.0001 inch
unfoldable pub Figure : ℤ → ℤ → ℤ
Figure A M = cond (le_z A (pos 0)) (pos 0) (nearest_quotient (pos 23_622 *ℤ A) (pos 100 *ℤ M))

-- ---- the sheet worked through: of the readings, the tables' entries, the earlier means, the clear-day radiation and the wind limit

unfoldable pub heat : Readings → Entries → Earlier → ℤ → ℤ
heat x t earlier q =
    H (Rn t.albedo x.radiation (Rb (emittance t.a1 (r (e x.dewpoint))) (B x.maximum x.minimum) (K x.radiation q)))
    (soil_heat x.mean earlier.k earlier.z)

unfoldable pub drying : Readings → Entries → ℤ → ℤ
drying x t limit = T («V» (e x.maximum) (e x.minimum) (e x.dewpoint)) (Wf t.aw t.bw (counted_wind limit x.wind))

unfoldable pub figure : Readings → Entries → Earlier → ℤ → ℤ → ℤ
figure x t earlier q limit =
    Figure
    (A (w1 (D x.mean) (g t.p (M x.mean))) (w2 (D x.mean) (g t.p (M x.mean))) (heat x t earlier q) (drying x t limit))
    (M x.mean)
