-- How near the figure of the step sheet is to the value of the unrounded equation, over the sheet's own numbers: what is asked of them, what the
-- equation is fed of them, and the statement, `FigureNear`, that Nearness.antt proves. Assumes nothing.
use mathlib.Core.Bool.{false}
use mathlib.Core.List.{List, [], ◌∷◌, map}
use mathlib.Core.Path.{◌≡◌}
use Prim.Native.Nat.{ℕ, ◌≤◌}
use lib.IntN.{ℤ, pos, nat_abs}
use lib.ListN.{length}
use lib.Signed.{◌≤ℤ◌}
use Rattle.numbers.specs.Ranges.{InRange}
use Rattle.ratios.specs.Ratios.{Ratio, ◌over◌}
use Rattle.numbers.specs.Fractions.{ℚ, fraction, from_ℤ, ◌/ℚ◌, ◌-ℚ◌, ◌*ℚ◌, ◌≤ℚ◌, abs_ℚ}
use Rattle.numbers.specs.Rounding.{RootOf}
use Rattle.tables.specs.Series.{HalfUnit}
use Rattle.tables.specs.Tables.{billionth, tenth_pascal}
use Rattle.sheet.specs.Quantities as quantities
use Rattle.sheet.specs.Accepted.{ReadingsInRange, ConstantsInRange, EntriesInRange}
use Rattle.sheet.specs.StepSheet as sheet
use Rattle.sheet.specs.declared.Constants.{Constants}
use Rattle.sheet.specs.declared.Readings.{Readings}
use Rattle.sheet.specs.declared.Entries.{Entries}
use Rattle.equation.specs.Equation.{tenths, Inputs, value}
use Rattle.equation.specs.Equation as equation

-- what is taken of the station, and `d`: c1 to c5 and the clear-day minimum, from which a clear day is worked, and the wind limit
pub record StationNumbers : Type 0 where
  pub constants : Constants
  pub minimum : ℤ
  pub limit : ℤ
  pub d : ℤ

pub record StationNumbersInRange (c : StationNumbers) : Type 0 where
  pub constants : ConstantsInRange c.constants
  pub minimum : InRange quantities.clear_minimum c.minimum
  pub limit : InRange quantities.wind_limit c.limit
  pub d : InRange quantities.day_of_year c.d

-- each earlier mean is a temperature in range
pub data AllTemperatures : List ℤ → Type 0 where
  none : AllTemperatures []
  more : {f : ℤ} {fs : List ℤ} → InRange quantities.temperature f → AllTemperatures fs → AllTemperatures (f ∷ fs)

-- the sheet's clear-day radiation, and its figure with the earlier means fs
abbrev pub clear_day : StationNumbers → ℤ
clear_day c = sheet.Q c.minimum (sheet.clear_sum c.constants.c1 c.constants.c2 c.constants.c3 c.constants.c4 c.constants.c5 c.d)

abbrev pub figure_of : Readings → Entries → List ℤ → StationNumbers → ℕ
figure_of x t fs c = nat_abs (sheet.figure x t (record { k = pos (length fs); z = sheet.sum_of fs }) (clear_day c) c.limit)

-- What is asked of the numbers: each in its range, the readings in order, at most three earlier means, and refusal 10 does not hold
pub record Accepted (x : Readings) (t : Entries) (fs : List ℤ) (c : StationNumbers) : Type 0 where
  pub readings : ReadingsInRange x
  pub minimum_mean : x.minimum ≤ℤ x.mean
  pub dewpoint_maximum : x.dewpoint ≤ℤ x.maximum
  pub entries : EntriesInRange t
  pub means : AllTemperatures fs
  pub few : length fs ≤ 3
  pub constants : StationNumbersInRange c
  pub below : sheet.above_twice_clear x.radiation (clear_day c) ≡ false

-- what the equation is fed: the readings in °F, cal and miles, the earlier means in °F, the constants in their units; what the entries stand for; and
-- x
abbrev pub inputs_of : Readings → List ℚ → StationNumbers → ℚ → ℚ → ℚ → ℚ → ℚ → ℚ → Inputs
inputs_of r Fs c α a1 aw bw P x =
    record {
      d = from_ℤ c.d;
      maximum = tenths r.maximum;
      minimum = tenths r.minimum;
      mean = tenths r.mean;
      dew_point = tenths r.dewpoint;
      radiation = tenths r.radiation;
      wind = tenths r.wind;
      c1 = from_ℤ c.constants.c1;
      c2 = from_ℤ c.constants.c2 *ℚ 1 /ℚ 1000;
      c3 = from_ℤ c.constants.c3 *ℚ 1 /ℚ 10000;
      c4 = from_ℤ c.constants.c4 *ℚ 1 /ℚ 1000000;
      c5 = from_ℤ c.constants.c5 *ℚ 1 /ℚ 1000000000;
      clear_minimum = from_ℤ c.minimum;
      wind_limit = tenths c.limit;
      earlier = Fs;
      α = α;
      a1 = a1;
      aw = aw;
      bw = bw;
      P = P;
      x = x;
    }

-- how many inches the figure can lie from the value: the last rounding alone is 5/100,000, and a day of 5.0743/100,000 is known
abbrev pub bound : Ratio
bound = 515 over 10000000

-- What holds of every value that the equation can have: for all fractions within half a unit of the entries, ends included and all at once, and every x
-- between two neighbouring multiples of 10⁻⁸ whose squares have the equation's own ea between them.
abbrev pub OfEveryValue : Readings → Entries → List ℤ → StationNumbers → (ℚ → Type 0) → Type 0
OfEveryValue r t fs c Holds =
    (α a1 aw bw P x : ℚ) →
    HalfUnit billionth (nat_abs t.albedo) α →
    HalfUnit billionth (nat_abs t.a1) a1 →
    HalfUnit billionth (nat_abs t.aw) aw →
    HalfUnit billionth (nat_abs t.bw) bw →
    HalfUnit tenth_pascal (nat_abs t.p) P →
    RootOf (1 /ℚ 100000000) (equation.e (tenths r.dewpoint)) x →
    Holds (value (inputs_of r (map tenths fs) c α a1 aw bw P x))

-- the figure is within the bound of it
unfoldable pub FigureNear : Readings → Entries → List ℤ → StationNumbers → Type 0
FigureNear r t fs c = OfEveryValue r t fs c (λ v. abs_ℚ (from_ℤ (pos (figure_of r t fs c)) *ℚ 1 /ℚ 10000 -ℚ v) ≤ℚ fraction bound)
