-- Demand 3 for a day handed in alone: an answered day gets a figure within 6/100,000 of an inch of the unrounded equation. What is proved is
-- sharper: 5.15/100,000. Assumes nothing.
use Rattle.std.specs.Prelude.{List, [], ◌∷◌, ◌≡◌, ℕ, ◌≤◌, pos, Option, Some, None, ℤ, Ok, Err}
use Rattle.numbers.specs.Ranges.{InRange}
use Rattle.numbers.specs.Fractions.{ℚ, from_ℤ, ◌/ℚ◌, ◌-ℚ◌, ◌*ℚ◌, ◌≤ℚ◌, abs_ℚ}
use Rattle.numbers.specs.Rounding.{RootOf}
use Rattle.tables.specs.Series.{HalfUnit}
use Rattle.tables.specs.Tables.{billionth, tenth_pascal}
use Rattle.tables.specs.Values.{albedo_at, a1_at, aw_at, bw_at, pressure_at}
use Rattle.sheet.specs.Limits as limits
use Rattle.equation.specs.Equation.{Inputs, value, tenths}
use Rattle.equation.specs.Equation as equation
use Rattle.day.specs.Judgement.{Answered, as_judged, with_mark, Verdict}
use Rattle.day.specs.declared.Station.{Station}
use Rattle.day.specs.declared.Day.{Day}
use Rattle.day.specs.declared.Earlier.{Earlier}
use Rattle.sheet.specs.Quantities.{largest_figure}
use Rattle.day.specs.declared.Figure.TheVariants.{Measured, Estimated}

-- "the earlier means present", in °F: of the three calendar days before, those that have one
abbrev pub if_present : Option ℤ → List ℚ → List ℚ
if_present (Some f) Fs = tenths f ∷ Fs
if_present None Fs = Fs

abbrev pub means_present : Earlier → List ℚ
means_present earlier = if_present earlier.one (if_present earlier.two (if_present earlier.three []))

-- what the equation is fed: the readings in °F, cal and miles, the station's fields in their units, the earlier means present, the values behind
-- the tables' entries, and x
unfoldable pub inputs_of : Station → Day → Earlier → ℚ → ℚ → ℚ → ℚ → ℚ → ℚ → Inputs
inputs_of st day earlier α a1 aw bw P x =
    record {
      d = from_ℤ (pos day.d);
      maximum = tenths day.maximum;
      minimum = tenths day.minimum;
      mean = tenths day.mean;
      dew_point = tenths day.dewpoint;
      radiation = tenths day.radiation;
      wind = tenths day.wind;
      c1 = from_ℤ st.c1;
      c2 = from_ℤ st.c2 *ℚ 1 /ℚ 1000;
      c3 = from_ℤ st.c3 *ℚ 1 /ℚ 10000;
      c4 = from_ℤ st.c4 *ℚ 1 /ℚ 1000000;
      c5 = from_ℤ st.c5 *ℚ 1 /ℚ 1000000000;
      clear_minimum = from_ℤ (pos st.minimum);
      wind_limit = tenths (pos st.limit);
      earlier = means_present earlier;
      α = α;
      a1 = a1;
      aw = aw;
      bw = bw;
      P = P;
      x = x;
    }

-- What holds of every value that the equation can have of a day: for all fractions within half a unit of the entries at `d` and E, ends included and
-- all at once, and every x between two neighbouring multiples of 10⁻⁸ whose squares have the equation's own ea between them.
abbrev pub OfEveryValue : Station → Day → Earlier → (ℚ → Type 0) → Type 0
OfEveryValue st day earlier Holds =
    (α a1 aw bw P x : ℚ) →
    HalfUnit billionth (albedo_at day.d) α →
    HalfUnit billionth (a1_at day.d) a1 →
    HalfUnit billionth (aw_at day.d) aw →
    HalfUnit billionth (bw_at day.d) bw →
    HalfUnit tenth_pascal (pressure_at st.elevation) P →
    RootOf (1 /ℚ 100000000) (equation.e (tenths day.dewpoint)) x →
    Holds (value (inputs_of st day earlier α a1 aw bw P x))

-- the figure n differs from the equation's value by at most so many inches
unfoldable pub Within : ℚ → Station → Day → Earlier → ℕ → Type 0
Within inches st day earlier n = OfEveryValue st day earlier (λ v. abs_ℚ (from_ℤ (pos n) *ℚ 1 /ℚ 10000 -ℚ v) ≤ℚ inches)

-- the bound that is demanded: 6/100,000 of an inch
unfoldable pub WithinBound : Station → Day → Earlier → ℕ → Type 0
WithinBound = Within (6 /ℚ 100000)

-- c1 to c5 are signed numbers of two bytes, any of them
pub record SignedConstants (st : Station) : Type 0 where
  pub c1 : InRange limits.signed_word st.c1
  pub c2 : InRange limits.signed_word st.c2
  pub c3 : InRange limits.signed_word st.c3
  pub c4 : InRange limits.signed_word st.c4
  pub c5 : InRange limits.signed_word st.c5

-- What is owed to an answered day: a figure and no refusal, with the mark where the minimum stands for its dew point, and within the bound. Both the
-- rules and the equation, ea and x alike, are those of the day as it is judged.
unfoldable pub FigureOwed : Station → Day → Earlier → Verdict → Type 0
FigureOwed st day earlier verdict =
    Answered st (as_judged day) earlier → (n : ℕ) × (verdict ≡ Ok (with_mark day n)) × WithinBound st (as_judged day) earlier n

-- the demand, over any judge of days
unfoldable pub JudgesWithinBound : (Station → Day → Earlier → Verdict) → Type 0
JudgesWithinBound judge = (st : Station) (day : Day) (earlier : Earlier) → SignedConstants st → FigureOwed st day earlier (judge st day earlier)

-- the figure of a verdict that has one, marked or not, is at most so much
abbrev pub FigureAtMost : ℕ → Verdict → Type 0
FigureAtMost most (Ok (Measured n)) = n ≤ most
FigureAtMost most (Ok (Estimated n)) = n ≤ most
FigureAtMost most (Err r) = Unit {0}

-- no figure is above the largest that the sheet's own range has: 150,000 ten-thousandths of an inch
abbrev pub FigureInRange : Verdict → Type 0
FigureInRange = FigureAtMost largest_figure
