-- An answered day's figure is within the bound: that none of the refusals holds gives every range that `figure_near` asks for. The theorems are
-- `judged_within_proved`, at the sharper bound, and `judged_within_bound`, at the demanded one. Assumes nothing.
use mathlib.Core.Path.{◌≡◌, refl, sym, ◌∙◌, ap, subst}
use mathlib.Core.Bool.{false}
use mathlib.Core.List.{List, [], map}
use Prim.Native.Nat.{ℕ}
use lib.IntN.{ℤ, pos}
use Rattle.std.specs.Prelude.{Option, Some, None, Ok}
use Rattle.ratios.specs.Ratios.{◌over◌}
use Rattle.numbers.specs.Fractions.{from_ℤ, ◌/ℚ◌, ◌-ℚ◌, ◌*ℚ◌, ◌≤ℚ◌, abs_ℚ, ℚ, fraction}
use Rattle.numbers.proofs.Order.{≤ℚ_ratio, ≤ℚ_trans}
use Rattle.sheet.specs.Accepted.{EntriesInRange}
use Rattle.equation.specs.Equation.{value, tenths}
use Rattle.equation.proofs.FigureNear as nearness
use Rattle.equation.proofs.FigureNear.{StationNumbers, StationNumbersInRange, AllTemperatures, none, more, Accepted, bound, FigureNear}
use Rattle.equation.proofs.Nearness.{figure_near}
use Rattle.day.specs.Judgement.{readings_of, entries_of, clear_of, with_mean, means_of, earlier_of, figure_of, holds, Answered, as_judged, with_mark, judged}
use Rattle.day.specs.Bound.{if_present, means_present, inputs_of, Within, WithinBound, SignedConstants, FigureOwed, JudgesWithinBound}
use Rattle.day.specs.declared.Station.{Station}
use Rattle.day.specs.declared.Day.{Day}
use Rattle.day.specs.declared.Earlier.{Earlier}
use Rattle.day.specs.declared.Refusal.{Refusal}
use Rattle.day.specs.declared.Refusal.TheVariants.{StationField, BadDate, OutOfRange, OutOfOrder, AboveClear}
use Rattle.day.proofs.Standings.{answered_figure}
use Rattle.day.proofs.Passed as passed-tests
use Rattle.day.proofs.EarlierMeans.{few_means, all_temperatures}

-- the sharper one that is proved of every answered day: 515/10,000,000 of an inch
abbrev pub proved_bound : ℚ
proved_bound = fraction bound

-- ---- the earlier means that are present

-- the equation is fed the means that the sheet is worked from
if_present_lem : (m : Option ℤ) (fs : List ℤ) → if_present m (map tenths fs) ≡ map tenths (with_mean m fs)
if_present_lem (Some f) fs = refl
if_present_lem None fs = refl

same_means : (earlier : Earlier) → means_present earlier ≡ map tenths (means_of earlier)
unfolding means_of
same_means earlier =
    ap (λ Fs. if_present earlier.one (if_present earlier.two Fs)) (if_present_lem earlier.three [])
    ∙ ap (if_present earlier.one) (if_present_lem earlier.two _)
    ∙ if_present_lem earlier.one _

-- ---- an answered day: where none of the refusals holds, the numbers are what the sheet's nearness asks for

-- what is taken of the station, and `d`
abbrev pub constants_of : Station → Day → StationNumbers
constants_of st day =
    record {
      constants = record { c1 = st.c1; c2 = st.c2; c3 = st.c3; c4 = st.c4; c5 = st.c5 };
      minimum = pos st.minimum;
      limit = pos st.limit;
      d = pos day.d;
    }

module _ (st : Station) (day : Day) (earlier : Earlier) (constants : SignedConstants st) (answered : Answered st day earlier) where
  none_holds : (r : Refusal) → holds r st day earlier ≡ false
  unfolding Answered
  none_holds r = answered r

  constants_in : StationNumbersInRange (constants_of st day)
  constants_in =
      record {
        constants = record { c1 = constants.c1; c2 = constants.c2; c3 = constants.c3; c4 = constants.c4; c5 = constants.c5 };
        minimum = passed-tests.minimum_in st day earlier (none_holds StationField);
        limit = passed-tests.limit_in st day earlier (none_holds StationField);
        d = record {
          bounds = (passed-tests.day_low st day earlier (none_holds BadDate), passed-tests.day_high st day earlier (none_holds BadDate));
        };
      }

  entries_in : EntriesInRange (entries_of st day)
  unfolding entries_of
  entries_in =
      passed-tests.entries_in day.d st.elevation (passed-tests.day_low st day earlier (none_holds BadDate))
      (passed-tests.day_high st day earlier (none_holds BadDate)) (passed-tests.elevation_high st day earlier (none_holds StationField))

  means_in : AllTemperatures (means_of earlier)
  means_in = all_temperatures st day earlier (none_holds OutOfRange)

  pub accepted : Accepted (readings_of day) (entries_of st day) (means_of earlier) (constants_of st day)
  unfolding holds readings_of clear_of
  accepted =
      record {
        readings = passed-tests.readings_in st day earlier (none_holds OutOfRange);
        minimum_mean = passed-tests.minimum_mean st day earlier (none_holds OutOfOrder);
        dewpoint_maximum = passed-tests.dewpoint_maximum st day earlier (none_holds OutOfOrder);
        entries = entries_in;
        means = means_in;
        few = few_means earlier;
        constants = constants_in;
        below = none_holds AboveClear;
      }

  within_proved : Within proved_bound st day earlier (figure_of st day earlier)
  unfolding Within FigureNear inputs_of readings_of entries_of earlier_of clear_of figure_of
  within_proved α a1 aw bw P x hα ha1 haw hbw hP hx =
      subst (λ Fs. abs_ℚ (from_ℤ (pos (figure_of st day earlier)) *ℚ 1 /ℚ 10000 -ℚ value (nearness.inputs_of (readings_of day) Fs (constants_of st day) α a1 aw bw P x)) ≤ℚ proved_bound)
      (sym (same_means earlier))
      (figure_near (readings_of day) (entries_of st day) (means_of earlier) (constants_of st day) accepted α a1 aw bw P x hα ha1 haw hbw hP hx)

  -- the demanded bound is the larger
  pub within_bound : WithinBound st day earlier (figure_of st day earlier)
  unfolding WithinBound Within
  within_bound α a1 aw bw P x hα ha1 haw hbw hP hx =
      ≤ℚ_trans (within_proved α a1 aw bw P x hα ha1 haw hbw hP hx) (≤ℚ_ratio bound (6 over 100000) tt)

-- the sharper bound, of a judge's own figures
pub judged_within_proved : (st : Station) (day : Day) (earlier : Earlier) → SignedConstants st → Answered st (as_judged day) earlier →
    (n : ℕ) × (judged st day earlier ≡ Ok (with_mark day n)) × Within proved_bound st (as_judged day) earlier n
judged_within_proved st day earlier constants answered =
    (figure_of st (as_judged day) earlier, answered_figure st day earlier answered, within_proved st (as_judged day) earlier constants answered)

pub judged_within_bound : JudgesWithinBound judged
unfolding JudgesWithinBound FigureOwed as_judged
judged_within_bound st day earlier constants answered =
    (figure_of st (as_judged day) earlier, answered_figure st day earlier answered, within_bound st (as_judged day) earlier constants answered)
