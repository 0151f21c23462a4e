-- What a station and a day that passed their tests are known to be: each number in its range, and so what the sheet is worked from. Assumes
-- nothing.
use mathlib.Core.Path.{◌≡◌, sym, ◌∙◌, ap, subst}
use mathlib.Core.List.{List, [], ◌∷◌}
use mathlib.Core.Bool.{Bool, false, not}
use Prim.Native.Nat.{ℕ, ◌≤◌}
use native.Mathlib.Nat.{le_trans}
use borrow.Author.Tests.{not-false}
use lib.Dec.{T}
use lib.IntN.{ℤ, pos}
use lib.Signed.{lt_z, ◌≤ℤ◌}
use Rattle.numbers.specs.Ranges.{InRange}
use Rattle.numbers.proofs.IntegerOrder.{le_z_is}
use Rattle.sheet.specs.Limits as limits
use Rattle.sheet.specs.Quantities as quantities
use Rattle.sheet.specs.Accepted.{ReadingsInRange, EntriesInRange}
use Rattle.tables.proofs.ValueRanges.{albedo_in, a1_in, aw_in, bw_in, pressure_in}
use Rattle.day.specs.Calendar.{is_date}
use Rattle.day.specs.Rules.{any_of, station_faults, reading_faults, mean_fault, order_faults}
use Rattle.day.specs.Judgement.{readings_of, entries_at, holds}
use Rattle.day.specs.declared.Station.{Station}
use Rattle.day.specs.declared.Day.{Day}
use Rattle.day.specs.declared.Earlier.{Earlier}
use Rattle.day.specs.declared.Refusal.TheVariants.{StationField, BadDate, OutOfRange, OutOfOrder}
use Rattle.day.proofs.Dates.{year_length_in, Dated, date_tells}
use Rattle.day.proofs.Tests.{AllFalse, all_false, passed}

-- ---- the station

module _ (st : Station) (day : Day) (earlier : Earlier) (accepted : holds StationField st day earlier ≡ false) where
  abbrev field_faults : List Bool
  field_faults = station_faults st.code.first st.code.second st.code.third st.code.fourth st.minimum st.elevation st.limit

  station_passed : AllFalse field_faults
  unfolding holds
  station_passed = all_false field_faults accepted

  pub minimum_in : InRange quantities.clear_minimum (pos st.minimum)
  minimum_in = passed quantities.clear_minimum station_passed.1.1.1.1.0

  pub elevation_high : st.elevation ≤ 3000
  elevation_high = (passed limits.elevation {z = pos st.elevation} station_passed.1.1.1.1.1.0).bounds.1

  pub limit_in : InRange quantities.wind_limit (pos st.limit)
  limit_in = passed quantities.wind_limit station_passed.1.1.1.1.1.1.0

-- ---- the date

module _ (st : Station) (day : Day) (earlier : Earlier) (accepted : holds BadDate st day earlier ≡ false) where
  date : Dated day.year day.d
  unfolding holds
  date = date_tells day.year day.d (not-false (is_date day.year day.d) accepted)

  pub day_low : 1 ≤ day.d
  day_low = date.first_day

  pub day_high : day.d ≤ 366
  day_high = le_trans date.last_day (year_length_in day.year).1

-- ---- the readings and the earlier means

module _ (st : Station) (day : Day) (earlier : Earlier) (accepted : holds OutOfRange st day earlier ≡ false) where
  abbrev faults : List Bool
  faults = reading_faults day.maximum day.minimum day.mean day.dewpoint day.radiation day.wind

  all_passed : AllFalse (any_of faults ∷ mean_fault earlier.one ∷ mean_fault earlier.two ∷ mean_fault earlier.three ∷ [])
  unfolding holds
  all_passed = all_false (any_of faults ∷ mean_fault earlier.one ∷ mean_fault earlier.two ∷ mean_fault earlier.three ∷ []) accepted

  pub one_passed : mean_fault earlier.one ≡ false
  one_passed = all_passed.1.0

  pub two_passed : mean_fault earlier.two ≡ false
  two_passed = all_passed.1.1.0

  pub three_passed : mean_fault earlier.three ≡ false
  three_passed = all_passed.1.1.1.0

  pub readings_in : ReadingsInRange (readings_of day)
  unfolding readings_of
  readings_in =
      let each = all_false faults all_passed.0 in
      record {
        maximum = passed quantities.temperature each.0;
        minimum = passed quantities.temperature each.1.0;
        mean = passed quantities.temperature each.1.1.0;
        dewpoint = passed quantities.temperature each.1.1.1.0;
        radiation = passed quantities.radiation each.1.1.1.1.0;
        wind = passed quantities.wind each.1.1.1.1.1.0;
      }

-- ---- their order

module _ (st : Station) (day : Day) (earlier : Earlier) (accepted : holds OutOfOrder st day earlier ≡ false) where
  order_passed : AllFalse (order_faults day.maximum day.minimum day.mean day.dewpoint)
  unfolding holds
  order_passed = all_false (order_faults day.maximum day.minimum day.mean day.dewpoint) accepted

  not_below : (x y : ℤ) → lt_z y x ≡ false → x ≤ℤ y
  not_below x y e = record { le = subst T (sym (le_z_is y x ∙ ap not e)) tt }

  pub minimum_mean : day.minimum ≤ℤ day.mean
  minimum_mean = not_below day.minimum day.mean order_passed.0

  pub dewpoint_maximum : day.dewpoint ≤ℤ day.maximum
  dewpoint_maximum = not_below day.dewpoint day.maximum order_passed.1.1.0

-- ---- the tables' entries

pub entries_in : (d elevation : ℕ) → 1 ≤ d → d ≤ 366 → elevation ≤ 3000 → EntriesInRange (entries_at d elevation)
entries_in d elevation low high top =
    record {
      albedo = albedo_in d low high;
      a1 = a1_in d low high;
      aw = aw_in d low high;
      bw = bw_in d low high;
      p = pressure_in elevation top;
    }
