-- `day::judge::figure` meets its contract: a day that no refusal holds of has what the sheet asks for. Assumes nothing.
use mathlib.Core.Path.{◌≡◌, sym, ◌∙◌, ap, subst}
use mathlib.Core.Bool.{false}
use Prim.Native.Nat.{◌≤◌}
use native.Mathlib.Omega.{arith}
use lib.IntN.{pos, nat_abs}
use Rattle.numbers.specs.Ranges.{InRange}
use Rattle.numbers.proofs.Reflection.{read_back}
use Rattle.numbers.proofs.Signs.{is_non_neg, nat_abs_in}
use Rattle.sheet.specs.Accepted.{ReadingsInRange, EntriesInRange}
use Rattle.sheet.specs.Quantities as quantities
use Rattle.sheet.specs.StepSheet as sheet
use Rattle.sheet.proofs.Values.{keep, given_back}
use Rattle.day.specs.Judgement.{readings_of, entries_of, clear_of, figure_of, holds, Answered}
use Rattle.day.specs.declared.Station.{Station}
use Rattle.day.specs.declared.Day.{Day}
use Rattle.day.specs.declared.Earlier.{Earlier}
use Rattle.day.specs.declared.Refusal.{Refusal}
use Rattle.day.specs.declared.Refusal.TheVariants.{StationField, BadDate, OutOfRange, AboveClear}
use Rattle.day.proofs.Passed.{minimum_in, elevation_high, limit_in, day_low, day_high, one_passed, two_passed, three_passed, readings_in, entries_in}
use Rattle.day.proofs.Tests.{unsigned}
use Rattle.day.proofs.judge.figure.Goals as goal

module _ (st : Station) (day : Day) (earlier : Earlier) (answered : Answered st day earlier) where
  none_holds : (r : Refusal) → holds r st day earlier ≡ false
  unfolding Answered
  none_holds r = answered r

  low : 1 ≤ day.d
  low = day_low st day earlier (none_holds BadDate)

  high : day.d ≤ 366
  high = day_high st day earlier (none_holds BadDate)

  elevation : st.elevation ≤ 3000
  elevation = elevation_high st day earlier (none_holds StationField)

  minimum : InRange quantities.clear_minimum (pos st.minimum)
  minimum = minimum_in st day earlier (none_holds StationField)

  not_above_twice : sheet.above_twice_clear day.radiation (clear_of st day) ≡ false
  unfolding holds
  not_above_twice = none_holds AboveClear

pub entries_at-t-requires : goal.entries_at-t-requires
entries_at-t-requires c = (
  low c.args.station c.args.day c.args.earlier c.requires,
  high c.args.station c.args.day c.args.earlier c.requires,
  elevation c.args.station c.args.day c.args.earlier c.requires,
)

pub earlier_of-means-requires : goal.earlier_of-means-requires
earlier_of-means-requires c =
    let out_of_range = none_holds c.args.station c.args.day c.args.earlier c.requires OutOfRange in (
      one_passed c.args.station c.args.day c.args.earlier out_of_range,
      two_passed c.args.station c.args.day c.args.earlier out_of_range,
      three_passed c.args.station c.args.day c.args.earlier out_of_range,
    )

pub clear_of-q-requires : goal.clear_of-q-requires
clear_of-q-requires c = (
  low c.args.station c.args.day c.args.earlier c.requires,
  high c.args.station c.args.day c.args.earlier c.requires,
  (minimum c.args.station c.args.day c.args.earlier c.requires).bounds.0,
  (minimum c.args.station c.args.day c.args.earlier c.requires).bounds.1,
)

pub figure-requires : goal.figure-requires
unfolding readings_of
figure-requires c =
    let none = none_holds c.args.station c.args.day c.args.earlier c.requires in
    let radiation = ap (λ r. r.radiation) c.readings_of-x.ensures in
    let q = given_back c.clear_of-q.ensures tt in (
      subst ReadingsInRange (sym c.readings_of-x.ensures) (readings_in c.args.station c.args.day c.args.earlier (none OutOfRange)),
      subst EntriesInRange (sym c.entries_at-t.ensures)
          (entries_in c.args.day.d c.args.station.elevation
          (low c.args.station c.args.day c.args.earlier c.requires)
          (high c.args.station c.args.day c.args.earlier c.requires)
          (elevation c.args.station c.args.day c.args.earlier c.requires)),
      c.earlier_of-means.ensures.1,
      record {
        range = keep c.clear_of-q.ensures.1 tt;
        below = (λ i. sheet.above_twice_clear (radiation i) (q i)) ∙ not_above_twice c.args.station c.args.day c.args.earlier c.requires;
      },
      subst (InRange quantities.wind_limit) (sym (unsigned (omega arith) c.from-limit.ensures))
          (limit_in c.args.station c.args.day c.args.earlier (none StationField)),
    )

figure_in : (c : goal.After-figure) → InRange quantities.figure (read_back c.figure.result)
figure_in c = keep c.figure.ensures.1 tt

pub overflow_cast-result : goal.overflow_cast-result
overflow_cast-result c = (is_non_neg (figure_in c), omega (arith, nat_abs_in (figure_in c)))

pub returns : goal.returns
unfolding figure_of entries_of
returns c =
    let limit = unsigned (omega arith) c.from-limit.ensures in
    let q = given_back c.clear_of-q.ensures tt in
    ap nat_abs
    (given_back c.figure.ensures tt
    ∙ (λ i. sheet.figure (c.readings_of-x.ensures i) (c.entries_at-t.ensures i) (c.earlier_of-means.ensures.0 i) (q i) (limit i)))
