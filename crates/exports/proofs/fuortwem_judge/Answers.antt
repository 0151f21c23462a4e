-- `exports::fuortwem_judge` meets its contract: the numbers handed in are passed on as they are, since each fits its width. Assumes nothing.
use mathlib.Core.Path.{◌≡◌, sym, ap, ◌∙◌}
use Prim.Native.Nat.{ℕ}
use lib.IntN.{ℤ}
use mir.Facts.{to_z-of_z}
use mir.Syntax.{w16}
use mir.Val.{SFits, to_z, of_z}
use Rattle.std.specs.Prelude.{Option, Ok}
use Rattle.day.specs.Judgement.{judged}
use Rattle.day.specs.declared.Day.{Day}
use Rattle.day.specs.declared.Earlier.{Earlier}
use Rattle.day.specs.declared.Station.{Station}
use Rattle.exports.specs.HandedIn.{station_of, day_of, mean_of, three_before}
use Rattle.exports.specs.Told.{said, said_by, verdict_said, FigureSaid}
use Rattle.exports.proofs.Told.{refusal_said, verdict_said_lem}
use Rattle.exports.proofs.fuortwem_judge.Goals as goal
use Rattle.exports.proofs.fuortwem_judge.Goals.{After-judge}

same : {z : ℤ} → SFits w16 z → to_z w16 (of_z w16 z) ≡ z
same fits = to_z-of_z {w = w16} fits

mean_is : {m : Option ℤ} (flag : ℕ) (tenths : ℤ) → SFits w16 tenths → m ≡ mean_of flag (to_z w16 (of_z w16 tenths)) → m ≡ mean_of flag tenths
mean_is flag tenths fits e = e ∙ ap (mean_of flag) (same fits)

module _ (c : After-judge) where
  abbrev station : Station
  station = let x = c.args in station_of x.first x.second x.third x.fourth x.c1 x.c2 x.c3 x.c4 x.c5 x.clear_minimum x.elevation x.wind_limit

  abbrev day : Day
  day = let x = c.args in day_of x.year x.d x.maximum x.minimum x.mean x.dewpoint x.radiation x.wind

  abbrev earlier : Earlier
  earlier = let x = c.args in three_before x.has_one x.one x.has_two x.two x.has_three x.three

  -- what is to be shown of a number that is returned
  abbrev Met : ℕ → Type 0
  Met r = record { result_value : said_by r ≡ verdict_said (judged station day earlier); figure_said : FigureSaid station day earlier r }

-- whatever says the verdict says that of the day handed in
judged_said : (c : After-judge) (r : ℕ) → said_by r ≡ verdict_said c.judge.result → Met c r
judged_said c r says =
    let x = c.args in
    let fits = c.ranges in
    let met =
    verdict_said_lem
    (λ i. station_of x.first x.second x.third x.fourth (same fits.c1 i) (same fits.c2 i) (same fits.c3 i) (same fits.c4 i) (same fits.c5 i)
    x.clear_minimum x.elevation x.wind_limit)
    (λ i. day_of x.year x.d (same fits.maximum i) (same fits.minimum i) (same fits.mean i) (same fits.dewpoint i) (same fits.radiation i)
    (same fits.wind i))
    (λ i. record {
      one = mean_is x.has_one x.one fits.one c.mean_of.ensures i;
      two = mean_is x.has_two x.two fits.two c.mean_of-2.ensures i;
      three = mean_is x.has_three x.three fits.three c.mean_of-3.ensures i;
    })
    _ r c.judge.ensures.value c.judge.ensures.figure_owed says in
    record { result_value = met.0; figure_said = met.1 }

pub returns-in-Ok-Measured : goal.returns-in-Ok-Measured
returns-in-Ok-Measured c =
    judged_said c.before.before _ (c.packed.ensures ∙ ap verdict_said (sym (c.in-Ok-Measured.is ∙ ap Ok c.in-Ok-Measured.field-0-is)))

pub returns-in-Ok-Estimated : goal.returns-in-Ok-Estimated
returns-in-Ok-Estimated c =
    judged_said c.before.before _ (c.packed-in-Ok-Estimated.ensures ∙ ap verdict_said (sym (c.in-Ok-Estimated.is ∙ ap Ok c.in-Ok-Estimated.field-0-is)))

pub returns-in-Err : goal.returns-in-Err
returns-in-Err c =
    judged_said c.before.before.before _
    (c.packed-in-Err.ensures ∙ ap (λ (k : ℕ). said k 0) c.into.ensures ∙ refusal_said c.in-Err.why ∙ ap verdict_said (sym c.in-Err.is))
