-- A day as it was judged before document 02, W4, that is, strictly: a missing dew point refused it with 7, as any other missing reading does. That stands
-- here alone, to show what has become of each verdict since the minimum stands for a missing dew point (`Since`). The theorem is `since` in
-- DaySince.antt. Assumes nothing.
use mathlib.Core.Bool.{true, false}
use mathlib.Core.Logic.{◌≢◌}
use mathlib.Core.Path.{◌≡◌}
use Rattle.std.specs.Prelude.{Ok, Err}
use Rattle.day.specs.Judgement.{figure_of, standing_of, lacks_dew_point, with_dew_point, verdict_with, judged, Verdict}
use Rattle.day.specs.declared.Station.{Station}
use Rattle.day.specs.declared.Day.{Day}
use Rattle.day.specs.declared.Earlier.{Earlier}
use Rattle.day.specs.declared.Refusal.TheVariants.{Missing}
use Rattle.day.specs.declared.Figure.TheVariants.{Measured, Estimated}

-- ---- the rules before

unfoldable pub judged_strictly : Station → Day → Earlier → Verdict
judged_strictly st x earlier = verdict_with (standing_of st x earlier) (Measured (figure_of st x earlier))

-- the same day with the minimum for its dew point
abbrev pub with_minimum : Day → Day
with_minimum x = with_dew_point x x.minimum

-- a verdict with the mark on its figure
abbrev pub estimated : Verdict → Verdict
estimated (Ok (Measured n)) = Ok (Estimated n)
estimated (Ok (Estimated n)) = Ok (Estimated n)
estimated (Err r) = Err r

-- ---- what has become of them

pub record Since (st : Station) (x : Day) (earlier : Earlier) : Type 0 where
  -- "All days answered before keep their answers", and a day that was refused otherwise than with 7 keeps its refusal
  pub kept : judged_strictly st x earlier ≢ Err Missing → judged st x earlier ≡ judged_strictly st x earlier
  -- "Refusal 7 remains for any other missing reading"
  pub remains : lacks_dew_point x ≡ false → judged st x earlier ≡ judged_strictly st x earlier
  -- without its dew point alone, a day is judged as the same day with the minimum for it was, and its figure has the mark
  pub substituted : lacks_dew_point x ≡ true → judged st x earlier ≡ estimated (judged_strictly st (with_minimum x) earlier)
