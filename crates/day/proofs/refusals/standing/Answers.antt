-- `day::refusals::standing` meets its contract: the refusals in their order, and what passed the first five has what the sheet's own line asks for.
-- Assumes nothing.
use mathlib.Core.Path.{sym, ◌∙◌, ap}
use mathlib.Core.Bool.{not}
use Rattle.day.specs.Judgement.{holds}
use Rattle.day.proofs.Passed.{minimum_in, day_low, day_high}
use Rattle.day.proofs.refusals.standing.Goals as goal

pub above_clear-requires-clause-date_and_minimum : goal.above_clear-requires-clause-date_and_minimum
unfolding holds
above_clear-requires-clause-date_and_minimum c =
    let date = ap not (sym c.is_date.ensures ∙ c.if-not-is_date.false) in
    let minimum = minimum_in c.args.station c.args.day c.args.earlier (sym c.bad_station.ensures ∙ c.if-bad_station.false) in (
      day_low c.args.station c.args.day c.args.earlier date,
      day_high c.args.station c.args.day c.args.earlier date,
      minimum.bounds.0,
      minimum.bounds.1,
    )
