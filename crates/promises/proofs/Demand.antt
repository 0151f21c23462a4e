-- Demand 3, entire: what is read of a log, and what is judged of a day handed in alone, meet it. The theorem is `demand_met`. Assumes nothing.
use mathlib.Core.Path.{◌≡◌, refl, ap, ◌∙◌}
use mathlib.Core.Bool.{false, not}
use mathlib.Core.List.{List}
use Prim.Native.Nat.{ℕ}
use Rattle.std.specs.Prelude.{Ok}
use Rattle.day.specs.Bound.{WithinBound, FigureOwed, JudgesWithinBound}
use Rattle.day.specs.Judgement.{holds, Answered, as_judged, with_mark, judged, Verdict}
use Rattle.day.specs.declared.Day.{Day}
use Rattle.day.specs.declared.Earlier.{Earlier}
use Rattle.day.specs.declared.Refusal.{Refusal}
use Rattle.day.specs.declared.Refusal.TheVariants.{StationField, BadDate, Missing, OutOfRange, OutOfOrder, AboveClear}
use Rattle.day.specs.declared.Station.{Station}
use Rattle.day.proofs.DayBound.{judged_within_bound}
use Rattle.day.proofs.Marks.{either_way}
use Rattle.answers.specs.Answers.{kind_of, value_of, dated, day_answer, answer_bytes}
use lib.ListN.{length}
use Rattle.promises.specs.Demand.{AnsweredLog, AnsweredDay, FigureAt, NotRefused, FiguresOwed, EveryFigureWithinBound}
use Rattle.station_log.specs.Log.{outcome_of, buffer_after}
use Rattle.promises.proofs.Days.{answer_at, good_in_calendar}
use Rattle.station_log.proofs.SoundStation.{station_constants}
use Rattle.promises.proofs.Stations.{station_sound}

-- the mark changes an answer's kind and not its figure
pub marked_bytes : (x : Day) (n : ℕ) → answer_bytes (day_answer x (Ok (with_mark x n))) ≡ dated (kind_of (Ok (with_mark x n))) x.year x.d n
marked_bytes x n = ap (dated (kind_of (Ok (with_mark x n))) x.year x.d) (either_way (λ f. value_of (Ok f) ≡ n) x refl refl)

module _ {s : List ℕ} {i : ℕ} {st : Station} {x : Day} {earlier : Earlier} {place : ℕ} (d : AnsweredDay s i st x earlier place) where
  -- a log with a faulty station is refused, and a good date is one of the calendar: so none of the refusals holds
  none_holds : (r : Refusal) → holds r st (as_judged x) earlier ≡ false
  unfolding holds as_judged
  none_holds StationField = (station_sound s d.at).faultless
  none_holds BadDate = ap not (good_in_calendar d.at refl)
  none_holds Missing = d.others Missing tt
  none_holds OutOfRange = d.others OutOfRange tt
  none_holds OutOfOrder = d.others OutOfOrder tt
  none_holds AboveClear = d.others AboveClear tt

  pub answered : Answered st (as_judged x) earlier
  unfolding Answered
  answered = none_holds

  owed : (n : ℕ) × (judged st x earlier ≡ Ok (with_mark x n)) × WithinBound st (as_judged x) earlier n
  unfolding JudgesWithinBound FigureOwed
  owed = judged_within_bound st x earlier (station_constants (station_sound s d.at)) answered

  pub figure_at : (buffer : List ℕ) → AnsweredLog s buffer → FigureAt st x earlier place (buffer_after s buffer)
  unfolding AnsweredLog FigureAt
  figure_at buffer log =
      (owed.0, answer_at d.at buffer log.1 ∙ ap (λ (v : Verdict). answer_bytes (day_answer x v)) owed.1 ∙ marked_bytes x owed.0, owed.2)

pub log_within_bound : (s buffer : List ℕ) → FiguresOwed s buffer (buffer_after s buffer)
unfolding FiguresOwed
log_within_bound s buffer log i place st x earlier d = figure_at d buffer log

pub not_refused : (s buffer : List ℕ) → NotRefused s buffer (outcome_of s (length buffer))
unfolding NotRefused AnsweredLog
not_refused s buffer log = log

pub demand_met : EveryFigureWithinBound (λ s buffer. outcome_of s (length buffer)) buffer_after judged
unfolding EveryFigureWithinBound
demand_met = (λ s buffer. (not_refused s buffer, log_within_bound s buffer), judged_within_bound)
