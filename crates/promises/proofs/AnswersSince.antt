-- What has become of each record's answers since the minimum stands for a missing dew point, and how many bytes more they take (`answers_stay`,
-- `substituted`, `all_longer`). Assumes nothing.
use mathlib.Core.Bool.{Bool, true, false, cond}
use mathlib.Core.List.{List, [], ◌∷◌, ◌++◌}
use mathlib.Core.Logic.{◌≢◌}
use mathlib.Core.Path.{◌≡◌, refl, sym, ap, subst, ◌∙◌}
use Prim.Native.Nat.{◌+◌, ◌*◌}
use native.Mathlib.Omega.{arith}
use lib.Dec.{T}
use lib.ListN.{length}
use Rattle.std.specs.Prelude.{Err}
use Rattle.answers.specs.Answers.{bytes_of}
use Rattle.answers.specs.declared.Answer.{Answer}
use Rattle.answers.proofs.Bytes.{bytes_longer}
use Rattle.answers.proofs.Roles.{bytes_counted}
use Rattle.day.specs.Judgement.{lacks_dew_point, judged, Verdict}
use Rattle.day.specs.declared.Day.{Day}
use Rattle.day.specs.declared.Refusal.{Refusal}
use Rattle.day.specs.declared.Refusal.TheVariants.{BadDate, Missing}
use Rattle.day.specs.declared.Station.{Station}
use Rattle.day.proofs.DaySince as day-since
use Rattle.day.proofs.WithoutSubstitute.{judged_strictly, with_minimum, estimated}
use Rattle.station_log.specs.History.{good_date, earlier_means, verdict_of}
use Rattle.station_log.specs.Log.{BlockRead, Entry, day, crop_answers, day_answers, answers_for, answers_of}
use Rattle.station_log.proofs.Laws.{DayIn, day_in, entry_cases}
use Rattle.station_log.proofs.Planted.{none_refused, one_most}
use Rattle.promises.proofs.WithoutSubstitute.{verdict_strictly, by_day, day_strictly, answers_strictly, of_records, Stays, AllStay, added_at, added_to}

-- ---- a day

module _ (st : Station) (h : List Day) (y : Day) where
  abbrev now : Verdict
  now = judged st y (earlier_means h y)

  abbrev then : Verdict
  then = judged_strictly st y (earlier_means h y)

  -- 6, unless the date is good
  abbrev if_good : Bool → Verdict → Verdict
  if_good good v = cond good v (Err BadDate)

  verdict_stays : (lacks_dew_point y ≡ true → verdict_strictly st h y ≢ Err Missing) → verdict_of st h y ≡ verdict_strictly st h y
  unfolding verdict_of verdict_strictly
  verdict_stays stays = by (good_date h y) (lacks_dew_point y) refl stays
    where
      by : (good lacks : Bool) → lacks_dew_point y ≡ lacks → (lacks ≡ true → if_good good then ≢ Err Missing) → if_good good now ≡ if_good good then
      by true true e other = (day-since.since st y (earlier_means h y)).kept (other refl)
      by true false e other = (day-since.since st y (earlier_means h y)).remains e
      by false lacks e other = refl

  substituted_verdict : good_date h y ≡ true → lacks_dew_point y ≡ true → verdict_of st h y ≡ estimated (judged_strictly st (with_minimum y) (earlier_means h y))
  unfolding verdict_of
  substituted_verdict good lacks = ap (λ (b : Bool). if_good b now) good ∙ (day-since.since st y (earlier_means h y)).substituted lacks

  -- without its dew point alone it was refused, with 6 or otherwise
  was_refused : lacks_dew_point y ≡ true → (r : Refusal) × (verdict_strictly st h y ≡ Err r)
  unfolding verdict_strictly
  was_refused lacks = by (good_date h y)
    where
      by : (good : Bool) → (r : Refusal) × (if_good good then ≡ Err r)
      by true = day-since.refused_without st y (earlier_means h y) lacks
      by false = (BadDate, refl)

-- ---- a record's answers

pub answers_stay : (e : Entry) → Stays e → answers_for e ≡ answers_strictly e
answers_stay =
    entry_cases (λ (e : Entry). Stays e → answers_for e ≡ answers_strictly e) (λ p x stays. refl)
    (λ b y stays. ap (day_answers b y) (verdict_stays b.station b.days y (stays b y refl)))
    (λ e other stays. sym (ap (by_day day_strictly (answers_for e)) other.no_day_lem))

pub substituted : (b : BlockRead) (y : Day) → good_date b.days y ≡ true → lacks_dew_point y ≡ true
    → let v = estimated (judged_strictly b.station (with_minimum y) (earlier_means b.days y)) in answers_for (day b y) ≡ day_answers b y v
substituted b y good lacks = ap (day_answers b y) (substituted_verdict b.station b.days y good lacks)

-- a day has nine bytes more for a crop answer that was added
longer : (b : BlockRead) (y : Day) (lacks : Bool) → lacks_dew_point y ≡ lacks →
    length (bytes_of (answers_for (day b y)))
    ≡ length (bytes_of (answers_strictly (day b y))) + 9 * cond lacks (length (crop_answers b.crop y (verdict_of b.station b.days y))) 0
longer b y true e =
    let refused-then = was_refused b.station b.days y e in
    omega (
      arith,
      ap (λ (v : Verdict). length (bytes_of (crop_answers b.crop y v))) refused-then.1,
      ap (λ (l : List Answer). length (bytes_of l)) (none_refused b.crop y refused-then.0),
      bytes_counted (crop_answers b.crop y (verdict_of b.station b.days y)),
      one_most b.crop y (verdict_of b.station b.days y),
    )
longer b y false e =
    omega (arith, ap (λ (v : Verdict). length (bytes_of (day_answers b y v))) (verdict_stays b.station b.days y (λ lacks. absurd (subst T (sym lacks ∙ e) tt))))

one_longer : (e : Entry) → length (bytes_of (answers_for e)) ≡ length (bytes_of (answers_strictly e)) + 9 * by_day added_at 0 (day_in e)
one_longer =
    entry_cases (λ (e : Entry). length (bytes_of (answers_for e)) ≡ length (bytes_of (answers_strictly e)) + 9 * by_day added_at 0 (day_in e)) (λ p x. refl)
    (λ b y. longer b y (lacks_dew_point y) refl)
    (λ e other.
    omega (arith, ap (λ (d : DayIn). length (bytes_of (by_day day_strictly (answers_for e) d))) other.no_day_lem, ap (by_day added_at 0) other.no_day_lem))

pub all_longer : (es : List Entry) → length (bytes_of (answers_of es)) ≡ length (bytes_of (of_records es)) + 9 * added_to es
all_longer [] = refl
all_longer (e ∷ es) = omega (arith, one_longer e, all_longer es, bytes_longer (answers_strictly e) (of_records es), bytes_longer (answers_for e) (answers_of es))

pub all_stay : (es : List Entry) → AllStay es → answers_of es ≡ of_records es
all_stay [] stay = refl
all_stay (e ∷ es) stay = λ i. answers_stay e stay.0 i ++ all_stay es stay.1 i
