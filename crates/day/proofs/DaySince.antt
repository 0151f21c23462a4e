-- What has become of each verdict since the minimum stands for a missing dew point: `since`, over the rules before in WithoutSubstitute.antt.
-- Assumes nothing.
use mathlib.Core.Bool.{Bool, true, false, not, cond}
use mathlib.Core.List.{[], ◌∷◌}
use mathlib.Core.Logic.{◌≢◌, ◌⊎◌, inl, inr, ⊎_elim}
use mathlib.Core.Path.{◌≡◌, refl, sym, ap, subst, ◌∙◌}
use lib.Dec.{T}
use Rattle.std.specs.Prelude.{Result, Ok, Err}
use Rattle.day.specs.Calendar.{is_date}
use Rattle.day.specs.Rules.{any_of, bad_station, is_missing, other_marks}
use Rattle.day.specs.Judgement.{figure_of, holds, first_of, standing_of, lacks_dew_point, with_dew_point, as_judged, with_mark, verdict_with, judged}
use Rattle.day.specs.declared.Station.{Station}
use Rattle.day.specs.declared.Day.{Day}
use Rattle.day.specs.declared.Earlier.{Earlier}
use Rattle.day.specs.declared.Refusal.{Refusal}
use Rattle.day.specs.declared.Refusal.TheVariants.{StationField, BadDate, Missing, OutOfRange, OutOfOrder, AboveClear}
use Rattle.day.specs.declared.Figure.{Figure}
use Rattle.day.specs.declared.Figure.TheVariants.{Measured, Estimated}
use Rattle.day.proofs.WithoutSubstitute.{judged_strictly, with_minimum, estimated, Since}

-- ---- the day as it is judged

judged_with : (x : Day) {lacks : Bool} → lacks_dew_point x ≡ lacks → as_judged x ≡ with_dew_point x (cond lacks x.minimum x.dewpoint)
unfolding as_judged
judged_with x e = ap (λ (lacks : Bool). with_dew_point x (cond lacks x.minimum x.dewpoint)) e

-- ---- the tests before 7, and 7 itself

-- 3 and 6 are the same with any dew point: where 7 held it was the first, or what was first still is
earlier_tests : (a b m : Bool) (s t : Result (Unit {0}) Refusal) (v w : Figure) → m ≡ true →
    let before = cond a (Err StationField) (cond b (Err BadDate) (cond m (Err Missing) s)) in
    let after = cond a (Err StationField) (cond b (Err BadDate) t) in
    (verdict_with before v ≡ Err Missing) ⊎ ((r : Refusal) × (verdict_with before v ≡ Err r) × (verdict_with after w ≡ Err r))
earlier_tests true b m s t v w e = inr (StationField, refl, refl)
earlier_tests false true m s t v w e = inr (BadDate, refl, refl)
earlier_tests false false true s t v w e = inl refl
earlier_tests false false false s t v w e = absurd (subst T (sym e) tt)

dew_point_missing : (x : Day) → lacks_dew_point x ≡ true → is_missing x.dewpoint ≡ true
unfolding lacks_dew_point
dew_point_missing x e = by (is_missing x.dewpoint) (not (any_of (other_marks x.maximum x.minimum x.mean x.radiation x.wind))) e
  where
    by : (b c : Bool) → cond b c false ≡ true → b ≡ true
    by true c e = refl
    by false c e = e

module _ (st : Station) (x : Day) (earlier : Earlier) where
  remains : lacks_dew_point x ≡ false → judged st x earlier ≡ judged_strictly st x earlier
  unfolding judged judged_strictly with_mark
  remains e =
      let same : as_judged x ≡ x = judged_with x e in
      λ i. verdict_with (standing_of st (same i) earlier) (cond (e i) (Estimated (figure_of st (same i) earlier)) (Measured (figure_of st (same i) earlier)))

  substituted : lacks_dew_point x ≡ true → judged st x earlier ≡ estimated (judged_strictly st (with_minimum x) earlier)
  unfolding judged judged_strictly with_mark
  substituted e =
      let same : as_judged x ≡ with_minimum x = judged_with x e in
      (λ i. verdict_with (standing_of st (same i) earlier) (cond (e i) (Estimated (figure_of st (same i) earlier)) (Measured (figure_of st (same i) earlier))))
      ∙ marked (standing_of st (with_minimum x) earlier)
    where
      marked : (s : Result (Unit {0}) Refusal) → verdict_with s (Estimated (figure_of st (with_minimum x) earlier)) ≡ estimated (verdict_with s (Measured (figure_of st (with_minimum x) earlier)))
      marked (Err r) = refl
      marked (Ok done) = refl

  missing_held : lacks_dew_point x ≡ true → holds Missing st x earlier ≡ true
  unfolding holds
  missing_held e =
      ap (λ (b : Bool). cond b true (any_of (other_marks x.maximum x.minimum x.mean x.radiation x.wind))) (dew_point_missing x e)

  -- so the day was refused with 7; or with 3 or 6, and is so still
  seven_or_still : lacks_dew_point x ≡ true →
      (judged_strictly st x earlier ≡ Err Missing) ⊎ ((r : Refusal) × (judged_strictly st x earlier ≡ Err r) × (judged st x earlier ≡ Err r))
  unfolding judged judged_strictly standing_of holds as_judged
  seven_or_still e =
      earlier_tests (bad_station st) (not (is_date x.year x.d)) (holds Missing st x earlier)
      (first_of (OutOfRange ∷ OutOfOrder ∷ AboveClear ∷ []) (λ r. holds r st x earlier))
      (first_of (Missing ∷ OutOfRange ∷ OutOfOrder ∷ AboveClear ∷ []) (λ r. holds r st (as_judged x) earlier))
      (Measured (figure_of st x earlier)) (with_mark x (figure_of st (as_judged x) earlier)) (missing_held e)

  pub refused_without : lacks_dew_point x ≡ true → (r : Refusal) × (judged_strictly st x earlier ≡ Err r)
  refused_without e = ⊎_elim (λ seven. (Missing, seven)) (λ still. (still.0, still.1)) (seven_or_still e)

  kept : (lacks : Bool) → lacks_dew_point x ≡ lacks → judged_strictly st x earlier ≢ Err Missing → judged st x earlier ≡ judged_strictly st x earlier
  kept true e other = ⊎_elim (λ seven. absurd (other seven)) (λ still. still.2 ∙ sym still.1) (seven_or_still e)
  kept false e other = remains e

  pub since : Since st x earlier
  since = record { kept = kept (lacks_dew_point x) refl; remains = remains; substituted = substituted }
