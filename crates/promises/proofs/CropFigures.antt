-- What is promised of crop figures holds of what is read of a log. The theorem is `crop_figures_met`. The bound follows from the day's own and from the
-- one rounding: nothing of the sheet is used. Assumes nothing.
use mathlib.Core.Path.{◌≡◌, refl, sym, ap, ◌∙◌, subst}
use mathlib.Core.Bool.{Bool, false, cond}
use mathlib.Core.List.{List, [], ◌∷◌}
use Prim.Native.Nat.{ℕ}
use Rattle.std.specs.Prelude.{Ok}
use Rattle.station_log.specs.Log.{Outcome}
use Rattle.crops.specs.Crop.{bad_crop, crop_figure}
use Rattle.crops.specs.declared.Crop.{Crop}
use Rattle.crops.proofs.CropBound.{crop_within_bound, crop_within_proved}
use Rattle.crops.proofs.CropFigure.{twice_most}
use Rattle.day.specs.Bound.{Within, WithinBound, FigureOwed, JudgesWithinBound}
use Rattle.day.proofs.DayBound.{proved_bound, judged_within_bound, judged_within_proved}
use Rattle.day.specs.Judgement.{as_judged, with_mark, judged, Verdict}
use Rattle.day.specs.declared.Day.{Day}
use Rattle.day.specs.declared.Earlier.{Earlier}
use Rattle.day.specs.declared.Station.{Station}
use Rattle.day.proofs.Marks.{either_way}
use Rattle.answers.specs.Answers.{value_of, day_answer, answer_bytes}
use Rattle.answers.specs.declared.Answer.TheVariants as answer
use Rattle.promises.specs.CropFigures.{CropDay, CropFigureAt, CropFiguresOwed}
use Rattle.promises.specs.Demand.{AnsweredLog, NotRefused, FiguresOwed}
use Rattle.station_log.specs.Log.{Planted, planted, crop_answer, crop_answers, buffer_after, Read}
use Rattle.promises.proofs.Days.{answer_at, crop_answer_at}
use Rattle.promises.proofs.Demand.{marked_bytes, answered, not_refused, log_within_bound}
use Rattle.station_log.proofs.SoundStation.{station_constants}
use Rattle.promises.proofs.Stations.{station_sound, crop_faultless}

-- the promise: `read` gives the buffer that a reader leaves, of the log and of the buffer lent
unfoldable pub EveryCropFigure : (List ℕ → List ℕ → List ℕ) → Type 0
EveryCropFigure read = (s buffer : List ℕ) → CropFiguresOwed s buffer (read s buffer)

-- a mark hides no figure
one_figure : (x : Day) {n m : ℕ} → ◌≡◌ {A = Verdict} (Ok (with_mark x n)) (Ok (with_mark x m)) → n ≡ m
one_figure x {n} {m} e = sym (either_way (λ f. value_of (Ok f) ≡ n) x refl refl) ∙ ap value_of e ∙ either_way (λ f. value_of (Ok f) ≡ m) x refl refl

-- and a crop's answer is the same with it
marked_alike : (c : Crop) (x : Day) (n : ℕ) → crop_answers (planted c) x (Ok (with_mark x n)) ≡ crop_answer c x n
marked_alike c x n = either_way (λ f. crop_answers (planted c) x (Ok f) ≡ crop_answer c x n) x refl refl

module _ {s : List ℕ} {i : ℕ} {st : Station} {x : Day} {earlier : Earlier} {place : ℕ} {c : Crop} (d : CropDay s i st x earlier place c) where
  -- the day's figure, with both its bounds
  record Figured : Type 0 where
    n : ℕ
    told : judged st x earlier ≡ Ok (with_mark x n)
    demanded : WithinBound st (as_judged x) earlier n
    proved : Within proved_bound st (as_judged x) earlier n

  figured : Figured
  unfolding JudgesWithinBound FigureOwed
  figured =
      let constants = station_constants (station_sound s d.answered.at) in
      let first = judged_within_bound st x earlier constants (answered d.answered) in
      let second = judged_within_proved st x earlier constants (answered d.answered) in
      record { n = first.0; told = first.1; demanded = first.2; proved = subst (Within proved_bound st (as_judged x) earlier) (one_figure x (sym second.1 ∙ first.1)) second.2 }

  good : bad_crop c ≡ false
  good = crop_faultless s d.answered.at d.holds

  -- the answers of the crop that holds are its figure
  one_answer : (n : ℕ) → judged st x earlier ≡ Ok (with_mark x n)
      → crop_answers d.answered.at.block.crop x (judged st x earlier) ≡ answer.Crop c.code (crop_figure c x.d n) ∷ []
  one_answer n told =
      ap (λ (pl : Planted). crop_answers pl x (judged st x earlier)) d.holds
      ∙ ap (crop_answers (planted c) x) told
      ∙ marked_alike c x n
      ∙ ap (λ (b : Bool). cond b (answer.Crop c.code (crop_figure c x.d n) ∷ []) []) d.season

  crop_figure_at : (buffer : List ℕ) → AnsweredLog s buffer → CropFigureAt st x earlier place c (buffer_after s buffer)
  unfolding AnsweredLog as_judged
  crop_figure_at buffer log =
      let n = figured.n in
      record {
        reference = n;
        figure = crop_figure c x.d n;
        own = answer_at d.answered.at buffer log.1 ∙ ap (λ (v : Verdict). answer_bytes (day_answer x v)) figured.told ∙ marked_bytes x n;
        behind = crop_answer_at d.answered.at buffer log.1 {a = answer.Crop c.code (crop_figure c x.d n)} refl (one_answer n figured.told);
        defined = refl;
        twice = twice_most c good x.d n;
        within = crop_within_bound c good st (as_judged x) earlier n figured.demanded;
        sharper = crop_within_proved c good st (as_judged x) earlier n figured.proved;
      }

pub crop_figures_met : EveryCropFigure buffer_after
unfolding EveryCropFigure CropFiguresOwed
crop_figures_met s buffer log i place st x earlier c d = crop_figure_at d buffer log

-- a reader that leaves what is owed for the log leaves the figures that are owed, the days' and the crops'
pub with_figures : {s buffer after : List ℕ} {o : Outcome} → Read s buffer o after
    → Read s buffer o after × (NotRefused s buffer o × (FiguresOwed s buffer after × CropFiguresOwed s buffer after))
unfolding EveryCropFigure
with_figures {s} {buffer} h = (
  h,
  (
    subst (NotRefused s buffer) (sym h.outcome) (not_refused s buffer),
    (
      subst (FiguresOwed s buffer) (sym h.written) (log_within_bound s buffer),
      subst (CropFiguresOwed s buffer) (sym h.written) (crop_figures_met s buffer),
    ),
  ),
)
