-- What is known of a day record of a log: its answer stands at its place (`answer_at`), and its crop's figure behind it (`crop_answer_at`). Assumes
-- nothing.
use mathlib.Core.Path.{◌≡◌, refl, sym, ap, ◌∙◌}
use mathlib.Core.Bool.{Bool, true, cond}
use mathlib.Core.List.{List, [], ◌∷◌, ◌++◌, append_assoc, append-nil}
use Prim.Native.Nat.{ℕ, ◌+◌}
use native.Mathlib.Omega.{arith}
use lib.ListN.{length, take, drop, length-append}
use Rattle.day.specs.Calendar.{is_date}
use Rattle.day.specs.declared.Day.{Day}
use Rattle.day.specs.declared.Earlier.{Earlier}
use Rattle.day.specs.declared.Station.{Station}
use Rattle.answers.specs.Answers.{day_answer, answer_bytes, bytes_of}
use Rattle.promises.specs.Days.{DayAt}
use Rattle.station_log.specs.History.{verdict_of}
use Rattle.station_log.specs.Log.{day, crop_answers, answers_of, outcome_of, buffer_after}
use Rattle.std.specs.Prelude.{Ok, Err}
use Rattle.answers.specs.declared.Answer.{Answer}
use Rattle.station_log.proofs.Means.{good_date_lem}
use Rattle.promises.proofs.RecordPlaces.{part_at, rest, about_record}
use Rattle.day.specs.Judgement.{judged, Verdict}
use Rattle.day.specs.declared.Refusal.TheVariants.{BadDate}

-- the verdict in its answer: 6, or that of the judgement
abbrev pub verdict_at : Station → Day → Earlier → Bool → Verdict
verdict_at station x earlier good = cond good (judged station x earlier) (Err BadDate)

-- ---- a day record

module _ {s : List ℕ} {i : ℕ} {x : Station} {y : Day} {earlier : Earlier} {good : Bool} {place : ℕ} (d : DayAt s i x y earlier good place) where
  verdict_is : verdict_of d.block.station d.block.days y ≡ verdict_at x y earlier good
  unfolding verdict_of
  verdict_is = rw (d.stationed, d.means, d.dated)

  -- the answers before it, its own, the crop's, and all that stands behind
  module _ (buffer : List ℕ) {n : ℕ} (e : outcome_of s (length buffer) ≡ Ok n) where
    abbrev front : List ℕ
    front = bytes_of (answers_of d.before)

    abbrev own : List ℕ
    own = answer_bytes (day_answer y (verdict_at x y earlier good))

    abbrev crops : List ℕ
    crops = bytes_of (crop_answers d.block.crop y (verdict_at x y earlier good))

    abbrev back : List ℕ
    back = rest s buffer e d.before d.later (day d.block y) d.stands

    whole : buffer_after s buffer ≡ front ++ (own ++ (crops ++ back))
    whole =
        about_record s buffer e d.before d.later (day d.block y) d.stands
        ∙ ap (λ (v : Verdict). front ++ ((answer_bytes (day_answer y v) ++ bytes_of (crop_answers d.block.crop y v)) ++ back)) verdict_is
        ∙ ap (λ (l : List ℕ). front ++ l) (append_assoc own crops back)

    -- in the buffer that an accepted log leaves, the day's own answer stands at its place
    pub answer_at : take 9 (drop place (buffer_after s buffer)) ≡ own
    answer_at = ap (λ (l : List ℕ). take 9 (drop place l)) whole ∙ part_at front own (crops ++ back) refl d.behind

    -- and the crop's right behind it
    pub crop_answer_at : {a : Answer} → length (answer_bytes a) ≡ 9 → crop_answers d.block.crop y (verdict_at x y earlier good) ≡ a ∷ []
        → take 9 (drop (place + 9) (buffer_after s buffer)) ≡ answer_bytes a
    crop_answer_at {a} nine is =
        ap (λ (l : List ℕ). take 9 (drop (place + 9) l))
        (whole ∙ sym (append_assoc front own (crops ++ back))
        ∙ ap (λ (l : List Answer). (front ++ own) ++ (bytes_of l ++ back)) is
        ∙ ap (λ (l : List ℕ). (front ++ own) ++ (l ++ back)) (append-nil (answer_bytes a)))
        ∙ part_at (front ++ own) (answer_bytes a) back {place = place + 9} nine (omega (arith, d.behind, length-append front own))

  pub good_in_calendar : good ≡ true → is_date y.year y.d ≡ true
  good_in_calendar g = good_date_lem d.block.days y (sym d.dated ∙ g)
