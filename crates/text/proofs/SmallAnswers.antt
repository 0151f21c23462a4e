-- The answers of a log are small (`all_small`): no day's line is longer than 23 bytes (`line_most`), and any other answer's line fits where its figure is
-- moderate. Assumes nothing.
use mathlib.Core.Path.{◌≡◌, ap, subst}
use mathlib.Core.Bool.{true, not}
use mathlib.Core.List.{List, [], ◌∷◌, ◌++◌}
use Prim.Native.Nat.{ℕ, ◌+◌, ◌≤◌, ◌<◌}
use native.Mathlib.Omega.{arith}
use lib.Dec.{lit≤}
use lib.ListN.{length, get_or}
use Rattle.std.specs.Prelude.{Ok, Err}
use Rattle.answers.specs.Answers.{Role}
use Rattle.answers.specs.declared.Answer.{Answer}
use Rattle.answers.proofs.Roles.{AllBeside, AllModerate}
use Rattle.day.specs.Calendar.{is_date}
use Rattle.day.specs.Judgement.{holds, judged, Verdict}
use Rattle.day.specs.declared.Code.{Code}
use Rattle.day.specs.declared.Day.{Day}
use Rattle.day.specs.declared.Refusal.{Refusal}
use Rattle.day.specs.declared.Refusal.TheVariants.{BadDate}
use Rattle.day.specs.declared.Station.{Station}
use Rattle.day.specs.declared.Figure.TheVariants.{Measured, Estimated}
use Rattle.day.specs.Bound.{FigureAtMost}
use Rattle.day.proofs.Dates.{date_tells}
use Rattle.day.proofs.FigureLimit.{most_figure, figure_most}
use Rattle.day.proofs.Passed.{day_high}
use Rattle.records.specs.Bytes.{word_at}
use Rattle.records.specs.Record.{day_at}
use Rattle.std.proofs.lemmas.Bool.{cond_both}
use Rattle.station_log.specs.History.{good_date, earlier_means, verdict_of}
use Rattle.station_log.specs.Log.{unopened, Entry, day, past_all, crop_answers, answers_for, answers_of, answers_at_end, answers_in, answers_to, Reading, refused, accepted, reading_of}
use Rattle.station_log.specs.Parts.{entries_of}
use Rattle.station_log.proofs.Laws.{Kept, moderate, entry_cases, end_beside, end_moderate}
use Rattle.station_log.proofs.Means.{good_date_lem}
use Rattle.station_log.proofs.Planted.{one_most}
use Rattle.station_log.proofs.SoundRecords.{SoundEntry, SoundEntries, sound_reading}
use Rattle.station_log.proofs.SoundStation.{Sound, station_constants}
use Rattle.text.proofs.Laws.{Owed, owed}
use Rattle.text.proofs.Sizes.{AllSmall}
use Rattle.lines.specs.Text.{verdict_text, day_line}
use Rattle.lines.proofs.Digits.{padded_most, inches_most}
use Rattle.lines.proofs.Lengths.{refusal_most, estimate_size, day_line_size}

-- every element is below 256
abbrev pub AreBytes : List ℕ → Type 0
AreBytes s = (i : ℕ) → get_or s i 0 < 256

-- answers beside those of stations and days
beside_small : (l : List Answer) → AllBeside l → AllModerate l → AllSmall l
beside_small [] b m = tt
beside_small (a ∷ l) b m = ((subst (λ (r : Role). Owed r a) b.0 (owed a m.0), m.0), beside_small l b.1 m.1)

both_small : (l rest : List Answer) → AllSmall l → AllSmall rest → AllSmall (l ++ rest)
both_small [] rest h g = g
both_small (a ∷ l) rest h g = (h.0, both_small l rest h.1 g)

module _ (s : List ℕ) (bytes : AreBytes s) where
  -- ---- a day's line

  word_small : (i : ℕ) → word_at s i < 65536
  unfolding word_at
  word_small i = omega (arith, bytes i, bytes (i + 1))

  dated_small : {y : Day} → ((i : ℕ) × (y ≡ day_at s i)) → (y.year < 65536) × (y.d < 65536)
  unfolding day_at
  dated_small f = rw f.1 (word_small f.0, word_small (f.0 + 2))

  module _ (code : Code) (x : Station) (h : List Day) (y : Day) (sound : Sound s x) (found : (i : ℕ) × (y ≡ day_at s i)) where
    -- a refusal has two digits at most, and each number of the date five
    refused_most : (r : Refusal) → length (day_line code y.year y.d (Err r)) ≤ 23
    refused_most r =
        omega (
          arith,
          day_line_size code y.year y.d (Err r),
          padded_most 4 4 y.year (omega arith) (omega (arith, (dated_small found).0)),
          padded_most 4 3 y.d (omega arith) (omega (arith, (dated_small found).1)),
          refusal_most r,
        )

    -- a figure has six, the mark two more, and the date is one of the calendar
    dated_line_most : is_date y.year y.d ≡ true → (v : Verdict) → length (verdict_text v) ≤ 8 → length (day_line code y.year y.d v) ≤ 23
    unfolding holds
    dated_line_most date v short =
        omega (
          arith,
          day_line_size code y.year y.d v,
          padded_most 3 4 y.year (omega arith) (omega (arith, (date_tells y.year y.d date).last_year)),
          padded_most 2 3 y.d (omega arith) (omega (arith, day_high x y (earlier_means h y) (ap not date))),
        )

    abbrev Fits : Verdict → Type 0
    Fits v = length (day_line code y.year y.d v) ≤ 23

    line_most : Fits (verdict_of x h y)
    unfolding verdict_of verdict_text
    line_most =
        cond_both (good_date h y) _ _ Fits (λ good. by (judged x y (earlier_means h y)) (figure_most x y (earlier_means h y) (station_constants sound)) (good_date_lem h y good)) (λ bad. refused_most BadDate)
      where
        by : (v : Verdict) → FigureAtMost most_figure v → is_date y.year y.d ≡ true → Fits v
        by (Ok (Measured n)) small date = dated_line_most date (Ok (Measured n)) (omega (arith, inches_most 0 n (omega arith)))
        by (Ok (Estimated n)) small date = dated_line_most date (Ok (Estimated n)) (omega (arith, estimate_size n, inches_most 0 n (omega arith)))
        by (Err r) small date = refused_most r

  -- ---- the answers

  entry_small : (e : Entry) → SoundEntry s e → AllSmall (answers_for e)
  unfolding Kept
  entry_small =
      entry_cases (λ (e : Entry). SoundEntry s e → AllSmall (answers_for e))
      (λ p x f. ((λ block. lit≤ tt, tt), tt))
      (λ b y f.
      let v = verdict_of b.station b.days y in
      let m = moderate s (day b y) f.kept in (
        (λ code. line_most code b.station b.days y f.kept.sound (f.offset + 1, f.read), m.0),
        beside_small (crop_answers b.crop y v) (one_most b.crop y v).beside m.1,
      ))
      (λ e other f. beside_small (answers_for e) other.beside (moderate s e f.kept))

  entries_small : (es : List Entry) → SoundEntries s es → AllSmall (answers_of es)
  entries_small [] f = tt
  entries_small (e ∷ es) f = both_small (answers_for e) (answers_of es) (entry_small e f.0) (entries_small es f.1)

  pub all_small : AllSmall (answers_to s)
  all_small = by (reading_of s) (sound_reading s)
    where
      by : (r : Reading) → SoundEntries s (entries_of r) → AllSmall (answers_in r)
      by (refused k at) f = tt
      by (accepted es) f =
          let p = past_all unopened es in
          both_small (answers_of es) (answers_at_end p) (entries_small es f) (beside_small (answers_at_end p) (end_beside p) (end_moderate p))
