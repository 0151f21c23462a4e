-- A station's record of kind 1 and the same as one of kind 8 with the limit that kind 1 keeps have the same answers: `same_answers`, over what stands
-- in LimitedStations.antt. Assumes nothing.
use mathlib.Core.Path.{◌≡◌, refl, sym, ap, ◌∙◌, subst}
use mathlib.Core.Bool.{Bool, true, false, cond}
use mathlib.Core.List.{List, [], ◌∷◌, ◌++◌}
use Prim.Native.Nat.{ℕ, ◌+◌, ◌≤◌}
use native.Mathlib.Omega.{arith}
use borrow.Author.Tests.{le-leb, lt-leb, le-ltb}
use lib.Dec.{leb}
use lib.ListN.{length, get_or, length-append}
use lib.Seq.{get_or-append-add}
use Rattle.answers.specs.Answers.{bytes_of}
use Rattle.day.specs.Rules.{routine_limit, bad_station}
use Rattle.day.specs.declared.Station.{Station}
use Rattle.records.specs.Bytes.{word_at}
use Rattle.records.specs.Record.{station_with, station_at, limited_station_at, whole, found_at}
use Rattle.records.specs.declared.Record.TheVariants as Record
use Rattle.records.proofs.Bodies.{station_alike}
use Rattle.station_log.specs.Log.{Past, unopened, block, opened, Entry, station, past_all, answers_in}
use Rattle.station_log.specs.Log.{Reading, refused, accepted, prepend, read_from, reading_of, settled, longest, outcome_of, leaves, buffer_after}
use Rattle.station_log.specs.Log.{refusal}
use Rattle.promises.proofs.FirstStation.{opened_by, log, fields_there, first_read}
use Rattle.promises.proofs.TwoParts.{moved, two_parts}
use Rattle.station_log.proofs.Walked.{behind, behind_refused, behind_accepted}
use Rattle.promises.proofs.LimitedStations.{limit_bytes, with_kind_one, with_kind_eight, StationThere, two_further, SameAnswers}
use Rattle.station_log.specs.declared.Fault.{Fault}
use Rattle.station_log.specs.declared.Fault.TheVariants.{StationField, TooLong}

-- ---- the two records

module _ (front fields rest : List ℕ) (there : StationThere front fields) where
  abbrev place : ℕ
  place = length front

  abbrev s : List ℕ
  s = with_kind_one front fields rest

  abbrev t : List ℕ
  t = with_kind_eight front fields rest

  -- what both say
  abbrev x : Station
  x = station_with routine_limit fields 0

  abbrev log_one : List ℕ
  log_one = log 1 fields [] rest

  abbrev log_eight : List ℕ
  log_eight = log 8 fields limit_bytes rest

  one_says : station_at log_one 1 ≡ x
  unfolding station_at
  one_says = station_alike (fields_there 1 fields [] rest) {l = routine_limit} refl (omega (arith, there.eighteen))

  one : found_at log_one 0 ≡ whole 19 (Record.Station x)
  unfolding found_at
  one =
      simp (
        lt-leb (length log_one) 0 (omega arith),
        le-ltb (length log_one) 19 (omega (arith, there.eighteen, length-append fields rest)),
        one_says,
      )

  limit_is : word_at log_eight 19 ≡ routine_limit
  unfolding word_at
  limit_is = omega (arith, byte 0 18 (omega (arith, there.eighteen)), byte 1 19 (omega (arith, there.eighteen)))
    where
      byte : (i at : ℕ) → length fields + i ≡ at → get_or (fields ++ (limit_bytes ++ rest)) at 0 ≡ get_or (limit_bytes ++ rest) i 0
      byte i at e = subst (λ (k : ℕ). get_or (fields ++ (limit_bytes ++ rest)) k 0 ≡ get_or (limit_bytes ++ rest) i 0) e (get_or-append-add fields (limit_bytes ++ rest) i 0)

  eight_says : limited_station_at log_eight 1 ≡ x
  unfolding limited_station_at
  eight_says = station_alike (fields_there 8 fields limit_bytes rest) limit_is (omega (arith, there.eighteen))

  eight : found_at log_eight 0 ≡ whole 21 (Record.Station x)
  unfolding found_at
  eight =
      simp (
        lt-leb (length log_eight) 0 (omega arith),
        le-ltb (length log_eight) 21 (omega (arith, there.eighteen, length-append fields (limit_bytes ++ rest))),
        eight_says,
      )

  -- ---- the two logs

  abbrev start : Past
  start = past_all unopened there.before

  read_one : reading_of s ≡ behind there.before (moved place (opened_by 19 start x rest))
  read_one =
      two_parts front log_one there.before there.whole
      ∙ ap (λ (r : Reading). behind there.before (moved place r))
      (first_read 1 fields [] rest 19 (omega (arith, there.eighteen, length-append fields [])) one start)

  read_eight : reading_of t ≡ behind there.before (moved place (opened_by 21 start x rest))
  read_eight =
      two_parts front log_eight there.before there.whole
      ∙ ap (λ (r : Reading). behind there.before (moved place r))
      (first_read 8 fields limit_bytes rest 21 (omega (arith, there.eighteen, length-append fields limit_bytes)) eight start)

  refused_further : (k : Fault) (at further : ℕ) → cond (leb at place) at (at + 2) ≡ further
      → behind there.before (refused k further) ≡ two_further place (behind there.before (refused k at))
  refused_further k at further e =
      behind_refused there.before k further ∙ ap (refused k) (sym e) ∙ ap (two_further place) (sym (behind_refused there.before k at))

  same_reading : reading_of t ≡ two_further place (reading_of s)
  unfolding opened_by
  same_reading = read_eight ∙ by (bad_station x) (read_from (length rest + 1) rest 0 (block (opened x))) ∙ ap (two_further place) (sym read_one)
    where
      by : (b : Bool) (r : Reading) → behind there.before (moved place (cond b (refused StationField 0) (prepend (station start x) (moved 21 r))))
          ≡ two_further place (behind there.before (moved place (cond b (refused StationField 0) (prepend (station start x) (moved 19 r)))))
      by true r = refused_further StationField (place + 0) (place + 0) (ap (λ (b : Bool). cond b (place + 0) (place + 0 + 2)) (le-leb (place + 0) place (omega arith)))
      by false (refused k at) =
          refused_further k (place + (19 + at)) (place + (21 + at))
          (ap (λ (b : Bool). cond b (place + (19 + at)) (place + (19 + at) + 2)) (lt-leb (place + (19 + at)) place (omega arith)) ∙ omega arith)
      by false (accepted es) =
          behind_accepted there.before (station start x ∷ es) ∙ ap (two_further place) (sym (behind_accepted there.before (station start x ∷ es)))

  -- ---- the outcome and the buffer

  outcome_of_lem : (l : List ℕ) → length l ≤ longest → (size : ℕ) → outcome_of l size ≡ settled (reading_of l) size
  unfolding outcome_of
  outcome_of_lem l short size = ap (λ (b : Bool). cond b (refusal TooLong 0) (settled (reading_of l) size)) (le-ltb longest (length l) short)

  same_outcome : length t ≤ longest → (size : ℕ) → outcome_of t size ≡ settled (two_further place (reading_of s)) size
  same_outcome short size = outcome_of_lem t short size ∙ ap (λ (r : Reading). settled r size) same_reading

  shorter : length t ≤ longest → length s ≤ longest
  shorter short =
      omega (
        arith,
        length-append front log_one,
        length-append fields rest,
        length-append front log_eight,
        length-append fields (limit_bytes ++ rest),
      )

  same_accepted : length t ≤ longest → (es : List Entry) → reading_of s ≡ accepted es → (size : ℕ) → outcome_of t size ≡ outcome_of s size
  same_accepted short es e size =
      same_outcome short size
      ∙ ap (λ (r : Reading). settled r size) (ap (two_further place) e ∙ sym e)
      ∙ sym (outcome_of_lem s (shorter short) size)

  same_buffer : length t ≤ longest → (lent : List ℕ) → buffer_after t lent ≡ buffer_after s lent
  unfolding buffer_after
  same_buffer short lent =
      (λ i. leaves (same_outcome short (length lent) i) (bytes_of (answers_in (same_reading i))) lent)
      ∙ by (reading_of s)
      ∙ sym (λ i. leaves (outcome_of_lem s (shorter short) (length lent) i) (bytes_of (answers_in (reading_of s))) lent)
    where
      by : (r : Reading) → leaves (settled (two_further place r) (length lent)) (bytes_of (answers_in (two_further place r))) lent
          ≡ leaves (settled r (length lent)) (bytes_of (answers_in r)) lent
      by (refused k at) = refl
      by (accepted es) = refl

  pub same_answers : SameAnswers place s t
  same_answers = record { reading = same_reading; outcome = same_outcome; accepted_alike = same_accepted; buffer = same_buffer }
