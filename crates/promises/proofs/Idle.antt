-- Idle readers of logs that demand 3 stops by itself ("Which idle programs must be caught?" in document 01): one that refuses all days, one that prints 0
-- for all, one that leaves the buffer blank, one that copies its first day's figure to later days, and one that says 12 untried, whatever it leaves.
-- Assumes nothing.
use mathlib.Core.Path.{◌≡◌, refl, sym, ap, subst, ◌∙◌}
use mathlib.Core.List.{List}
use Prim.Native.Nat.{ℕ, ◌+◌, ◌*◌, ◌/◌, ◌%◌}
use native.Mathlib.Omega.{arith}
use lib.ListN.{get_or, replicate, take, drop}
use Rattle.numbers.specs.Fractions.{◌+ℚ◌, -ℚ◌, ◌*ℚ◌, ◌/ℚ◌, nonneg, Near}
use Rattle.numbers.proofs.Near.{near_trans, near_sym}
use Rattle.day.specs.Bound.{WithinBound}
use Rattle.day.specs.Judgement.{as_judged, with_mark, Verdict}
use Rattle.day.specs.declared.Day.{Day}
use Rattle.day.specs.declared.Earlier.{Earlier}
use Rattle.day.specs.declared.Station.{Station}
use Rattle.day.proofs.Examples.{constants, days}
use Rattle.day.proofs.Idle.{inches, two_figures, apart}
use Rattle.day.proofs.Marks.{either_way}
use Rattle.answers.specs.Answers.{kind_of, dated}
use Rattle.records.specs.Bytes.{word_at, signed_of, signed_at}
use Rattle.records.specs.Record.{station_at, day_at, found_at}
use Rattle.promises.specs.Demand.{AnsweredLog, FigureAt, NotRefused, FiguresOwed, EveryFigureWithinBound}
use Rattle.station_log.specs.Log.{read_from, reading_of, outcome_of}
use Rattle.std.specs.Prelude.{Ok, Err}
use Rattle.station_log.specs.Log.{Outcome}
use Rattle.station_log.specs.declared.Refused.{Refused}
use Rattle.station_log.proofs.Sample.{sample, two_means}
use Rattle.promises.proofs.WorkedCrop.{crop_log, crop_day, other_means, second_day, outcome_is}
use Rattle.promises.proofs.WorkedLog.{means, answered}

-- document 01's worked log in a blank buffer with room for its 32 bytes of answers
abbrev blank : List ℕ
blank = replicate 34 0

accepted_there : AnsweredLog sample blank
unfolding AnsweredLog outcome_of reading_of read_from found_at station_at day_at word_at signed_of signed_at
accepted_there = (32, refl)

-- an answered day's answer is of kind 3 or 9
no_other : (k : ℕ) → (k ≡ 3 → ⊥) → (k ≡ 9 → ⊥) → (x : Day) (n : ℕ) → k ≡ kind_of (Ok (with_mark x n)) → ⊥
no_other k three nine x n = either_way (λ f. k ≡ kind_of (Ok f) → ⊥) x {n = n} three nine

-- 1 for a log that is written, 0 for one that is refused
abbrev written : Outcome → ℕ
written (Ok n) = 1
written (Err r) = 0

-- the figure that stands in an answer: its four bytes as a number
abbrev in_bytes : ℕ → ℕ → ℕ → ℕ → ℕ
in_bytes a b c d = (a * 256 + b) * 65536 + (c * 256 + d)

four_bytes : (n : ℕ) → in_bytes (n / 16777216) (n / 65536 % 256) (n / 256 % 256) (n % 256) ≡ n
four_bytes n = omega arith

one_figure : (k l y d n m : ℕ) → dated k y d n ≡ dated l y d m → n ≡ m
one_figure k l y d n m e =
    sym (four_bytes n)
    ∙ ap (λ (s : List ℕ). in_bytes (get_or s 5 0) (get_or s 6 0) (get_or s 7 0) (get_or s 8 0)) e
    ∙ four_bytes m

-- no figure is as near as that to 0.3518 inch and to 0.3356
computed : Near (inches 3_518) (inches 3_356) (6 /ℚ 100000 +ℚ 6 /ℚ 100000 +ℚ (6 /ℚ 100000 +ℚ 6 /ℚ 100000)) → ⊥
unfolding ◌*ℚ◌ ◌+ℚ◌ -ℚ◌ nonneg
computed h = absurd h.high.le

not_both : (n : ℕ) → Near (inches n) (inches 3_518) (6 /ℚ 100000 +ℚ 6 /ℚ 100000) → Near (inches n) (inches 3_356) (6 /ℚ 100000 +ℚ 6 /ℚ 100000) → ⊥
not_both n a b = computed (near_trans (near_sym a) b)

module _ (returned : List ℕ → List ℕ → Outcome) (left : List ℕ → List ℕ → List ℕ) (judge : Station → Day → Earlier → Verdict)
    (met : EveryFigureWithinBound returned left judge) where
  -- the kind in the answer of the worked log's third day is no other
  kind_there : (k : ℕ) → (k ≡ 3 → ⊥) → (k ≡ 9 → ⊥) → k ≡ get_or (take 9 (drop 23 (left sample blank))) 0 0 → ⊥
  unfolding EveryFigureWithinBound FiguresOwed FigureAt
  kind_there k three nine is =
      let owed = (met.0 sample blank).1 accepted_there 3 23 (station_at sample 1) (day_at sample 54) means answered in
      no_other k three nine (day_at sample 54) owed.0 (is ∙ ap (λ (l : List ℕ). get_or l 0 0) owed.1)

  -- "One refusing all days": 4 is the kind of a refusal
  pub not_all_refused : ◌≡◌ {A = ℕ} 4 (get_or (take 9 (drop 23 (left sample blank))) 0 0) → ⊥
  not_all_refused = kind_there 4 (λ e. absurd (omega (arith, e))) (λ e. absurd (omega (arith, e)))

  -- "one leaving the buffer blank": 0 is the kind of no answer
  pub not_blank : left sample blank ≡ blank → ⊥
  not_blank same =
      kind_there 0 (λ e. absurd (omega (arith, e))) (λ e. absurd (omega (arith, e))) (ap (λ (l : List ℕ). get_or (take 9 (drop 23 l)) 0 0) (sym same))

  -- "one saying 12 untried"
  pub not_twelve : (r : Refused) → returned sample blank ≡ Err r → ⊥
  unfolding EveryFigureWithinBound NotRefused
  not_twelve r says =
      let owed = (met.0 sample blank).0 accepted_there in
      let one : ◌≡◌ {A = ℕ} 0 1 = ap written (sym says) ∙ ap written owed.1 in absurd (omega (arith, one))

  -- "one printing 0 for all": the first day 180 of the log with a crop has 0.3518 inch
  pub not_all_zero : (k : ℕ) → take 9 (drop 23 (left crop_log (replicate 84 0))) ≡ dated k 2008 180 0 → ⊥
  unfolding EveryFigureWithinBound FiguresOwed FigureAt AnsweredLog station_at day_at word_at signed_of signed_at
  not_all_zero k is =
      let owed = (met.0 crop_log (replicate 84 0)).1 (82, outcome_is) 4 23 (station_at crop_log 1) (day_at crop_log 76) two_means crop_day.answered in
      let zero_is : owed.0 ≡ 0 = one_figure _ k 2008 180 owed.0 0 (sym owed.1 ∙ is) in
      apart
      (two_figures (station_at crop_log 1) (as_judged (day_at crop_log 76)) two_means constants days.1.answered 0 3_518
      (subst (WithinBound (station_at crop_log 1) (as_judged (day_at crop_log 76)) two_means) zero_is owed.2) days.1.bound)

  -- "one copying its first day's figure to later days": in the log with a crop day 180 of 2008 stands in both blocks, after other means
  pub not_copied : take 9 (drop 23 (left crop_log (replicate 84 0))) ≡ take 9 (drop 73 (left crop_log (replicate 84 0))) → ⊥
  unfolding EveryFigureWithinBound FiguresOwed FigureAt AnsweredLog station_at day_at word_at signed_of signed_at
  not_copied same =
      let log = (met.0 crop_log (replicate 84 0)).1 (82, outcome_is) in
      let first = log 4 23 (station_at crop_log 1) (day_at crop_log 76) two_means crop_day.answered in
      let second = log 9 73 (station_at crop_log 93) (day_at crop_log 163) other_means second_day in
      let alike : first.0 ≡ second.0 = one_figure _ _ 2008 180 first.0 second.0 (sym first.1 ∙ same ∙ second.1) in
      not_both second.0
      (subst (λ (n : ℕ). Near (inches n) (inches 3_518) (6 /ℚ 100000 +ℚ 6 /ℚ 100000)) alike
      (two_figures (station_at crop_log 1) (as_judged (day_at crop_log 76)) two_means constants days.1.answered first.0 3_518 first.2 days.1.bound))
      (two_figures (station_at crop_log 93) (as_judged (day_at crop_log 163)) other_means constants days.2.answered second.0 3_356 second.2 days.2.bound)
