-- No report is longer than 223,457 bytes (`report_most`), and no total of a block larger than those of the most days that a log can have, each with the
-- largest figure (`totals_most`). The theorem is `long_enough`. Assumes nothing.
use mathlib.Core.Path.{◌≡◌, ap, subst}
use mathlib.Core.Bool.{Bool}
use mathlib.Core.List.{List, ◌∷◌, ◌++◌}
use Prim.Native.Nat.{ℕ, ◌≤◌}
use native.Mathlib.Omega.{arith}
use lib.Dec.{ltb}
use lib.ListN.{length, length-append}
use borrow.Author.Tests.{ltb-false}
use Rattle.answers.specs.declared.Answer.{Answer}
use Rattle.answers.specs.declared.Answer.TheVariants as answer
use Rattle.day.specs.declared.Code.{Code}
use Rattle.std.proofs.lemmas.Bool.{cond_both}
use Rattle.answers.specs.Answers.{bytes_of}
use Rattle.answers.proofs.Roles.{count}
use Rattle.station_log.specs.Log.{number_of_fault, Outcome, longest, answers_to, reading_of, outcome_of, settled}
use Rattle.station_log.specs.Parts.{longest_answers}
use Rattle.std.specs.Prelude.{Ok, Err}
use Rattle.station_log.specs.declared.Refused.{Refused}
use Rattle.station_log.specs.declared.Fault.TheVariants.{TooLong}
use Rattle.station_log.proofs.Longest.{answers_most, lines_room}
use Rattle.station_log.proofs.OutcomeSize.{Small, outcome_small, outcome_alike}
use Rattle.totals.specs.Totals.{total_of}
use Rattle.text.proofs.TotalsOwed.{BlockOf}
use Rattle.text.specs.Report.{own, lines_of, text_of, report_of, whole_report}
use Rattle.text.specs.Walk.{longest_report}
use Rattle.text.proofs.SmallAnswers.{AreBytes, all_small}
use Rattle.text.proofs.DateOrder.{answers_ordered}
use Rattle.text.proofs.Sizes.{AllSmall, rest_small, rest_fewer, own_small, own_fewer, total_most, lines_most_lem}
use Rattle.lines.specs.Text.{header}
use Rattle.lines.proofs.Lengths.{refused_line_most}

-- Buffers of so many bytes are long enough for every log: no log of at most 65,536 bytes has longer answers, and no log a longer report.
unfoldable pub LongEnough : ℕ → ℕ → Type 0
LongEnough answers text =
    (s : List ℕ) → AreBytes s → (length s ≤ longest → length (bytes_of (answers_to s)) ≤ answers) × (length (whole_report s) ≤ text)

module _ (s : List ℕ) (bytes : AreBytes s) where
  abbrev Short : Outcome → Type 0
  Short o = length (text_of o (answers_to s)) ≤ longest_report

  pub text_most : length s ≤ longest → length (header ++ lines_of (answers_to s)) ≤ longest_report
  text_most short =
      let room = lines_room s short in
      omega (
        arith,
        length-append header (lines_of (answers_to s)),
        lines_most_lem (answers_to s) (all_small s bytes) (answers_ordered s) room.1,
        room.0,
      )

  -- no total of a block, of a month or of the season, has more than 3,853 days, nor more than 308,240,000 ten-thousandths of an inch
  pub totals_most : length s ≤ longest → (chosen : ℕ → ℕ → Bool) {code : Code} {answers : List Answer} → BlockOf s code answers
      → let t = total_of chosen answers in (t.days ≤ 3_853) × (t.sum ≤ 308_240_000)
  totals_most short chosen {code} b =
      let behind = answer.Station code ∷ b.rest in
      let small = own_small b.rest (rest_small b.before behind (subst AllSmall b.stands (all_small s bytes))).1 in
      let t = total_most chosen (own b.rest) small in
      let days = ap (λ (l : List Answer). (count l).days) b.stands in
      let few : (count (own b.rest)).days ≤ 3_853 = omega (arith, own_fewer b.rest, rest_fewer b.before behind, days, (lines_room s short).1) in
      rw b.its (omega (arith, t.0, few), omega (arith, t.0, t.1, few))

  refused_short : (r : Refused) → Small (Err r) → Short (Err r)
  refused_short r small = omega (arith, refused_line_most (number_of_fault r.why) r.place (omega (arith, small.0.1)) (omega (arith, small.1)))

  any_short : length s ≤ longest → (o : Outcome) → Small o → Short o
  any_short short (Ok n) small = text_most short
  any_short short (Err r) small = refused_short r small

  pub report_most : (size : ℕ) → length (report_of s size) ≤ longest_report
  unfolding report_of outcome_of
  report_most size =
      cond_both (ltb longest (length s)) _ _ (λ o. Small o → Short o) (λ e. refused_short (record { why = TooLong; place = 0 }))
      (λ e. any_short (ltb-false longest (length s) e) (settled (reading_of s) size)) (outcome_small s size)

pub long_enough : LongEnough longest_answers longest_report
unfolding LongEnough whole_report
long_enough s bytes = (answers_most s, report_most s bytes (length (bytes_of (answers_to s))))

-- with so many bytes for the answers, the report is the whole one
pub whole : (s : List ℕ) → report_of s longest_answers ≡ whole_report s
unfolding whole_report report_of
whole s = ap (λ (o : Outcome). text_of o (answers_to s)) (outcome_alike s longest_answers (answers_most s))
