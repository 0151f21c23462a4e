-- What `read_log` hands back, as the report takes it: the answers in the buffer (`answers_held`), the length of their lines (`lines_short`), the text
-- (`report_text`), and that it is no refusal's where the rules answer the log (`with_report`). Assumes nothing.
use mathlib.Core.Path.{sym, ap, ◌∙◌, subst}
use mathlib.Core.List.{List, ◌++◌}
use Prim.Native.Nat.{ℕ, ◌≤◌}
use native.Mathlib.Nat.{zero-add}
use lib.Dec.{ltb}
use lib.ListN.{length, drop}
use borrow.Author.Tests.{ltb-false}
use Rattle.answers.specs.Answers.{bytes_of}
use Rattle.lines.specs.Text.{header}
use Rattle.station_log.specs.Log.{Outcome, longest, answers_to, reading_of, settled, outcome_of, leaves, buffer_after, Read}
use Rattle.station_log.specs.Parts.{longest_answers}
use Rattle.std.specs.Prelude.{Result, Ok, Err}
use Rattle.station_log.proofs.OutcomeSize.{Small, outcome_small, written_size}
use Rattle.std.proofs.lemmas.Bool.{cond_both}
use Rattle.promises.specs.Demand.{AnsweredLog}
use Rattle.text.specs.Report.{lines_of, text_of, report_of, Prints, ReportOwed}
use Rattle.text.proofs.SmallAnswers.{AreBytes}
use Rattle.text.specs.Walk.{longest_report, Holds}
use Rattle.text.specs.declared.TooShort.{TooShort}
use Rattle.text.proofs.LongEnough.{text_most}

-- a log that is read to its end is no longer than a log may be
ShortLog : List ℕ → Outcome → Type 0
ShortLog s (Ok n) = length s ≤ longest
ShortLog s (Err r) = Unit {0}

short_log : (s : List ℕ) (o : Outcome) → length s ≤ longest → ShortLog s o
unfolding ShortLog
short_log s (Ok n) short = short
short_log s (Err r) short = tt

module _ {s buffer after : List ℕ} where
  pub lines_short : {n : ℕ} → AreBytes s → Read s buffer (Ok n) after → length (header ++ lines_of (answers_to s)) ≤ longest_report
  unfolding outcome_of ShortLog
  lines_short bytes h =
      text_most s bytes
      (subst (ShortLog s) (sym h.outcome)
      (cond_both (ltb longest (length s)) _ _ (ShortLog s) (λ e. tt) (λ e. short_log s (settled (reading_of s) (length buffer)) (ltb-false longest (length s) e))))

  pub answers_few : {n : ℕ} → Read s buffer (Ok n) after → n ≤ longest_answers
  answers_few h = subst Small (sym h.outcome) (outcome_small s (length buffer))

  pub answers_held : {n : ℕ} → Read s buffer (Ok n) after → Holds after 0 n (answers_to s)
  unfolding buffer_after
  answers_held {n} h =
      record {
        size = zero-add (length (bytes_of (answers_to s))) ∙ sym (written_size s (length buffer) h.outcome);
        rest = drop n buffer;
        bytes = h.written ∙ ap (λ (o : Outcome). leaves o (bytes_of (answers_to s)) buffer) (sym h.outcome);
      }

  -- what is printed of the outcome is the report
  pub report_text : {o : Outcome} {text-before text-after : List ℕ} {r : Result ℕ TooShort} → Read s buffer o after
      → Prints (text_of o (answers_to s)) text-before r text-after → Prints (report_of s (length buffer)) text-before r text-after
  unfolding report_of
  report_text {text-before = text-before} {text-after = text-after} {r = r} h p =
      subst (λ (o : Outcome). Prints (text_of o (answers_to s)) text-before r text-after) h.outcome p

-- and of a log that the rules answer it is no line of a refusal
pub with_report : (s buffer : List ℕ) {text-before text-after : List ℕ} {r : Result ℕ TooShort} → Prints (report_of s (length buffer)) text-before r text-after
    → ReportOwed s buffer text-before r text-after
unfolding ReportOwed AnsweredLog report_of
with_report s buffer {text-before} {text-after} {r} p log =
    subst (λ (o : Outcome). Prints (text_of o (answers_to s)) text-before r text-after) log.1 p
