-- `exports::fuortwem_report` meets its contract: no report is longer than the low half can say. Assumes nothing.
use mathlib.Core.List.{List}
use mathlib.Core.Path.{ap, ◌∙◌}
use Prim.Native.Nat.{ℕ, ◌<◌}
use native.Mathlib.Omega.{arith}
use Rattle.text.proofs.SmallAnswers.{AreBytes}
use Rattle.text.specs.Report.{Prints, report_of}
use Rattle.std.specs.Prelude.{Result}
use Rattle.text.specs.declared.TooShort.{TooShort}
use Rattle.text.proofs.LongEnough.{report_most}
use Rattle.text.proofs.Prints.{size_in, printed_size}
use Rattle.exports.specs.Told.{said, ReportSaid}
use Rattle.exports.proofs.fuortwem_report.Goals as goal

small : (s : List ℕ) (size : ℕ) {before after : List ℕ} (p : Result ℕ TooShort) → AreBytes s → Prints (report_of s size) before p after → size_in p < 4294967296
small s size p bytes printed = omega (arith, printed_size printed, report_most s bytes size)

pub overflow_cast-printed : goal.overflow_cast-printed
overflow_cast-printed c = record { fits = small _ _ _ (λ i. omega (arith, c.type_inv.log i)) c.in-Ok.ensures.prints }

pub overflow_cast-short : goal.overflow_cast-short
overflow_cast-short c = record { fits = small _ _ _ (λ i. omega (arith, c.type_inv.log i)) c.in-Err.ensures.prints }

pub returns-in-Ok-clause-report_said : goal.returns-in-Ok-clause-report_said
unfolding ReportSaid
returns-in-Ok-clause-report_said c = (_, c.packed.ensures, c.in-Ok.ensures.report_owed)

pub returns-in-Err-clause-report_said : goal.returns-in-Err-clause-report_said
unfolding ReportSaid
returns-in-Err-clause-report_said c =
    (_, c.packed-in-Err.ensures ∙ ap (λ (k : ℕ). said k c.in-Err.short.needed) (c.into.ensures ∙ c.from.ensures), c.in-Err.ensures.report_owed)
