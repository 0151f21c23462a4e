-- `text::whole_report` meets its contract: no log needs a longer buffer. Assumes nothing.
use mathlib.Core.Path.{◌≡◌, ap, ◌∙◌, subst}
use Rattle.std.specs.Prelude.{Result}
use mathlib.Core.List.{List}
use Prim.Native.Nat.{ℕ, ◌≤◌}
use native.Mathlib.Omega.{arith}
use lib.ListN.{length}
use Rattle.station_log.specs.Parts.{longest_answers}
use Rattle.text.specs.Report.{report_of, Prints, whole_report}
use Rattle.text.specs.Walk.{longest_report}
use Rattle.text.proofs.LongEnough.{LongEnough, long_enough, whole}
use Rattle.text.proofs.SmallAnswers.{AreBytes}
use Rattle.text.specs.declared.TooShort.{TooShort}
use Rattle.text.proofs.Prints.{never_short, stands_in_front}
use Rattle.text.proofs.whole_report.Goals as goal

fits : (s text : List ℕ) → AreBytes s → length text ≡ longest_report → length (whole_report s) ≤ length text
unfolding LongEnough
fits s text bytes long = omega (arith, (long_enough s bytes).1, long)

prints : (s answers : List ℕ) {before after : List ℕ} {p : Result ℕ TooShort} → length answers ≡ longest_answers → Prints (report_of s (length answers)) before p after
    → Prints (whole_report s) before p after
prints s answers {before} {after} {p} long w = subst (λ (r : List ℕ). Prints r before p after) (ap (report_of s) long ∙ whole s) w

pub unwrap-requires : goal.unwrap-requires
unwrap-requires c =
    never_short (fits c.args.log.now c.args.text.now (λ i. omega (arith, c.type_inv.log i)) (omega arith))
    (prints c.args.log.now c.args.answers.now (omega arith) c.write_report.ensures.prints)

pub returns-clause-at_front : goal.returns-clause-at_front
returns-clause-at_front c =
    let room = fits c.args.log.now c.args.text.now (λ i. omega (arith, c.type_inv.log i)) (omega arith) in
    let p = rw c.unwrap.ensures at (prints c.args.log.now c.args.answers.now (omega arith) c.write_report.ensures.prints) in
    let front = stands_in_front room p in
    (front, omega (arith, front.size, room))
