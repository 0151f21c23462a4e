-- `text::write_report` meets its contract. Assumes nothing.
use mathlib.Core.Path.{sym}
use native.Mathlib.Omega.{arith}
use lib.Seq.{length-take-le}
use Rattle.station_log.specs.Log.{answers_to}
use Rattle.text.proofs.Behind.{held_inside, held_up_to}
use Rattle.text.proofs.SmallAnswers.{AreBytes}
use Rattle.text.proofs.DateOrder.{answers_ordered}
use Rattle.text.proofs.FromLog.{answers_few, lines_short, answers_held, report_text, with_report}
use Rattle.text.proofs.write_report.Goals as goal

pub slice_bounds-print_answers-end : goal.slice_bounds-print_answers-end
slice_bounds-print_answers-end c = held_inside (answers_held c.in-Ok.ensures.read) (omega arith)

pub slice_bounds-print_answers-end-in-Ok : goal.slice_bounds-print_answers-end-in-Ok
slice_bounds-print_answers-end-in-Ok c = sym (length-take-le _ _ (held_inside (answers_held c.in-Ok.ensures.read) (omega arith)))

pub invariant_of-print_answers : goal.invariant_of-print_answers
invariant_of-print_answers c =
    let h = c.in-Ok.ensures.read in record { few = rw (length-take-le _ _ (held_inside (answers_held h) (omega arith))) (answers_few h) }

pub print_answers-requires : goal.print_answers-requires
print_answers-requires c =
    let h = c.in-Ok.ensures.read in
    let bytes : AreBytes c.args.log.now = λ i. omega (arith, c.type_inv.log i) in
    (answers_to _, held_up_to (answers_held h) (held_inside (answers_held h) (omega arith)), answers_ordered _, lines_short bytes h)

pub returns-in-Err-clause-prints : goal.returns-in-Err-clause-prints
returns-in-Err-clause-prints c = report_text c.in-Err.ensures.read c.print_refused.ensures

pub returns-in-Err-clause-report_owed : goal.returns-in-Err-clause-report_owed
returns-in-Err-clause-report_owed c = with_report _ _ (report_text c.in-Err.ensures.read c.print_refused.ensures)

pub returns-in-Ok-clause-prints : goal.returns-in-Ok-clause-prints
returns-in-Ok-clause-prints c =
    let h = c.in-Ok.ensures.read in
    report_text h (c.print_answers.ensures _ (held_up_to (answers_held h) (held_inside (answers_held h) (omega arith))) (answers_ordered _))

pub returns-in-Ok-clause-report_owed : goal.returns-in-Ok-clause-report_owed
returns-in-Ok-clause-report_owed c =
    let h = c.in-Ok.ensures.read in
    with_report _ _ (report_text h (c.print_answers.ensures _ (held_up_to (answers_held h) (held_inside (answers_held h) (omega arith))) (answers_ordered _)))
