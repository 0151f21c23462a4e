-- The line of a month's totals meets the contract of `lines::Line::put`. Assumes nothing.
use mathlib.Core.List.{◌++◌}
use Prim.Native.Nat.{ℕ, ◌^◌, ◌≤◌, ◌<◌}
use native.Mathlib.Omega.{arith}
use lib.ListN.{length}
use Rattle.day.specs.declared.Code.{Code}
use Rattle.totals.specs.declared.tally.Total.{Total}
use Rattle.lines.specs.Pen.{Fits}
use Rattle.lines.specs.Text.{padded, code_text, field, totals, month_line}
use Rattle.lines.specs.declared.pen.Pen.{Pen}
use Rattle.lines.specs.declared.whole.MonthLine.{MonthLine}
use Rattle.lines.proofs.Lengths.{month_line_most}
use Rattle.lines.proofs.Pens.{front, behind, then}
use Rattle.lines.proofs.whole.MonthLineLine.put.Goals as goal

fits : {p : Pen} (x : MonthLine) → x.year < 2 ^ 16 → x.month < 2 ^ 16 → x.total.days < 2 ^ 32 → x.total.sum < 2 ^ 64
    → (length (month_line x.code x.year x.month x.total.days x.total.sum) ≤ 64 → Fits p (month_line x.code x.year x.month x.total.days x.total.sum))
    → Fits p (code_text x.code ++ field (padded 4 x.year) ++ field (padded 2 x.month) ++ totals x.total.days x.total.sum)
unfolding month_line
fits x dated in_year few small asked = asked (month_line_most x.code x.year x.month x.total.days x.total.sum dated in_year few small)

pub put_code-requires : goal.put_code-requires
put_code-requires c =
    let x = c.args.self in
    front (field (padded 4 x.year)) (front (field (padded 2 x.month)) (front (totals x.total.days x.total.sum) (fits x (omega arith) (omega arith) (omega arith) (omega arith) c.requires)))

pub put_number_field-requires : goal.put_number_field-requires
put_number_field-requires c =
    let x = c.args.self in
    rw c.from.ensures (behind (front _ (front _ (fits x (omega arith) (omega arith) (omega arith) (omega arith) c.requires))) c.put_code.ensures)

pub put_number_field-requires-2 : goal.put_number_field-requires-2
put_number_field-requires-2 c =
    let x = c.args.self in
    rw c.from-2.ensures (behind (front _ (fits x (omega arith) (omega arith) (omega arith) (omega arith) c.requires)) (then c.put_code.ensures (rw c.from.ensures at c.put_number_field.ensures)))

pub put_totals-requires : goal.put_totals-requires
put_totals-requires c =
    let x = c.args.self in
    behind (fits x (omega arith) (omega arith) (omega arith) (omega arith) c.requires) (then (then c.put_code.ensures (rw c.from.ensures at c.put_number_field.ensures)) (rw c.from-2.ensures at c.put_number_field-2.ensures))

pub returns : goal.returns
unfolding month_line
returns c =
    then (then (then c.put_code.ensures (rw c.from.ensures at c.put_number_field.ensures)) (rw c.from-2.ensures at c.put_number_field-2.ensures)) c.put_totals.ensures
