-- The line of a day meets the contract of `lines::Line::put`. Assumes nothing.
use mathlib.Core.List.{[], ◌∷◌, ◌++◌}
use Prim.Native.Nat.{ℕ, ◌^◌, ◌≤◌, ◌<◌}
use native.Mathlib.Omega.{arith}
use lib.ListN.{length}
use Rattle.day.specs.declared.Code.{Code}
use Rattle.lines.specs.Pen.{Fits}
use Rattle.lines.specs.Text.{newline, padded, code_text, field, verdict_text, day_line}
use Rattle.lines.specs.declared.pen.Pen.{Pen}
use Rattle.lines.specs.declared.whole.DayLine.{DayLine}
use Rattle.lines.proofs.Lengths.{Handed, day_line_most}
use Rattle.lines.proofs.Pens.{front, behind, then}
use Rattle.lines.proofs.whole.DayLineLine.put.Goals as goal

fits : {p : Pen} (x : DayLine) → x.year < 2 ^ 16 → x.d < 2 ^ 16 → Handed x.verdict
    → (length (day_line x.code x.year x.d x.verdict) ≤ 64 → Fits p (day_line x.code x.year x.d x.verdict))
    → Fits p (code_text x.code ++ field (padded 4 x.year) ++ field (padded 3 x.d) ++ field (verdict_text x.verdict) ++ newline ∷ [])
unfolding day_line
fits x dated counted handed asked = asked (day_line_most x.code x.year x.d x.verdict dated counted handed)

pub put_code-requires : goal.put_code-requires
put_code-requires c =
    let x = c.args.self in
    front (field (padded 4 x.year)) (front (field (padded 3 x.d)) (front (field (verdict_text x.verdict)) (front (newline ∷ [])
    (fits x (omega arith) (omega arith) (_, c.well_formed.0.1.1.1.1.1.0) c.requires))))

pub put_number_field-requires : goal.put_number_field-requires
put_number_field-requires c =
    let x = c.args.self in
    rw c.from.ensures (behind (front _ (front _ (front _
    (fits x (omega arith) (omega arith) (_, c.well_formed.0.1.1.1.1.1.0) c.requires)))) c.put_code.ensures)

pub put_number_field-requires-2 : goal.put_number_field-requires-2
put_number_field-requires-2 c =
    let x = c.args.self in
    rw c.from-2.ensures (behind (front _ (front _
    (fits x (omega arith) (omega arith) (_, c.well_formed.0.1.1.1.1.1.0) c.requires)))
    (then c.put_code.ensures (rw c.from.ensures at c.put_number_field.ensures)))

pub put_verdict_field-requires : goal.put_verdict_field-requires
put_verdict_field-requires c =
    let x = c.args.self in
    behind (front _ (fits x (omega arith) (omega arith) (_, c.well_formed.0.1.1.1.1.1.0) c.requires))
    (then (then c.put_code.ensures (rw c.from.ensures at c.put_number_field.ensures)) (rw c.from-2.ensures at c.put_number_field-2.ensures))

pub put_bytes-requires : goal.put_bytes-requires
put_bytes-requires c =
    let x = c.args.self in
    behind (fits x (omega arith) (omega arith) (_, c.well_formed.0.1.1.1.1.1.0) c.requires)
    (then (then (then c.put_code.ensures (rw c.from.ensures at c.put_number_field.ensures)) (rw c.from-2.ensures at c.put_number_field-2.ensures)) c.put_verdict_field.ensures)

pub returns : goal.returns
unfolding day_line
returns c =
    then (then (then (then c.put_code.ensures (rw c.from.ensures at c.put_number_field.ensures)) (rw c.from-2.ensures at c.put_number_field-2.ensures)) c.put_verdict_field.ensures) c.put_bytes.ensures
