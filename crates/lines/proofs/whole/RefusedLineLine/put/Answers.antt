-- The line of a refused log meets the contract of `lines::Line::put`. Assumes nothing.
use mathlib.Core.List.{[], ◌∷◌, ◌++◌}
use Prim.Native.Nat.{ℕ, ◌^◌, ◌≤◌, ◌<◌}
use native.Mathlib.Omega.{arith}
use lib.ListN.{length}
use Rattle.lines.specs.Pen.{Fits}
use Rattle.lines.specs.Text.{newline, padded, field, refused_line}
use Rattle.lines.specs.declared.pen.Pen.{Pen}
use Rattle.lines.proofs.Digits.{padded_short}
use Rattle.lines.proofs.Lengths.{refused_line_most}
use Rattle.lines.proofs.Pens.{front, behind, then}
use Rattle.lines.proofs.whole.RefusedLineLine.put.Goals as goal

-- no zeros stand in front
fits : {p : Pen} (number value : ℕ) → number < 2 ^ 8 → value < 2 ^ 64
    → (length (refused_line number value) ≤ 64 → Fits p (refused_line number value))
    → Fits p ((82 ∷ 69 ∷ 70 ∷ 85 ∷ 83 ∷ 69 ∷ 68 ∷ []) ++ field (padded 0 number) ++ field (padded 0 value) ++ newline ∷ [])
unfolding refused_line
fits number value n v asked =
    rw (padded_short 0 number (omega arith), padded_short 0 value (omega arith)) (asked (refused_line_most number value n v))

pub put_bytes-requires : goal.put_bytes-requires
put_bytes-requires c =
    let x = c.args.self in
    front (field (padded 0 x.number)) (front (field (padded 0 x.value)) (front (newline ∷ []) (fits x.number x.value (omega arith) (omega arith) c.requires)))

pub put_number_field-requires : goal.put_number_field-requires
put_number_field-requires c =
    let x = c.args.self in
    rw c.from.ensures (behind (front _ (front _ (fits x.number x.value (omega arith) (omega arith) c.requires))) c.put_bytes.ensures)

pub put_number_field-requires-2 : goal.put_number_field-requires-2
put_number_field-requires-2 c =
    let x = c.args.self in
    behind (front _ (fits x.number x.value (omega arith) (omega arith) c.requires)) (then c.put_bytes.ensures (rw c.from.ensures at c.put_number_field.ensures))

pub put_bytes-requires-2 : goal.put_bytes-requires-2
put_bytes-requires-2 c =
    let x = c.args.self in
    behind (fits x.number x.value (omega arith) (omega arith) c.requires)
    (then (then c.put_bytes.ensures (rw c.from.ensures at c.put_number_field.ensures)) c.put_number_field-2.ensures)

pub returns : goal.returns
unfolding refused_line
returns c =
    rw (← padded_short 0 c.args.self.number (omega arith), ← padded_short 0 c.args.self.value (omega arith))
    (then (then (then c.put_bytes.ensures (rw c.from.ensures at c.put_number_field.ensures)) c.put_number_field-2.ensures) c.put_bytes-2.ensures)
