-- `lines::pen::Pen::put_verdict` meets its contract. Assumes nothing.
use Rattle.lines.specs.Text.{verdict_text}
use Rattle.lines.proofs.Pens.{front, behind, then}
use Rattle.lines.proofs.pen.Pen.put_verdict.Goals as goal

pub put_inches-requires : goal.put_inches-requires
unfolding verdict_text
put_inches-requires c =
    let m = c.in-Ok-Measured in rw c.from.ensures (rw (m.is, rw m.is at m.field-0-is) at c.requires)

-- a figure with the mark: the inches, a space and an E
pub put_inches-requires-in-Ok-Estimated : goal.put_inches-requires-in-Ok-Estimated
unfolding verdict_text
put_inches-requires-in-Ok-Estimated c =
    let e = c.in-Ok-Estimated in rw c.from-in-Ok-Estimated.ensures (front _ (rw (e.is, rw e.is at e.field-0-is) at c.requires))

pub put_bytes-requires : goal.put_bytes-requires
unfolding verdict_text
put_bytes-requires c =
    let e = c.in-Ok-Estimated in
    behind (rw (e.is, rw e.is at e.field-0-is, ← c.from-in-Ok-Estimated.ensures) at c.requires) c.put_inches-in-Ok-Estimated.ensures

pub put_byte-requires : goal.put_byte-requires
unfolding verdict_text
put_byte-requires c = front _ (rw c.in-Err.is at c.requires)

pub put_digits-requires : goal.put_digits-requires
unfolding verdict_text
put_digits-requires c = rw (c.from-in-Err-2.ensures, c.from-in-Err.ensures) (behind (rw c.in-Err.is at c.requires) c.put_byte.ensures)

pub returns-in-Ok-Measured : goal.returns-in-Ok-Measured
unfolding verdict_text
returns-in-Ok-Measured c = let m = c.in-Ok-Measured in rw (m.is, rw m.is at m.field-0-is, ← c.from.ensures) c.put_inches.ensures

pub returns-in-Ok-Estimated : goal.returns-in-Ok-Estimated
unfolding verdict_text
returns-in-Ok-Estimated c =
    let e = c.in-Ok-Estimated in
    rw (e.is, rw e.is at e.field-0-is, ← c.from-in-Ok-Estimated.ensures) (then c.put_inches-in-Ok-Estimated.ensures c.put_bytes.ensures)

pub returns-in-Err : goal.returns-in-Err
unfolding verdict_text
returns-in-Err c = rw (c.in-Err.is, ← c.from-in-Err.ensures, ← c.from-in-Err-2.ensures) (then c.put_byte.ensures c.put_digits.ensures)
