-- `lines::whole::put_totals` meets its contract. Assumes nothing.
use native.Mathlib.Omega.{arith}
use Rattle.lines.specs.Text.{totals}
use Rattle.lines.proofs.Digits.{padded_short}
use Rattle.lines.proofs.Pens.{front, behind, then}
use Rattle.lines.proofs.whole.put_totals.Goals as goal

pub put_number_field-requires : goal.put_number_field-requires
unfolding totals
put_number_field-requires c = rw (c.from.ensures, padded_short 0 c.args.total.days (omega arith)) (front _ (front _ c.requires))

pub put_inches_field-requires : goal.put_inches_field-requires
unfolding totals
put_inches_field-requires c =
    behind (front _ c.requires) (rw (c.from.ensures, padded_short 0 c.args.total.days (omega arith)) at c.put_number_field.ensures)

pub put_bytes-requires : goal.put_bytes-requires
unfolding totals
put_bytes-requires c =
    behind c.requires (then (rw (c.from.ensures, padded_short 0 c.args.total.days (omega arith)) at c.put_number_field.ensures) c.put_inches_field.ensures)

pub returns : goal.returns
unfolding totals
returns c =
    then (then (rw (c.from.ensures, padded_short 0 c.args.total.days (omega arith)) at c.put_number_field.ensures) c.put_inches_field.ensures) c.put_bytes.ensures
