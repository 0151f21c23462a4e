-- `lines::pen::Pen::put_inches` meets its contract. Assumes nothing.
use Rattle.lines.specs.Text.{inches}
use Rattle.lines.proofs.Pens.{front, behind, then}
use Rattle.lines.proofs.pen.Pen.put_inches.Goals as goal

pub put_digits-requires : goal.put_digits-requires
unfolding inches
put_digits-requires c = front _ c.requires

pub put_byte-requires : goal.put_byte-requires
unfolding inches
put_byte-requires c = front _ (behind c.requires c.put_digits.ensures)

pub put_number-requires : goal.put_number-requires
unfolding inches
put_number-requires c = behind (behind c.requires c.put_digits.ensures) c.put_byte.ensures

pub returns : goal.returns
unfolding inches
returns c = then c.put_digits.ensures (then c.put_byte.ensures c.put_number.ensures)
