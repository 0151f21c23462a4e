-- `lines::pen::Pen::put_number_field` meets its contract. Assumes nothing.
use Rattle.lines.proofs.Pens.{behind, then}
use Rattle.lines.proofs.pen.Pen.put_number_field.Goals as goal

pub put_number-requires : goal.put_number-requires
put_number-requires c = behind c.requires c.put_byte.ensures

pub returns : goal.returns
returns c = then c.put_byte.ensures c.put_number.ensures
