-- `lines::pen::Pen::put_inches_field` meets its contract. Assumes nothing.
use Rattle.lines.proofs.Pens.{behind, then}
use Rattle.lines.proofs.pen.Pen.put_inches_field.Goals as goal

pub put_inches-requires : goal.put_inches-requires
put_inches-requires c = behind c.requires c.put_byte.ensures

pub returns : goal.returns
returns c = then c.put_byte.ensures c.put_inches.ensures
