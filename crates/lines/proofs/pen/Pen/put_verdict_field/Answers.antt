-- `lines::pen::Pen::put_verdict_field` meets its contract. Assumes nothing.
use Rattle.lines.proofs.Pens.{behind, then}
use Rattle.lines.proofs.pen.Pen.put_verdict_field.Goals as goal

pub put_verdict-requires : goal.put_verdict-requires
put_verdict-requires c = behind c.requires c.put_byte.ensures

pub returns : goal.returns
returns c = then c.put_byte.ensures c.put_verdict.ensures
