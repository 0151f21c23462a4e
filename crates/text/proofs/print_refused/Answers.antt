-- `text::print_refused` meets its contract. Assumes nothing.
use Rattle.text.proofs.Prints.{written_whole}
use Rattle.text.proofs.print_refused.Goals as goal

pub returns : goal.returns
returns c = rw (← c.from.ensures) (written_whole c.write_refused.ensures)
