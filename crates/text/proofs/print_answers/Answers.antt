-- `text::print_answers` meets its contract. Assumes nothing.
use Rattle.text.proofs.Prints.{written_whole}
use Rattle.text.proofs.print_answers.Goals as goal

pub returns : goal.returns
returns c = λ all h ordered. written_whole (c.write_answers.ensures all h ordered)
