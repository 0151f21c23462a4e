-- `lines::pen::Pen::put_number` ends since each call asks for one digit less. Assumes nothing.
use Rattle.lines.proofs.pen.Pen.+put_number.Given as goal

abbrev pub decreases-put_number : goal.decreases-put_number
decreases-put_number l = l.least
