-- `lines::pen::Pen::put_digits` ends since a number of two digits or more is larger than its tenth. Assumes nothing.
use Rattle.lines.proofs.pen.Pen.+put_digits.Given as goal

abbrev pub decreases-put_digits : goal.decreases-put_digits
decreases-put_digits l = l.n
