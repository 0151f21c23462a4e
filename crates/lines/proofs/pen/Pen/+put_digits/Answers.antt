-- `lines::pen::Pen::put_digits` meets its contract. Assumes nothing.
use native.Mathlib.Omega.{arith}
use Rattle.lines.proofs.Digits.{digits_one, digits_more}
use Rattle.lines.proofs.Pens.{front, behind, then}
use Rattle.lines.proofs.pen.Pen.+put_digits.Goals as goal

pub put_last_digit-requires : goal.put_last_digit-requires
put_last_digit-requires t c = rw (digits_one c.args.n (omega arith)) at c.requires

pub returns-then-n-lt10 : goal.returns-then-n-lt10
returns-then-n-lt10 t c = rw (digits_one c.args.n (omega arith)) c.put_last_digit.ensures

pub put_digits-requires : goal.put_digits-requires
put_digits-requires t c = (omega arith, front _ (rw (digits_more c.args.n (omega arith)) at c.requires))

pub put_last_digit-requires-2 : goal.put_last_digit-requires-2
put_last_digit-requires-2 t c = behind (rw (digits_more c.args.n (omega arith)) at c.requires) c.put_digits.ensures

pub returns : goal.returns
returns t c = rw (digits_more c.args.n (omega arith)) (then c.put_digits.ensures c.put_last_digit-2.ensures)
