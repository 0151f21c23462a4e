-- `lines::pen::Pen::put_number` meets its contract. Assumes nothing.
use native.Mathlib.Omega.{arith}
use Rattle.lines.proofs.Digits.{padded_short, padded_more}
use Rattle.lines.proofs.Pens.{front, behind, then}
use Rattle.lines.proofs.pen.Pen.+put_number.Goals as goal

pub put_digits-requires : goal.put_digits-requires
put_digits-requires t c = rw (padded_short c.args.least c.args.n (omega arith)) at c.requires

pub returns-then-least-lt2 : goal.returns-then-least-lt2
returns-then-least-lt2 t c = rw (padded_short c.args.least c.args.n (omega arith)) c.put_digits.ensures

pub put_number-requires : goal.put_number-requires
put_number-requires t c = (omega arith, front _ (rw (padded_more c.args.least c.args.n (omega arith)) at c.requires))

pub put_last_digit-requires : goal.put_last_digit-requires
put_last_digit-requires t c = behind (rw (padded_more c.args.least c.args.n (omega arith)) at c.requires) c.put_number.ensures

pub returns : goal.returns
returns t c = rw (padded_more c.args.least c.args.n (omega arith)) (then c.put_number.ensures c.put_last_digit.ensures)
