-- `lines::pen::Pen::put_bytes` meets its contract. Assumes nothing.
use mathlib.Core.Path.{refl}
use native.Mathlib.Omega.{arith}
use Rattle.lines.proofs.Written.{copied}
use Rattle.lines.proofs.pen.Pen.put_bytes.Goals as goal

pub returns : goal.returns
returns c =
    let pen = c.args.self.now in
    record { same_lent = refl; written = copied pen.text.now pen.at c.args.bytes.now (omega arith) (omega arith) c.copy_from_slice.ensures.after }
