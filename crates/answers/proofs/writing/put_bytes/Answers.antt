-- `answers::writing::put_bytes` meets its contract. Assumes nothing.
use native.Mathlib.Omega.{arith}
use Rattle.answers.proofs.Overwriting.{copied}
use Rattle.answers.proofs.writing.put_bytes.Goals as goal

pub returns : goal.returns
returns g c = copied _ _ _ _ _ c.copy_from_slice.ensures.after (omega arith)
