-- `lines::alone` meets its contract. Assumes nothing.
use Rattle.lines.proofs.Written.{at_front}
use Rattle.lines.proofs.alone.Goals as goal

pub returns : goal.returns
returns g c = at_front c.put.ensures.written
