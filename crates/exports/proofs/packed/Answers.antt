-- `exports::packed` meets its contract. Assumes nothing.
use Rattle.exports.proofs.Told.{halves_said}
use Rattle.exports.proofs.packed.Goals as goal

pub returns : goal.returns
returns c = rw (c.from.ensures, c.from-2.ensures) (halves_said c.args.number c.args.value c.ranges.value.fits)
