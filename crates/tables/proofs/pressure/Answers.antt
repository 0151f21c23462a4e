-- `tables::pressure` meets its contract: the array's entry, read in place. Assumes nothing.
use Rattle.tables.proofs.WholeTables.{pressures}
use Rattle.tables.proofs.pressure.Goals as goal

pub returns : goal.returns
returns c = pressures.entries c.args.e c.requires
