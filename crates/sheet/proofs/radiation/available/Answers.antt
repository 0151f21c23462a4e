-- `sheet::radiation::available` meets its contract. Assumes nothing.
use mathlib.Core.List.{[], ◌∷◌}
use Rattle.numbers.proofs.Reflection.{arg, ◌-ᵐ◌, Given, none, ◌and◌, equal_in}
use Rattle.sheet.specs.Quantities as quantities
use Rattle.sheet.specs.StepSheet.{H}
use Rattle.sheet.proofs.radiation.available.Goals as goal

given : (c : goal.Start) → Given (quantities.net_radiation ∷ quantities.soil_heat ∷ []) (c.args.rn ∷ c.args.soil ∷ [])
given c = c.requires.0 and c.requires.1 and none

pub returns : goal.returns
unfolding H
returns c = equal_in (given c) (arg 0 -ᵐ arg 1) quantities.heat tt
