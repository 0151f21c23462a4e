-- `sheet::temperature::latent_heat` meets its contract: each step, as an expression, is safe in the ranges required. Assumes nothing.
use mathlib.Core.List.{[], ◌∷◌}
use Rattle.numbers.proofs.Reflection.{MachineExpression, arg, Given, none, ◌and◌, equal_in}
use Rattle.sheet.specs.Quantities as quantities
use Rattle.sheet.specs.StepSheet.{M}
use Rattle.sheet.proofs.Lines.{latent_heat}
use Rattle.sheet.proofs.temperature.latent_heat.Goals as goal

abbrev m : MachineExpression
m = arg 0

given : (c : goal.Start) → Given (quantities.temperature ∷ []) (c.args.m ∷ [])
given c = c.requires and none

pub returns : goal.returns
unfolding M
returns c = equal_in (given c) (latent_heat m) quantities.latent_heat tt
