-- `sheet::temperature::fourth_power` meets its contract: each step, as an expression, is safe in the ranges required. Assumes nothing.
use mathlib.Core.List.{[], ◌∷◌}
use Rattle.numbers.proofs.Reflection.{MachineExpression, arg, ◌*ᵐ◌, Given, none, ◌and◌, fits, equal_in}
use Rattle.sheet.specs.Quantities as quantities
use Rattle.sheet.specs.StepSheet.{U, V2, V4}
use Rattle.sheet.proofs.Lines.{u, v2, v4}
use Rattle.sheet.proofs.temperature.fourth_power.Goals as goal

abbrev f : MachineExpression
f = arg 0

given : (c : goal.Start) → Given (quantities.temperature ∷ []) (c.args.f ∷ [])
given c = c.requires and none

pub returns : goal.returns
unfolding U V2 V4
returns c = equal_in (given c) (v4 f) quantities.v4 tt

pub overflow_mul-v2 : goal.overflow_mul-v2
overflow_mul-v2 c = fits (given c) (u f *ᵐ u f) tt

pub overflow_mul-result : goal.overflow_mul-result
overflow_mul-result c = fits (given c) (v2 f *ᵐ v2 f) tt
