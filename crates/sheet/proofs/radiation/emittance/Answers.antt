-- `sheet::radiation::emittance` meets its contract: each step, as an expression, is safe in the ranges required. Assumes nothing.
use mathlib.Core.List.{[], ◌∷◌}
use Rattle.numbers.proofs.Reflection.{MachineExpression, arg, lit, ◌-ᵐ◌, ◌*ᵐ◌, ◌÷↓ᵐ◌, Given, none, ◌and◌, equal_in}
use Rattle.sheet.specs.Quantities as quantities
use Rattle.sheet.specs.StepSheet.{emittance}
use Rattle.sheet.proofs.radiation.emittance.Goals as goal

abbrev part : MachineExpression
part = lit 139 *ᵐ arg 1

abbrev left : MachineExpression
left = arg 0 -ᵐ (part ÷↓ᵐ lit 100)

given : (c : goal.Start) → Given (quantities.a1 ∷ quantities.root ∷ []) (c.args.a1 ∷ c.args.r ∷ [])
given c = c.requires.0 and c.requires.1 and none

pub returns : goal.returns
unfolding emittance
returns c = equal_in (given c) left quantities.emittance tt
