-- `sheet::radiation::emission` meets its contract: each step, as an expression, is safe in the ranges required. Assumes nothing.
use mathlib.Core.List.{[], ◌∷◌}
use Rattle.numbers.proofs.Reflection.{MachineExpression, arg, lit, ◌+ᵐ◌, ◌-ᵐ◌, ◌*ᵐ◌, ◌÷↓ᵐ◌, Given, none, ◌and◌, fits, equal_in}
use Rattle.sheet.specs.Quantities as quantities
use Rattle.sheet.specs.StepSheet.{N, fourth_power, B}
use Rattle.sheet.proofs.radiation.emission.Goals as goal

abbrev n : MachineExpression → MachineExpression
n f = lit 50 *ᵐ (f -ᵐ lit 320) +ᵐ lit 245_844

abbrev square : MachineExpression → MachineExpression
square f = n f *ᵐ n f ÷↓ᵐ lit 100

abbrev high : MachineExpression
high = arg 0

abbrev low : MachineExpression
low = arg 1

abbrev sum : MachineExpression
sum = square high *ᵐ square high +ᵐ square low *ᵐ square low

abbrev mean : MachineExpression
mean = lit 4_903 *ᵐ (sum ÷↓ᵐ lit 1_000_000)

given : (c : goal.Start) → Given (quantities.temperature ∷ quantities.temperature ∷ []) (c.args.maximum ∷ c.args.minimum ∷ [])
given c = c.requires.0 and c.requires.1 and none

pub returns : goal.returns
unfolding N fourth_power B
returns c = equal_in (given c) (mean ÷↓ᵐ lit 13_122_000) quantities.emission tt

pub overflow_mul-high2 : goal.overflow_mul-high2
overflow_mul-high2 c = fits (given c) (n high *ᵐ n high) tt

pub overflow_mul-low2 : goal.overflow_mul-low2
overflow_mul-low2 c = fits (given c) (n low *ᵐ n low) tt

pub overflow_mul-result : goal.overflow_mul-result
overflow_mul-result c = fits (given c) (square high *ᵐ square high) tt

pub overflow_mul-result-2 : goal.overflow_mul-result-2
overflow_mul-result-2 c = fits (given c) (square low *ᵐ square low) tt

pub overflow_add-result : goal.overflow_add-result
overflow_add-result c = fits (given c) sum tt

pub overflow_mul-result-3 : goal.overflow_mul-result-3
overflow_mul-result-3 c = fits (given c) mean tt
