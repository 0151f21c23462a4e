-- `sheet::figure::amount` meets its contract: each step, as an expression, is safe in the ranges required. Assumes nothing.
use mathlib.Core.List.{[], ◌∷◌}
use Rattle.numbers.proofs.Reflection.{MachineExpression, arg, lit, ◌+ᵐ◌, ◌*ᵐ◌, ◌÷0ᵐ◌, Given, none, ◌and◌, fits, called}
use Rattle.sheet.specs.Quantities as quantities
use Rattle.sheet.specs.StepSheet.{A}
use Rattle.sheet.proofs.Values.{returned}
use Rattle.sheet.proofs.figure.amount.Goals as goal

abbrev sum : MachineExpression
sum = arg 0 *ᵐ arg 2 +ᵐ arg 1 *ᵐ arg 3

given : (c : goal.Start) →
    Given (quantities.weight ∷ quantities.weight ∷ quantities.heat ∷ quantities.drying ∷ [])
    (c.args.w1 ∷ c.args.w2 ∷ c.args.h ∷ c.args.t ∷ [])
given c = c.requires.0 and c.requires.1 and c.requires.2 and c.requires.3 and none

pub returns : goal.returns
unfolding A
returns c = returned (called (given c.before) (sum ÷0ᵐ lit 1_000_000_000) quantities.amount c.toward_zero.ensures tt) tt

pub overflow_add-w1 : goal.overflow_add-w1
overflow_add-w1 c = fits (given c) sum tt
