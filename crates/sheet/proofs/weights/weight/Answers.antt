-- `sheet::weights::weight` meets its contract: each step, as an expression, is safe in the ranges required. Assumes nothing.
use mathlib.Core.Path.{◌≡◌}
use mathlib.Core.List.{[], ◌∷◌}
use Rattle.numbers.proofs.Reflection.{MachineExpression, arg, lit, ◌+ᵐ◌, ◌*ᵐ◌, ◌÷↓ᵐ◌, Given, none, ◌and◌, machine, equal, quotient_gives}
use Rattle.sheet.specs.Quantities as quantities
use Rattle.sheet.specs.StepSheet.{w1}
use Rattle.sheet.proofs.Laws.{weight_in}
use Rattle.sheet.proofs.Values.{said}
use Rattle.sheet.proofs.weights.weight.Goals as goal
use Rattle.sheet.proofs.weights.weight.Goals.{Start}

abbrev above : MachineExpression
above = lit 1_000_000_000 *ᵐ arg 0

abbrev below : MachineExpression
below = arg 0 +ᵐ arg 1

given : (c : Start) → Given (quantities.slope ∷ quantities.psychrometric ∷ []) (c.args.d ∷ c.args.g ∷ [])
given c = c.requires.0 and c.requires.1 and none

weight_is : (c : Start) → machine (above ÷↓ᵐ below) (c.args.d ∷ c.args.g ∷ []) ≡ w1 c.args.d c.args.g
unfolding w1
weight_is c = equal (given c) (above ÷↓ᵐ below) tt

pub returns : goal.returns
returns c =
    let b = c.before in
    rw (quotient_gives (given b) above below c.quotient.ensures tt)
    (said (weight_is b) (weight_in b.args.d b.args.g b.requires.0 b.requires.1))
