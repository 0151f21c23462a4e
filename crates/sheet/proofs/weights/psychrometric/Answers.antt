-- `sheet::weights::psychrometric` meets its contract: each step, as an expression, is safe in the ranges required. Assumes nothing.
use mathlib.Core.List.{[], ◌∷◌}
use Rattle.numbers.proofs.Reflection.{MachineExpression, arg, Given, none, ◌and◌, equal_in, quotient_gives}
use Rattle.sheet.specs.Quantities as quantities
use Rattle.sheet.specs.StepSheet.{g}
use Rattle.sheet.proofs.Lines.{above, below, psychrometric}
use Rattle.sheet.proofs.weights.psychrometric.Goals as goal
use Rattle.sheet.proofs.weights.psychrometric.Goals.{Start}

abbrev p : MachineExpression
p = arg 0

abbrev heat : MachineExpression
heat = arg 1

given : (c : Start) → Given (quantities.pressure ∷ quantities.latent_heat ∷ []) (c.args.p ∷ c.args.heat ∷ [])
given c = c.requires.0 and c.requires.1 and none

pub returns : goal.returns
unfolding g
returns c =
    let b = c.before in
    rw (quotient_gives (given b) (above p) (below heat) c.quotient.ensures tt) (equal_in (given b) (psychrometric p heat) quantities.psychrometric tt)
