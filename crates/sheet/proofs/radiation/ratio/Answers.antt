-- `sheet::radiation::ratio` meets its contract: each step, as an expression, is safe in the ranges required. Assumes nothing.
use mathlib.Core.Path.{◌≡◌}
use mathlib.Core.List.{[], ◌∷◌}
use Rattle.numbers.proofs.Reflection.{MachineExpression, arg, lit, ◌*ᵐ◌, ◌÷↓ᵐ◌, Given, none, ◌and◌, machine, equal, quotient_gives}
use Rattle.sheet.specs.Quantities as quantities
use Rattle.sheet.specs.StepSheet.{ρ}
use Rattle.sheet.proofs.Laws.{ratio_in}
use Rattle.sheet.proofs.Values.{said}
use Rattle.sheet.proofs.radiation.ratio.Goals as goal
use Rattle.sheet.proofs.radiation.ratio.Goals.{Start}

abbrev above : MachineExpression
above = lit 100_000_000_000_000 *ᵐ arg 0

abbrev below : MachineExpression
below = arg 1 ÷↓ᵐ lit 1_000

given : (c : Start) → Given (quantities.radiation ∷ quantities.clear_day ∷ []) (c.args.s ∷ c.args.q ∷ [])
given c = c.requires.0 and c.requires.1 and none

ratio_is : (c : Start) → machine (above ÷↓ᵐ below) (c.args.s ∷ c.args.q ∷ []) ≡ ρ c.args.s c.args.q
unfolding ρ
ratio_is c = equal (given c) (above ÷↓ᵐ below) tt

pub returns : goal.returns
returns c =
    let b = c.before in
    rw (quotient_gives (given b) above below c.quotient.ensures tt)
    (said (ratio_is b) (ratio_in b.args.s b.args.q b.requires.0 b.requires.1 b.requires.2))
