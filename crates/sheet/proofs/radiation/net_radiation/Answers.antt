-- `sheet::radiation::net_radiation` meets its contract: each step, as an expression, is safe in the ranges required. Assumes nothing.
use mathlib.Core.Path.{◌≡◌}
use mathlib.Core.List.{List, [], ◌∷◌}
use lib.IntN.{ℤ}
use Rattle.numbers.proofs.Reflection.{MachineExpression, arg, lit, ◌-ᵐ◌, ◌*ᵐ◌, ◌÷↓ᵐ◌, Given, none, ◌and◌, result, fits, equal_in, quotient_asks, quotient_gives}
use Rattle.sheet.specs.Quantities as quantities
use Rattle.sheet.specs.StepSheet.{S, Rn}
use Rattle.sheet.proofs.radiation.net_radiation.Goals as goal

abbrev share : MachineExpression
share = lit 1_000_000_000 -ᵐ arg 0

abbrev sun : MachineExpression
sun = lit 41_868 *ᵐ arg 1

abbrev net : MachineExpression
net = (share *ᵐ sun ÷↓ᵐ lit 1_000_000_000) -ᵐ arg 2

abbrev zs : goal.Start → List ℤ
zs c = c.args.albedo ∷ c.args.s ∷ c.args.rb ∷ []

given : (c : goal.Start) → Given (quantities.albedo ∷ quantities.radiation ∷ quantities.back_radiation ∷ []) (zs c)
given c = c.requires.0 and c.requires.1 and c.requires.2 and none

gives : (c : goal.After-quotient) → c.quotient.result ≡ result (share *ᵐ sun ÷↓ᵐ lit 1_000_000_000) (zs c.before)
gives c = quotient_gives (given c.before) (share *ᵐ sun) (lit 1_000_000_000) c.quotient.ensures tt

pub returns : goal.returns
unfolding S Rn
returns c = rw (gives c) (equal_in (given c.before) net quantities.net_radiation tt)

pub quotient-requires : goal.quotient-requires
quotient-requires c = quotient_asks (given c) (share *ᵐ sun) (lit 1_000_000_000) tt

pub overflow_sub-result : goal.overflow_sub-result
overflow_sub-result c = rw (gives c) (fits (given c.before) net tt)
