-- `sheet::wind::deficit` meets its contract: each step, as an expression, is safe in the ranges required. Assumes nothing.
use mathlib.Core.Path.{◌≡◌}
use mathlib.Core.List.{List, [], ◌∷◌}
use lib.IntN.{ℤ}
use Rattle.numbers.proofs.Reflection.{MachineExpression, arg, lit, ◌+ᵐ◌, ◌-ᵐ◌, ◌÷↓ᵐ◌, Given, none, ◌and◌, result, equal_in, quotient_gives}
use Rattle.sheet.specs.Quantities as quantities
use Rattle.sheet.specs.StepSheet.{«V»}
use Rattle.sheet.proofs.wind.deficit.Goals as goal
use Rattle.sheet.proofs.wind.deficit.Goals.{Start}

abbrev sum : MachineExpression
sum = arg 0 +ᵐ arg 1

abbrev lack : MachineExpression
lack = (sum ÷↓ᵐ lit 2) -ᵐ arg 2

abbrev zs : Start → List ℤ
zs c = c.args.maximum ∷ c.args.minimum ∷ c.args.ea ∷ []

given : (c : Start) → Given (quantities.vapour_pressure ∷ quantities.vapour_pressure ∷ quantities.vapour_pressure ∷ []) (zs c)
given c = c.requires.0 and c.requires.1 and c.requires.2 and none

gives : (c : goal.After-quotient) → c.quotient.result ≡ result (sum ÷↓ᵐ lit 2) (zs c.before)
gives c = quotient_gives (given c.before) sum (lit 2) c.quotient.ensures tt

pub returns : goal.returns
unfolding «V»
returns c = rw (gives c) (equal_in (given c.before) lack quantities.deficit tt)
