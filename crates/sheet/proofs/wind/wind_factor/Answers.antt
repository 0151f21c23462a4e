-- `sheet::wind::wind_factor` meets its contract: each step, as an expression, is safe in the ranges required. Assumes nothing.
use mathlib.Core.Path.{◌≡◌}
use mathlib.Core.List.{List, [], ◌∷◌}
use lib.IntN.{ℤ}
use Rattle.numbers.proofs.Reflection.{MachineExpression, arg, lit, ◌+ᵐ◌, ◌*ᵐ◌, ◌÷↓ᵐ◌, Given, none, ◌and◌, result, fits, equal_in, quotient_gives}
use Rattle.sheet.specs.Quantities as quantities
use Rattle.sheet.specs.StepSheet.{Wf}
use Rattle.sheet.proofs.wind.wind_factor.Goals as goal
use Rattle.sheet.proofs.wind.wind_factor.Goals.{Start}

abbrev run : MachineExpression
run = arg 1 *ᵐ (lit 16_093 *ᵐ arg 2)

abbrev factor : MachineExpression
factor = arg 0 +ᵐ (run ÷↓ᵐ lit 100_000)

abbrev zs : Start → List ℤ
zs c = c.args.aw ∷ c.args.bw ∷ c.args.w ∷ []

given : (c : Start) → Given (quantities.aw ∷ quantities.bw ∷ quantities.counted_wind ∷ []) (zs c)
given c = c.requires.0 and c.requires.1 and c.requires.2 and none

gives : (c : goal.After-quotient) → c.quotient.result ≡ result (run ÷↓ᵐ lit 100_000) (zs c.before)
gives c = quotient_gives (given c.before) run (lit 100_000) c.quotient.ensures tt

pub returns : goal.returns
unfolding Wf
returns c = rw (gives c) (equal_in (given c.before) factor quantities.wind_factor tt)

pub overflow_add-result : goal.overflow_add-result
overflow_add-result c = rw (gives c) (fits (given c.before) factor tt)
