-- `sheet::clear::above_twice_clear` meets its contract: each side of the test, as an expression, is safe in the ranges required. Assumes nothing.
use mathlib.Core.Path.{ap₂}
use mathlib.Core.List.{[], ◌∷◌}
use lib.Signed.{lt_z}
use Rattle.numbers.proofs.Reflection.{MachineExpression, arg, lit, ◌*ᵐ◌, Given, none, ◌and◌, equal}
use Rattle.sheet.specs.Quantities as quantities
use Rattle.sheet.specs.StepSheet.{above_twice_clear}
use Rattle.sheet.proofs.clear.above_twice_clear.Goals as goal

abbrev reading : MachineExpression
reading = lit 100_000_000 *ᵐ arg 0

abbrev twice : MachineExpression
twice = lit 2 *ᵐ arg 1

given : (c : goal.Start) → Given (quantities.radiation ∷ quantities.clear_day ∷ []) (c.args.s ∷ c.args.q ∷ [])
given c = c.requires.0 and c.requires.1 and none

pub returns : goal.returns
unfolding above_twice_clear
returns c = ap₂ lt_z (equal (given c) twice tt) (equal (given c) reading tt)
