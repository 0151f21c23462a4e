-- `sheet::radiation::soil_heat` meets its contract: with no earlier mean it is 0, with some the divisor is nine times their number. Assumes nothing.
use mathlib.Core.Path.{◌∙◌}
use mathlib.Core.List.{[], ◌∷◌}
use native.Mathlib.Omega.{arith}
use Rattle.numbers.specs.Ranges.{from◌to◌, InRange}
use Rattle.numbers.proofs.Reflection.{MachineExpression, arg, lit, ◌-ᵐ◌, ◌*ᵐ◌, ◌÷0ᵐ◌, Given, none, ◌and◌, fits, called}
use Rattle.sheet.specs.Quantities as quantities
use Rattle.sheet.proofs.Choices.{is_number, is_above}
use Rattle.sheet.proofs.Laws.{soil_none, soil_some}
use Rattle.sheet.proofs.Values.{returned}
use Rattle.sheet.proofs.radiation.soil_heat.Goals as goal

abbrev warming : MachineExpression
warming = arg 1 *ᵐ arg 0 -ᵐ arg 2

abbrev change : MachineExpression
change = lit 1_885_000 *ᵐ warming

abbrev divisor : MachineExpression
divisor = lit 9 *ᵐ arg 1

some : (c : goal.Else-k-eq0) → InRange (from 1 to 3) c.before.args.k
some c = is_above c.before.requires.1 c.if-k-eq0.false

given : (c : goal.Else-k-eq0) →
    Given (quantities.temperature ∷ (from 1 to 3) ∷ quantities.earlier_sum ∷ []) (c.before.args.m ∷ c.before.args.k ∷ c.before.args.z ∷ [])
given c = c.before.requires.0 and some c and c.before.requires.2 and none

pub returns-then-k-eq0 : goal.returns-then-k-eq0
returns-then-k-eq0 c = (soil_none c.before.args.m c.before.args.z (is_number c.before.requires.1 c.if-k-eq0.true), omega arith)

pub returns : goal.returns
returns c =
    let e = c.before in
    let h = called (given e) (change ÷0ᵐ divisor) quantities.soil_heat c.toward_zero.ensures tt in
    returned (h.0 ∙ soil_some e.before.args.m e.before.args.z (some e), h.1) tt

pub overflow_sub-k : goal.overflow_sub-k
overflow_sub-k c = fits (given c) warming tt

pub overflow_mul-k-2 : goal.overflow_mul-k-2
overflow_mul-k-2 c = fits (given c) change tt
