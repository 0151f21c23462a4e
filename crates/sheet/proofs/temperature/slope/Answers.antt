-- `sheet::temperature::slope` meets its contract: each step, as an expression, is safe in the ranges required. Assumes nothing.
use mathlib.Core.Path.{◌≡◌}
use mathlib.Core.List.{[], ◌∷◌}
use Rattle.numbers.proofs.Reflection.{MachineExpression, arg, lit, ◌*ᵐ◌, Given, none, ◌and◌, result, fits, equal_in, quotient_asks, quotient_gives}
use Rattle.sheet.specs.Quantities as quantities
use Rattle.sheet.specs.StepSheet.{U, V2, V4, V6, V7, D}
use Rattle.sheet.proofs.Lines.{u, v2, v4, v6, v7, slope}
use Rattle.sheet.proofs.temperature.slope.Goals as goal

abbrev m : MachineExpression
m = arg 0

given : (c : goal.Start) → Given (quantities.temperature ∷ []) (c.args.m ∷ [])
given c = c.requires and none

gives : (c : goal.After-quotient-v7) → c.quotient-v7.result ≡ result (v7 m) (c.before.args.m ∷ [])
gives c = quotient_gives (given c.before) (v6 m *ᵐ u m) (lit 100_000) c.quotient-v7.ensures tt

pub returns : goal.returns
unfolding U V2 V4 V6 V7 D
returns c = rw (gives c) (equal_in (given c.before) (slope m) quantities.slope tt)

pub overflow_mul-v2 : goal.overflow_mul-v2
overflow_mul-v2 c = fits (given c) (u m *ᵐ u m) tt

pub overflow_mul-v4 : goal.overflow_mul-v4
overflow_mul-v4 c = fits (given c) (v2 m *ᵐ v2 m) tt

pub overflow_mul-v6 : goal.overflow_mul-v6
overflow_mul-v6 c = fits (given c) (v4 m *ᵐ v2 m) tt

pub overflow_mul-v6-2 : goal.overflow_mul-v6-2
overflow_mul-v6-2 c = fits (given c) (v6 m *ᵐ u m) tt

pub quotient-v7-requires : goal.quotient-v7-requires
quotient-v7-requires c = quotient_asks (given c) (v6 m *ᵐ u m) (lit 100_000) tt
