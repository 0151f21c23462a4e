-- `sheet::wind::drying` meets its contract: each call's result is one more argument. Assumes nothing.
use mathlib.Core.Path.{◌≡◌}
use mathlib.Core.List.{[], ◌∷◌}
use lib.IntN.{pos, ◌*ℤ◌}
use Rattle.numbers.specs.Whole.{◌÷0◌}
use Rattle.numbers.specs.Ranges.{Range, minus◌to◌, InRange}
use Rattle.numbers.proofs.Reflection.{arg, lit, ◌*ᵐ◌, ◌÷0ᵐ◌, Given, none, ◌and◌, fits, called}
use Rattle.sheet.specs.Quantities as quantities
use Rattle.sheet.specs.StepSheet.{T}
use Rattle.sheet.proofs.Values.{called_of, returned}
use Rattle.sheet.proofs.wind.drying.Goals as goal
use Rattle.sheet.proofs.wind.drying.Goals.{After-toward_zero-carried, Start}

abbrev hundredths : Range
hundredths = minus 160_000_000 to 160_000_000

abbrev carried : Range
carried = minus 720_000_000 to 720_000_000

given : (c : Start) → Given (quantities.deficit ∷ quantities.wind_factor ∷ []) (c.args.v ∷ c.args.wf ∷ [])
given c = c.requires.0 and c.requires.1 and none

hundredths_is : (c : goal.After-toward_zero-hundredths) → (c.toward_zero-hundredths.result ≡ c.before.args.v ÷0 pos 100) × InRange hundredths c.toward_zero-hundredths.result
hundredths_is c = called (given c.before) (arg 0 ÷0ᵐ lit 100) hundredths c.toward_zero-hundredths.ensures tt

carried_is : (c : After-toward_zero-carried) →
    (c.toward_zero-carried.result ≡ (c.before.before.args.v ÷0 pos 100) *ℤ c.before.before.args.wf ÷0 pos 1_000_000_000)
    × InRange carried c.toward_zero-carried.result
carried_is c =
    let b = c.before in
    called_of (given b.before) (hundredths_is b) (arg 0 *ᵐ arg 2 ÷0ᵐ lit 1_000_000_000) carried c.toward_zero-carried.ensures tt

pub returns : goal.returns
unfolding T
returns c =
    let b = c.before in
    returned (called_of none (carried_is b) (arg 0 *ᵐ lit 643 ÷0ᵐ lit 100) quantities.drying c.toward_zero.ensures tt) tt

pub overflow_mul-hundredths : goal.overflow_mul-hundredths
overflow_mul-hundredths c = fits ((hundredths_is c).1 and given c.before) (arg 0 *ᵐ arg 2) tt
