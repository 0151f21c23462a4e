-- `sheet::radiation::back_radiation` meets its contract: each call's result is one more argument. Assumes nothing.
use mathlib.Core.Path.{◌≡◌}
use mathlib.Core.List.{[], ◌∷◌}
use lib.IntN.{pos, ◌*ℤ◌}
use Rattle.numbers.specs.Whole.{◌÷0◌}
use Rattle.numbers.specs.Ranges.{Range, minus◌to◌, InRange}
use Rattle.numbers.proofs.Reflection.{arg, lit, ◌*ᵐ◌, ◌÷0ᵐ◌, Given, none, ◌and◌, fits, called}
use Rattle.sheet.specs.Quantities as quantities
use Rattle.sheet.specs.StepSheet.{Rb}
use Rattle.sheet.proofs.Values.{called_of, returned}
use Rattle.sheet.proofs.radiation.back_radiation.Goals as goal
use Rattle.sheet.proofs.radiation.back_radiation.Goals.{Start}

abbrev sent : Range
sent = minus 360_000_000 to 216_000_000

given : (c : Start) →
    Given (quantities.emittance ∷ quantities.emission ∷ quantities.cloud_factor ∷ []) (c.args.emittance ∷ c.args.b ∷ c.args.k ∷ [])
given c = c.requires.0 and c.requires.1 and c.requires.2 and none

sent_is : (c : goal.After-toward_zero-sent) →
    (c.toward_zero-sent.result ≡ c.before.args.emittance *ℤ c.before.args.b ÷0 pos 1_000_000_000) × InRange sent c.toward_zero-sent.result
sent_is c = called (given c.before) (arg 0 *ᵐ arg 1 ÷0ᵐ lit 1_000_000_000) sent c.toward_zero-sent.ensures tt

pub returns : goal.returns
unfolding Rb
returns c =
    let b = c.before in
    returned
    (called_of (given b.before) (sent_is b) (arg 0 *ᵐ arg 3 ÷0ᵐ lit 1_000_000_000) quantities.back_radiation c.toward_zero.ensures tt)
    tt

pub overflow_mul-sent : goal.overflow_mul-sent
overflow_mul-sent c = fits ((sent_is c).1 and given c.before) (arg 0 *ᵐ arg 3) tt
