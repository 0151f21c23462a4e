-- `sheet::radiation::root` meets its contract: what the call gives is the whole square root, and is at most 4 × 10⁸. Assumes nothing.
use mathlib.Core.Path.{◌∙◌, ap}
use mathlib.Core.List.{[], ◌∷◌}
use Prim.Native.Nat.{◌≤◌, zero-le}
use native.Mathlib.Omega.{arith}
use lib.IntN.{pos}
use mir.Syntax.{w64}
use mir.Val.{SFits}
use mir.Facts.{to_z-of_z}
use Rattle.numbers.specs.Whole.{whole_root}
use Rattle.numbers.specs.Ranges.{Range, from◌to◌, InRange}
use Rattle.numbers.proofs.Reflection.{MachineExpression, arg, lit, ◌*ᵐ◌, ◌÷↓ᵐ◌, Given, none, ◌and◌, machine, equal, equal_in}
use Rattle.numbers.proofs.Signs.{nat_abs_in}
use Rattle.numbers.proofs.WholeRoots.{root_le}
use Rattle.sheet.specs.Quantities as quantities
use Rattle.sheet.specs.StepSheet.{e, r}
use Rattle.sheet.proofs.Laws.{root_of_nat_abs}
use Rattle.sheet.proofs.Values.{read}
use Rattle.sheet.proofs.radiation.root.Goals as goal

abbrev square : MachineExpression
square = lit 10_000_000 *ᵐ arg 0

abbrev squares : Range
squares = from 400_000_000 to 160_000_000_000_000_000

abbrev guess : MachineExpression
guess = lit 184 *ᵐ arg 1 ÷↓ᵐ lit 1_000

abbrev guesses : Range
guesses = from 1 to 400_000_000

-- e and V4
given : (c : goal.After-fourth_power) →
    Given (quantities.vapour_pressure ∷ quantities.v4 ∷ []) (c.before.vapour_pressure-ea.result ∷ c.fourth_power.result ∷ [])
given c = c.before.vapour_pressure-ea.ensures.1 and c.fourth_power.ensures.1 and none

square_in : (c : goal.After-fourth_power) → InRange squares (machine square (c.before.vapour_pressure-ea.result ∷ c.fourth_power.result ∷ []))
square_in c = (equal_in (given c) square squares tt).1

guess_in : (c : goal.After-fourth_power) → InRange guesses (machine guess (c.before.vapour_pressure-ea.result ∷ c.fourth_power.result ∷ []))
guess_in c = (equal_in (given c) guess guesses tt).1

pub whole_root-requires : goal.whole_root-requires
whole_root-requires c =
    let n = nat_abs_in (square_in c) in
    let g = nat_abs_in (guess_in c) in
    (omega (arith, g), omega (arith, n, g), omega (arith, n))

small : (c : goal.After-whole_root) → c.whole_root.result ≤ 400_000_000
small c = root_le _ 400_000_000 _ c.whole_root.ensures.low (omega (arith, nat_abs_in (square_in c.before)))

fit : (c : goal.After-whole_root) → SFits w64 (pos c.whole_root.result)
fit c = let h = small c in record { sfits = omega arith }

pub returns : goal.returns
unfolding r
returns c =
    let v = c.before in
    let ea = v.before.vapour_pressure-ea.ensures.0 ∙ ap e (read v.before.before.requires tt) in (
      to_z-of_z (fit c)
          ∙ root_of_nat_abs (square_in v) c.whole_root.ensures
          ∙ ap whole_root (equal (given v) square tt)
          ∙ ap r ea,
      rw (to_z-of_z (fit c)) (record { bounds = (zero-le, small c) }),
    )
