-- `sheet::figure::rounded` meets its contract: the branch's test is that of the definition. Assumes nothing.
use mathlib.Core.Path.{◌≡◌, refl, ◌∙◌, subst}
use mathlib.Core.Bool.{false}
use mathlib.Core.List.{[], ◌∷◌}
use native.Mathlib.Omega.{arith}
use lib.IntN.{ℤ, pos}
use lib.Signed.{le_z}
use mir.Facts.{to_z-of_z}
use Rattle.numbers.specs.Ranges.{from◌to◌}
use Rattle.numbers.proofs.Reflection.{MachineExpression, arg, lit, ◌+ᵐ◌, ◌*ᵐ◌, ◌÷↓ᵐ◌, Given, none, ◌and◌, equal_in, meaning, quotient_asks, quotient_gives}
use Rattle.sheet.specs.Quantities as quantities
use Rattle.sheet.specs.StepSheet.{Figure}
use Rattle.sheet.proofs.Choices.{taken, left, positive_in}
use Rattle.sheet.proofs.figure.rounded.Goals as goal

abbrev whole : MachineExpression
whole = lit 100 *ᵐ arg 1

abbrev above : MachineExpression
above = lit 2 *ᵐ (lit 23_622 *ᵐ arg 0) +ᵐ whole

abbrev nearest : MachineExpression
nearest = above ÷↓ᵐ (lit 2 *ᵐ whole)

given : (c : goal.Else-a-le0) → Given ((from 1 to 8_000_000_000) ∷ quantities.latent_heat ∷ []) (c.args.a ∷ c.args.heat ∷ [])
given c =
    positive_in c.requires.0 (subst (λ (z : ℤ). le_z z (pos 0) ≡ false) (to_z-of_z c.ranges.a) c.if-a-le0.false) and c.requires.1 and none

pub returns-then-a-le0 : goal.returns-then-a-le0
unfolding Figure
returns-then-a-le0 c =
    (taken le_z (to_z-of_z c.ranges.a) refl (pos 0) (meaning nearest (c.args.a ∷ c.args.heat ∷ [])) c.if-a-le0.true, omega arith)

pub returns : goal.returns
unfolding Figure
returns c =
    let e = c.before in
    let h = equal_in (given e) nearest quantities.figure tt in
    rw (quotient_gives (given e) above (lit 2 *ᵐ whole) c.quotient.ensures tt)
    (h.0 ∙ left le_z (to_z-of_z c.ranges.a) refl (pos 0) (meaning nearest (c.args.a ∷ c.args.heat ∷ [])) e.if-a-le0.false, h.1)

pub quotient-requires : goal.quotient-requires
quotient-requires c = quotient_asks (given c) above (lit 2 *ᵐ whole) tt
