-- `sheet::temperature::vapour_pressure` meets its contract: each step, as an expression of V4 and the temperature, is safe in their ranges.
-- Assumes nothing.
use mathlib.Core.Path.{◌≡◌, refl, ap, ◌∙◌}
use mathlib.Core.List.{[], ◌∷◌}
use lib.IntN.{ℤ, pos, ◌+ℤ◌, ◌-ℤ◌, ◌*ℤ◌}
use Rattle.numbers.specs.Whole.{◌÷↓◌}
use Rattle.numbers.proofs.Reflection.{MachineExpression, arg, lit, ◌+ᵐ◌, ◌-ᵐ◌, ◌*ᵐ◌, ◌÷↓ᵐ◌, Given, none, ◌and◌, fits, equal_in}
use Rattle.sheet.specs.Quantities as quantities
use Rattle.sheet.specs.StepSheet.{V4, V8, e}
use Rattle.sheet.proofs.Lines.{distance}
use Rattle.sheet.proofs.Values.{read}
use Rattle.sheet.proofs.temperature.vapour_pressure.Goals as goal

abbrev v4 : MachineExpression
v4 = arg 0

abbrev v8 : MachineExpression
v8 = v4 *ᵐ v4 ÷↓ᵐ lit 1_000_000_000

abbrev f : MachineExpression
f = arg 1

abbrev sum : MachineExpression
sum = (v8 -ᵐ lit 1_900 *ᵐ distance f) +ᵐ lit 1_316_000

given : (c : goal.After-fourth_power-v4) → Given (quantities.v4 ∷ quantities.temperature ∷ []) (c.fourth_power-v4.result ∷ c.before.args.f ∷ [])
given c = c.fourth_power-v4.ensures.1 and c.before.requires and none

-- e, of V4 and the temperature
abbrev line : ℤ → ℤ → ℤ
line v f = ((v *ℤ v ÷↓ pos 1_000_000_000) -ℤ pos 1_900 *ℤ (f +ℤ pos 160) +ℤ pos 1_316_000) *ℤ pos 338_639 ÷↓ pos 100_000

line_is : (f : ℤ) → line (V4 f) f ≡ e f
unfolding V8 e
line_is f = refl

pub returns : goal.returns
returns c =
    let f = c.before.args.f in
    let p = equal_in (given c) (sum *ᵐ lit 338_639 ÷↓ᵐ lit 100_000) quantities.vapour_pressure tt in
    (p.0 ∙ ap (λ (v : ℤ). line v f) (c.fourth_power-v4.ensures.0 ∙ ap V4 (read c.before.requires tt)) ∙ line_is f, p.1)

pub overflow_sub-result : goal.overflow_sub-result
overflow_sub-result c = fits (given c) (v8 -ᵐ lit 1_900 *ᵐ distance f) tt

pub overflow_add-result-2 : goal.overflow_add-result-2
overflow_add-result-2 c = fits (given c) sum tt

pub overflow_mul-result-2 : goal.overflow_mul-result-2
overflow_mul-result-2 c = fits (given c) (sum *ᵐ lit 338_639) tt
