-- `sheet::clear::clear_sum` meets its contract: each step, as an expression, is safe at every constant and day. Assumes nothing.
use mathlib.Core.List.{List, [], ◌∷◌}
use lib.Dec.{T}
use lib.IntN.{ℤ}
use mir.Syntax.{w64}
use mir.Val.{SFits}
use Rattle.numbers.specs.Ranges.{Range, InRange}
use Rattle.numbers.proofs.Reflection.{MachineExpression, arg, lit, ◌+ᵐ◌, ◌*ᵐ◌, Given, none, ◌and◌, safe, result, fits, equal_in}
use Rattle.sheet.specs.Quantities as quantities
use Rattle.sheet.specs.Accepted.{ConstantsInRange}
use Rattle.sheet.specs.StepSheet.{clear_sum}
use Rattle.sheet.specs.declared.Constants.{Constants}
use Rattle.sheet.proofs.clear.clear_sum.Goals as goal

abbrev d : MachineExpression
d = arg 5

abbrev first : MachineExpression
first = lit 1_000_000_000 *ᵐ arg 0

abbrev second : MachineExpression
second = lit 1_000_000 *ᵐ arg 1 *ᵐ d

abbrev third : MachineExpression
third = lit 100_000 *ᵐ arg 2 *ᵐ d *ᵐ d

abbrev fourth : MachineExpression
fourth = lit 1_000 *ᵐ arg 3 *ᵐ d *ᵐ d *ᵐ d

abbrev fifth : MachineExpression
fifth = arg 4 *ᵐ d *ᵐ d *ᵐ d *ᵐ d

abbrev rs : List Range
rs =
    quantities.signed_word
    ∷ quantities.signed_word
    ∷ quantities.signed_word
    ∷ quantities.signed_word
    ∷ quantities.signed_word
    ∷ quantities.day_of_year
    ∷ []

module _ {k : Constants} {x : ℤ} (h : ConstantsInRange k × InRange quantities.day_of_year x) where
  abbrev zs : List ℤ
  zs = k.c1 ∷ k.c2 ∷ k.c3 ∷ k.c4 ∷ k.c5 ∷ x ∷ []

  given : Given rs zs
  given = h.0.c1 and h.0.c2 and h.0.c3 and h.0.c4 and h.0.c5 and h.1 and none

  fit : (e : MachineExpression) → T (safe e rs) → SFits w64 (result e zs)
  fit = fits given

pub returns : goal.returns
unfolding clear_sum
returns c = equal_in (given c.requires) (first +ᵐ second +ᵐ third +ᵐ fourth +ᵐ fifth) quantities.clear_sum tt

pub overflow_mul-result-3 : goal.overflow_mul-result-3
overflow_mul-result-3 c = fit c.requires second tt

pub overflow_add-result : goal.overflow_add-result
overflow_add-result c = fit c.requires (first +ᵐ second) tt

pub overflow_mul-result-5 : goal.overflow_mul-result-5
overflow_mul-result-5 c = fit c.requires (lit 100_000 *ᵐ arg 2 *ᵐ d) tt

pub overflow_mul-result-6 : goal.overflow_mul-result-6
overflow_mul-result-6 c = fit c.requires third tt

pub overflow_add-result-2 : goal.overflow_add-result-2
overflow_add-result-2 c = fit c.requires (first +ᵐ second +ᵐ third) tt

pub overflow_mul-result-8 : goal.overflow_mul-result-8
overflow_mul-result-8 c = fit c.requires (lit 1_000 *ᵐ arg 3 *ᵐ d) tt

pub overflow_mul-result-9 : goal.overflow_mul-result-9
overflow_mul-result-9 c = fit c.requires (lit 1_000 *ᵐ arg 3 *ᵐ d *ᵐ d) tt

pub overflow_mul-result-10 : goal.overflow_mul-result-10
overflow_mul-result-10 c = fit c.requires fourth tt

pub overflow_add-result-3 : goal.overflow_add-result-3
overflow_add-result-3 c = fit c.requires (first +ᵐ second +ᵐ third +ᵐ fourth) tt

pub overflow_mul-result-12 : goal.overflow_mul-result-12
overflow_mul-result-12 c = fit c.requires (arg 4 *ᵐ d *ᵐ d) tt

pub overflow_mul-result-13 : goal.overflow_mul-result-13
overflow_mul-result-13 c = fit c.requires (arg 4 *ᵐ d *ᵐ d *ᵐ d) tt

pub overflow_mul-result-14 : goal.overflow_mul-result-14
overflow_mul-result-14 c = fit c.requires fifth tt

pub overflow_add-result-4 : goal.overflow_add-result-4
overflow_add-result-4 c = fit c.requires (first +ᵐ second +ᵐ third +ᵐ fourth +ᵐ fifth) tt
