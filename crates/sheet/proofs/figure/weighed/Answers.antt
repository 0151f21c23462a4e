-- `sheet::figure::weighed` meets its contract, from those of what it calls. Assumes nothing.
use mathlib.Core.Path.{◌≡◌, ◌∙◌, ap, ap₂}
use borrow.Author.Rules.{rules}
use Rattle.numbers.specs.Ranges.{InRange}
use Rattle.numbers.proofs.Reflection.{MachineExpression, arg, lit, ◌-ᵐ◌, none, read_back}
use Rattle.sheet.specs.Quantities as quantities
use Rattle.sheet.specs.StepSheet.{D, M, g, w1, w2, A, Figure}
use Rattle.sheet.proofs.Values.{read, given_back, equal_of}
use Rattle.sheet.proofs.figure.weighed.Goals as goal
use Rattle.sheet.proofs.figure.weighed.Goals.{Start, After-latent_heat-heat, After-weight-w1}

abbrev rest : MachineExpression
rest = lit 1_000_000_000 -ᵐ arg 0

latent_is : (c : After-latent_heat-heat) → read_back c.latent_heat-heat.result ≡ M c.before.args.m
latent_is c = given_back c.latent_heat-heat.ensures tt ∙ ap M (read c.before.requires.0 tt)

module _ (c : After-weight-w1) where
  abbrev entry : Start
  entry = c.before.before.before.before

  weight_is : (c.weight-w1.result ≡ w1 (D entry.args.m) (g entry.args.p (M entry.args.m))) × InRange quantities.weight c.weight-w1.result
  weight_is =
      let slope = c.before in
      let constant = slope.before in (
        c.weight-w1.ensures.0
            ∙ ap₂ w1 (given_back slope.slope-d.ensures tt ∙ ap D (read entry.requires.0 tt))
            (given_back constant.psychrometric-g.ensures tt ∙ ap₂ g (read entry.requires.1 tt) (latent_is constant.before)),
        c.weight-w1.ensures.1,
      )

pub returns : goal.returns
unfolding w2
returns c =
    let amount = c.before in
    let weight = amount.before in
    let s = entry weight in
    let first = given_back (weight_is weight) tt in
    let second = (equal_of none (weight_is weight) rest quantities.weight tt).0 in
    let h = read s.requires.2 tt in
    let t = read s.requires.3 tt in (
      given_back c.rounded.ensures tt
          ∙ ap₂ Figure (given_back amount.amount-a.ensures tt ∙ (λ i. A (first i) (second i) (h i) (t i)))
          (latent_is weight.before.before.before),
      search rules,
    )
