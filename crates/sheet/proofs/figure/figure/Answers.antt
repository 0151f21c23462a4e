-- `sheet::figure::figure` meets its contract, from those of what it calls. Assumes nothing.
use mathlib.Core.Path.{◌∙◌, ap}
use borrow.Author.Rules.{rules}
use Rattle.sheet.specs.Parts.{weighed}
use Rattle.sheet.specs.StepSheet.{heat, drying, figure}
use Rattle.sheet.proofs.Values.{read, given_back}
use Rattle.sheet.proofs.figure.figure.Goals as goal

pub returns : goal.returns
unfolding figure
returns c =
    let warm = c.before.before.before in
    let dry = warm.before in
    let s = dry.before in
    let m = read s.requires.0.mean tt in
    let p = read s.requires.1.p tt in
    let h = given_back warm.heat-h.ensures tt ∙ ap (heat _ _ _) (read s.requires.3.range tt) in
    let t = given_back dry.drying-dry.ensures tt ∙ ap (drying _ _) (read s.requires.4 tt) in
    (given_back c.weighed.ensures tt ∙ (λ i. weighed (m i) (p i) (h i) (t i)), search rules)
