-- `sheet::figure::drying` meets its contract, from those of what it calls. Assumes nothing.
use mathlib.Core.Path.{◌∙◌, ap, ap₂}
use borrow.Author.Rules.{rules}
use Rattle.sheet.specs.StepSheet.{e, «V», counted_wind, Wf, T, drying}
use Rattle.sheet.proofs.Values.{read, given_back, ap₃}
use Rattle.sheet.proofs.figure.drying.Goals as goal

pub returns : goal.returns
unfolding drying
returns c =
    let factor = c.before in
    let run = factor.before.before.before in
    let lack = run.before.before in
    let low = lack.before in
    let high = low.before.before in
    let dew = high.before.before in
    let s = dew.before.before in (
      given_back c.drying.ensures tt
          ∙ ap₂ T
          (given_back lack.deficit-v.ensures tt
          ∙ ap₃ «V»
          (given_back high.vapour_pressure-e_maximum.ensures tt ∙ ap e (read s.requires.0.maximum tt))
          (given_back low.vapour_pressure-e_minimum.ensures tt ∙ ap e (read s.requires.0.minimum tt))
          (given_back dew.vapour_pressure-ea.ensures tt ∙ ap e (read s.requires.0.dewpoint tt)))
          (given_back factor.wind_factor-wf.ensures tt
          ∙ ap₃ Wf (read s.requires.1.aw tt) (read s.requires.1.bw tt)
          (given_back run.counted_wind-w.ensures tt ∙ ap₂ counted_wind (read s.requires.2 tt) (read s.requires.0.wind tt))),
      search rules,
    )
