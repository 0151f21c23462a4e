-- `sheet::figure::heat` meets its contract, from those of what it calls. Assumes nothing.
use mathlib.Core.Path.{◌∙◌, ap₂}
use borrow.Author.Rules.{rules}
use Rattle.sheet.specs.Parts.{outgoing}
use Rattle.sheet.specs.StepSheet.{Rn, soil_heat, H, heat}
use Rattle.sheet.proofs.Values.{read, given_back, ap₃}
use Rattle.sheet.proofs.figure.heat.Goals as goal

pub returns : goal.returns
unfolding heat
returns c =
    let x = c.requires.0 in
    let t = c.requires.1 in
    let a1 = read t.a1 tt in
    let q = read c.requires.3.range tt in (
      given_back c.available.ensures tt
          ∙ ap₂ H
          (given_back c.net_radiation-rn.ensures tt
          ∙ ap₃ Rn (read t.albedo tt) (read x.radiation tt)
          (given_back c.outgoing-rb.ensures tt
          ∙ (λ i. outgoing c.args.x.maximum c.args.x.minimum c.args.x.dewpoint (a1 i) c.args.x.radiation (q i))))
          (given_back c.soil_heat-soil.ensures tt
          ∙ ap₃ soil_heat (read x.mean tt) (read c.requires.2.k tt) (read c.requires.2.z tt)),
      search rules,
    )
