-- `day::inputs::clear_of` meets its contract. Assumes nothing.
use native.Mathlib.Omega.{arith}
use borrow.Author.Rules.{rules}
use lib.IntN.{pos}
use mathlib.Core.Path.{◌∙◌}
use mir.Syntax.{w16}
use mir.Val.{SFits}
use Rattle.sheet.specs.StepSheet as sheet
use Rattle.sheet.proofs.Values.{given_back, returned}
use Rattle.day.specs.Judgement.{clear_of}
use Rattle.day.proofs.Tests.{widened, unsigned}
use Rattle.day.proofs.inputs.clear_of.Goals as goal

-- each constant is a number of sixteen bits
pub clear_sum-sum-requires : goal.clear_sum-sum-requires
clear_sum-sum-requires c =
    let f1 : SFits w16 c.args.station.c1 = record { sfits = omega arith } in
    let f2 : SFits w16 c.args.station.c2 = record { sfits = omega arith } in
    let f3 : SFits w16 c.args.station.c3 = record { sfits = omega arith } in
    let f4 : SFits w16 c.args.station.c4 = record { sfits = omega arith } in
    let f5 : SFits w16 c.args.station.c5 = record { sfits = omega arith } in (
      record {
        c1 = (widened f1 c.from.ensures).1;
        c2 = (widened f2 c.from-2.ensures).1;
        c3 = (widened f3 c.from-3.ensures).1;
        c4 = (widened f4 c.from-4.ensures).1;
        c5 = (widened f5 c.from-5.ensures).1;
      },
      search rules,
    )

pub returns : goal.returns
unfolding clear_of
returns c =
    let f1 : SFits w16 c.args.station.c1 = record { sfits = omega arith } in
    let f2 : SFits w16 c.args.station.c2 = record { sfits = omega arith } in
    let f3 : SFits w16 c.args.station.c3 = record { sfits = omega arith } in
    let f4 : SFits w16 c.args.station.c4 = record { sfits = omega arith } in
    let f5 : SFits w16 c.args.station.c5 = record { sfits = omega arith } in
    let e1 = (widened f1 c.from.ensures).0 in
    let e2 = (widened f2 c.from-2.ensures).0 in
    let e3 = (widened f3 c.from-3.ensures).0 in
    let e4 = (widened f4 c.from-4.ensures).0 in
    let e5 = (widened f5 c.from-5.ensures).0 in
    let e6 = unsigned (omega arith) c.from-6.ensures in
    let m = unsigned (omega arith) c.from-7.ensures in
    let sum = given_back c.clear_sum-sum.ensures tt in
    let day = returned c.clear_day.ensures tt in
    (day.0 ∙ (λ i. sheet.Q (m i) (sum i)) ∙ (λ i. sheet.Q (pos c.args.station.minimum) (sheet.clear_sum (e1 i) (e2 i) (e3 i) (e4 i) (e5 i) (e6 i))), day.1)
