-- `crops::Crop::over_any` meets its contract: the answer of `any` is the definition's. Assumes nothing.
use Rattle.std.proofs.Common.{rules, tests, ◌∙◌, nat_lt}
use Rattle.std.proofs.lemmas.Iterator.{YieldsList-from_slice}
use Rattle.std.proofs.lemmas.Iterator.Search.{any_from_yields_List}
use Rattle.crops.proofs.Faultless.{over_any_lem}
use Rattle.crops.proofs.Crop.over_any.Goals as goal

pub returns : goal.returns
returns c =
    any_from_yields_List (nat_lt 200) _ _ c.any.result c.any.ensures.ran (YieldsList-from_slice c.args.self.stages cc) (λ x b q k. search (rules, tests))
    ∙ over_any_lem c.args.self.stages
