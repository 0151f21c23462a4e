-- The line of a season's totals meets the contract of `lines::Line::put`. Assumes nothing.
use mathlib.Core.List.{[], ◌∷◌, ◌++◌}
use Prim.Native.Nat.{◌^◌, ◌≤◌, ◌<◌}
use native.Mathlib.Omega.{arith}
use lib.ListN.{length}
use Rattle.day.specs.declared.Code.{Code}
use Rattle.totals.specs.declared.tally.Total.{Total}
use Rattle.lines.specs.Pen.{Fits}
use Rattle.lines.specs.Text.{code_text, field, totals, season_line}
use Rattle.lines.specs.declared.pen.Pen.{Pen}
use Rattle.lines.proofs.Lengths.{season_line_most}
use Rattle.lines.proofs.Pens.{front, behind, then}
use Rattle.lines.proofs.whole.SeasonLineLine.put.Goals as goal

fits : {p : Pen} (code : Code) (t : Total) → t.days < 2 ^ 32 → t.sum < 2 ^ 64
    → (length (season_line code t.days t.sum) ≤ 64 → Fits p (season_line code t.days t.sum))
    → Fits p (code_text code ++ field (65 ∷ 76 ∷ 76 ∷ []) ++ totals t.days t.sum)
unfolding season_line
fits code t few small asked = asked (season_line_most code t.days t.sum few small)

pub put_code-requires : goal.put_code-requires
put_code-requires c =
    let x = c.args.self in
    front (field (65 ∷ 76 ∷ 76 ∷ [])) (front (totals x.total.days x.total.sum) (fits x.code x.total (omega arith) (omega arith) c.requires))

pub put_bytes-requires : goal.put_bytes-requires
put_bytes-requires c = behind (front _ (fits c.args.self.code c.args.self.total (omega arith) (omega arith) c.requires)) c.put_code.ensures

pub put_totals-requires : goal.put_totals-requires
put_totals-requires c =
    behind (fits c.args.self.code c.args.self.total (omega arith) (omega arith) c.requires) (then c.put_code.ensures c.put_bytes.ensures)

pub returns : goal.returns
unfolding season_line
returns c = then (then c.put_code.ensures c.put_bytes.ensures) c.put_totals.ensures
