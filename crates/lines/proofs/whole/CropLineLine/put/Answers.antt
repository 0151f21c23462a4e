-- The line of a crop's figure meets the contract of `lines::Line::put`. Assumes nothing.
use mathlib.Core.List.{[], ◌∷◌, ◌++◌}
use Prim.Native.Nat.{ℕ, ◌^◌, ◌≤◌, ◌<◌}
use native.Mathlib.Omega.{arith}
use lib.ListN.{length}
use Rattle.day.specs.declared.Code.{Code}
use Rattle.lines.specs.Pen.{Fits}
use Rattle.lines.specs.Text.{newline, inches, code_text, field, crop_line}
use Rattle.lines.specs.declared.pen.Pen.{Pen}
use Rattle.lines.proofs.Lengths.{crop_line_most}
use Rattle.lines.proofs.Pens.{front, behind, then}
use Rattle.lines.proofs.whole.CropLineLine.put.Goals as goal

fits : {p : Pen} (code : Code) (n : ℕ) → n < 2 ^ 32 → (length (crop_line code n) ≤ 64 → Fits p (crop_line code n))
    → Fits p (code_text code ++ field (inches n) ++ newline ∷ [])
unfolding crop_line
fits code n small asked = asked (crop_line_most code n small)

pub put_code-requires : goal.put_code-requires
put_code-requires c = front (field (inches c.args.self.n)) (front (newline ∷ []) (fits c.args.self.code c.args.self.n (omega arith) c.requires))

pub put_inches_field-requires : goal.put_inches_field-requires
put_inches_field-requires c =
    rw c.from.ensures (behind (front _ (fits c.args.self.code c.args.self.n (omega arith) c.requires)) c.put_code.ensures)

pub put_bytes-requires : goal.put_bytes-requires
put_bytes-requires c =
    behind (fits c.args.self.code c.args.self.n (omega arith) c.requires) (then c.put_code.ensures (rw c.from.ensures at c.put_inches_field.ensures))

pub returns : goal.returns
unfolding crop_line
returns c = then (then c.put_code.ensures (rw c.from.ensures at c.put_inches_field.ensures)) c.put_bytes.ensures
