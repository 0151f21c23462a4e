-- The invariant of `text::season::put_totals` is `Going`, where each answer prints the month that ends before it. Assumes nothing.
use mathlib.Core.Path.{◌≡◌}
use mathlib.Core.List.{List}
use Prim.Native.Nat.{◌≤◌}
use lib.ListN.{length}
use Rattle.answers.specs.declared.Answer.{Answer}
use Rattle.totals.specs.Tally.{begun, Within}
use Rattle.text.specs.Walk.{HoldsAll}
use Rattle.text.proofs.Going.{Going}
use Rattle.text.proofs.InTurn.{told}
use Rattle.text.proofs.season.put_totals.Given as goal

abbrev pub invariant-loop-a : goal.invariant-loop-a
invariant-loop-a g l =
    (goal.iterator-loop-a g).can_next l.a-iterator
    × (goal.iterator-loop-a g).is_finite l.a-iterator
    × (l.a-iterator.answers.now ≡ l.answers.bytes.now) × (l.a-iterator.at ≤ length l.answers.bytes.now) × Within l.a-iterator.at l.totals
    × ((own : List Answer) → HoldsAll l.answers.bytes.now own
    → Going g.P.Page.Laid l.answers.bytes.now (length l.answers.bytes.now) l.fn.page l.a-iterator.at l.page (told l.code l.totals) (told l.code begun own))
