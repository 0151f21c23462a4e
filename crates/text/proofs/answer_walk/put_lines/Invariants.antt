-- The invariant of `text::answer_walk::put_lines` is `Walked`, for whatever answers the bytes hold. Assumes nothing.
use mathlib.Core.Path.{◌≡◌}
use mathlib.Core.List.{List}
use Prim.Native.Nat.{◌≤◌}
use lib.ListN.{length}
use Rattle.answers.specs.declared.Answer.{Answer}
use Rattle.text.specs.Walk.{HoldsAll, Ordered}
use Rattle.text.proofs.Walked.{Walked}
use Rattle.text.proofs.answer_walk.put_lines.Given as goal

abbrev pub invariant-loop-at : goal.invariant-loop-at
invariant-loop-at g l =
    (goal.iterator-loop-at g).can_next l.at-iterator
    × (goal.iterator-loop-at g).is_finite l.at-iterator
    × (l.at-iterator.answers.now ≡ l.answers.bytes.now) × (l.at-iterator.at ≤ length l.answers.bytes.now)
    × ((all : List Answer) → HoldsAll l.answers.bytes.now all → Ordered all
    → Walked g.P.Page.Laid l.answers.bytes.now (length l.answers.bytes.now) l.fn.page l.at-iterator.at l.page l.block all)
