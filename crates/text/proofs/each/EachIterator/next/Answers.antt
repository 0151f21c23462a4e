-- `text::each::Each` gives its answers in turn. Assumes nothing.
use native.Mathlib.Omega.{arith}
use Prim.Native.Nat.{◌+◌}
use Rattle.text.specs.Each.{AnswersFrom}
use Rattle.text.proofs.Behind.{first_stands, behind_it, goes_on}
use Rattle.text.proofs.each.EachIterator.next.Goals as goal

pub answer_at-a-requires : goal.answer_at-a-requires
answer_at-a-requires c = first_stands c.requires (omega arith)

pub returns-clause-goes : goal.returns-clause-goes
returns-clause-goes c =
    let left : AnswersFrom c.args.self.now.answers.now (c.args.self.now.at + c.size.result) =
    rw c.size.ensures (behind_it c.requires (omega arith) c.answer_at-a.ensures) in
    let step = goes_on c.requires (omega arith) c.answer_at-a.ensures in
    record { on = λ h. (left, tt, omega (arith, step.0, step.1, c.size.ensures)); keeps = left; rests = λ h. tt }
