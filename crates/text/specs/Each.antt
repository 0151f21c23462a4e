-- What the iterator over answers asks and gives. Assumes nothing.
use Rattle.std.specs.Prelude.{Option, Some, None, List, ◌≡◌, ℕ, ◌+◌, ◌<◌, length}
use Rattle.answers.specs.Answers.{answer_bytes}
use Rattle.answers.specs.ReadBack.{StandsAt}
use Rattle.answers.specs.declared.Answer.{Answer}
use Rattle.text.specs.Walk.{Holds}

-- the bytes from the index `at` on are those of some answers
abbrev pub AnswersFrom : List ℕ → ℕ → Type 0
AnswersFrom s at = (l : List Answer) × Holds s at (length s) l

-- at the end nothing; before it the answer that stands there, with its index, and the next index is that behind it
abbrev pub Gives : List ℕ → ℕ → Option (ℕ × Answer) → ℕ → Type 0
Gives s at None next = (at ≡ length s) × (next ≡ at)
Gives s at (Some r) next = (r.0 ≡ at) × (at < length s) × ((a : Answer) → StandsAt s at a → r.1 ≡ a) × (next ≡ at + length (answer_bytes r.1))
