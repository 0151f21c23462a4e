-- An answer's bytes, found in a list. Assumes nothing.
use Rattle.std.specs.Prelude.{List, ◌++◌, ◌≡◌, ℕ, drop}
use Rattle.answers.specs.Answers.{answer_bytes}
use Rattle.answers.specs.declared.Answer.{Answer}

-- the answer's bytes stand from the index `at` on
pub record StandsAt (s : List ℕ) (at : ℕ) (a : Answer) : Type 0 where
  pub rest : List ℕ
  pub bytes : drop at s ≡ answer_bytes a ++ rest
