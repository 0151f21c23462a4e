-- Text laid over a lent buffer: what the contracts of the writing functions say. Assumes nothing.
use Rattle.std.specs.Prelude.{◌≡◌, List, ◌++◌, ℕ, ◌+◌, ◌≤◌, length, drop}
use Rattle.answers.specs.Overwriting.{laid_over}

-- the text fits from the index `at` on, the bytes after are those before with the text laid over them there, and `next` is the index behind it
pub record Written (before : List ℕ) (at : ℕ) (text after : List ℕ) (next : ℕ) : Type 0 where
  pub room : at + length text ≤ length before
  pub behind : next ≡ at + length text
  pub bytes : after ≡ laid_over before at text

-- the line stands at the front, every later byte is unchanged, n is the line's length, and the buffer is as long as it was
pub record AtFront (before line after : List ℕ) (n : ℕ) : Type 0 where
  pub size : n ≡ length line
  pub bytes : after ≡ line ++ drop (length line) before
  pub long : length after ≡ length before
