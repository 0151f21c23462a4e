-- What a pen's methods ask and promise. Assumes nothing.
use Rattle.std.specs.Prelude.{◌≡◌, List, ℕ, ◌+◌, ◌≤◌, length}
use Rattle.lines.specs.Written.{Written}
use Rattle.lines.specs.declared.pen.Pen.{Pen}

-- the text fits from where the pen stands on
pub record Fits (pen : Pen) (text : List ℕ) : Type 0 where
  pub room : pen.at + length text ≤ length pen.text.now

-- the text is laid over what is lent to the pen, which stands behind it, and still holds what was lent to it
pub record Wrote (before : Pen) (text : List ℕ) (after : Pen) : Type 0 where
  pub same_lent : after.text.ghost_name ≡ before.text.ghost_name
  pub written : Written before.text.now before.at text after.text.now after.at
