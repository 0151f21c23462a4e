-- A square root, as far as the statements need one. Assumes nothing.
use Rattle.std.specs.Prelude.{ℕ, pos}
use Rattle.numbers.specs.Fractions.{ℚ, from_ℤ, ◌+ℚ◌, ◌*ℚ◌, ◌^ℚ◌, ◌≤ℚ◌}

-- x is a square root of A as far as the statements need it: it lies between two neighbouring whole multiples of the unit, none below 0, whose
-- squares have A between them, ends included
pub record RootOf (unit A x : ℚ) : Type 0 where
  pub multiple : ℕ
  pub low : from_ℤ (pos multiple) *ℚ unit ≤ℚ x
  pub high : x ≤ℚ from_ℤ (pos multiple) *ℚ unit +ℚ unit
  pub square_low : (from_ℤ (pos multiple) *ℚ unit) ^ℚ 2 ≤ℚ A
  pub square_high : A ≤ℚ (from_ℤ (pos multiple) *ℚ unit +ℚ unit) ^ℚ 2
