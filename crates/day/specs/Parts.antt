-- What one earlier mean adds to their number and to their sum: terms of inner functions. Assumes nothing.
use Rattle.std.specs.Prelude.{ℤ, pos, Option, Some, None}

abbrev pub count_of : Option ℤ → ℤ
count_of (Some f) = pos 1
count_of None = pos 0

abbrev pub tenths_of : Option ℤ → ℤ
tenths_of (Some f) = f
tenths_of None = pos 0
