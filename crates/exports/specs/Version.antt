-- The version of the library that programs in other languages link. Assumes nothing.
use Rattle.std.specs.Prelude.{ℕ}

-- A million for the base, a thousand for each change request that has landed, here W1 to W6, and one for each other landing since that changes the
-- library. FUORTWEM_VERSION in fuortwem.h is the same number.
abbrev pub version : ℕ
version = 1006000
