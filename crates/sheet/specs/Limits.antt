-- The ranges that document 01 gives, ends included, and that of document 02's wind limit. Assumes nothing.
use Rattle.std.specs.Prelude.{ℕ}
use Rattle.numbers.specs.Ranges.{Range, from◌to◌, minus◌to◌}

-- "temperatures -94 to 1,291 (the report's -23 °C, and below its 54 °C); radiation 0 to 12,000; wind 0 to 9,999", in tenths
abbrev pub temperature : Range
temperature = minus 94 to 1_291

abbrev pub radiation : Range
radiation = from 0 to 12_000

abbrev pub wind : Range
wind = from 0 to 9_999

-- a station's wind limit: "in tenths, 1,000 to 1,500" (02, W2). The highest is the routine's, which a record of kind 1 keeps.
abbrev pub routine_limit : ℕ
routine_limit = 1_500

abbrev pub wind_limit : Range
wind_limit = from 1_000 to routine_limit

-- "Minimum: 50 to 200", in cal/cm²/d. "Elevation: 0 to 3,000", in metres.
abbrev pub clear_minimum : Range
clear_minimum = from 50 to 200

abbrev pub elevation : Range
elevation = from 0 to 3_000

-- a signed number of two bytes
abbrev pub signed_word : Range
signed_word = minus 32_768 to 32_767
