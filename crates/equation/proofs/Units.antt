-- The units of the step sheet's numbers. Assumes nothing.
use Rattle.ratios.specs.Ratios.{Ratio, ◌over◌}

abbrev pub billionths : Ratio
billionths = 1 over 1000000000

abbrev pub hundred_millionths : Ratio
hundred_millionths = 1 over 100000000

abbrev pub ten_millionths : Ratio
ten_millionths = 1 over 10000000
