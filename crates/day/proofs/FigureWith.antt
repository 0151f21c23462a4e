-- The sheet's figure with its root r and its T put in: as numbers worked out beside it, or as another vapour pressure gives them. Assumes nothing.
use lib.IntN.{ℤ}
use Rattle.sheet.specs.Parts.{weighed}
use Rattle.sheet.specs.StepSheet.{K, B, emittance, Rb, Rn, soil_heat, H}
use Rattle.sheet.specs.declared.Readings.{Readings}
use Rattle.sheet.specs.declared.Entries.{Entries}
use Rattle.sheet.specs.declared.Earlier.{Earlier}

abbrev pub figure_with : ℤ → ℤ → Readings → Entries → Earlier → ℤ → ℤ
figure_with root drying x t earlier q =
    weighed x.mean t.p
    (H (Rn t.albedo x.radiation (Rb (emittance t.a1 root) (B x.maximum x.minimum) (K x.radiation q)))
    (soil_heat x.mean earlier.k earlier.z))
    drying
