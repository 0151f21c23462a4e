-- The five arrays whole: each entry is the value at its day or height, and meets the rule, by tests that antt computes over the arrays.
-- Assumes nothing.
use mathlib.Core.Path.{refl}
use Rattle.tables.specs.Tables.{AlbedoEntry, A1Entry, AwEntry, BwEntry, albedo_range, a1_range, aw_range, bw_range}
use Rattle.tables.specs.Values.{sum_to, more, exp_sum, sin_sum, rounded, curve_at, arc_sum, arc_sums, bell_sums}
use Rattle.tables.specs.Values.{albedo_at, a1_at, aw_at, bw_at}
use Rattle.tables.specs.declared.albedo_table.TheConstants.{ALBEDO}
use Rattle.tables.specs.declared.a1_table.TheConstants.{A1}
use Rattle.tables.specs.declared.aw_table.TheConstants.{AW}
use Rattle.tables.specs.declared.bw_table.TheConstants.{BW}
use Rattle.tables.specs.declared.pressure_table.TheConstants.{PRESSURE}
use Rattle.tables.proofs.Curves.{DayEntries, table_of_values}
use Rattle.tables.proofs.DayRules.{albedo_values, a1_values, aw_values, bw_values}
use Rattle.tables.proofs.PowerTests.{power_test, upper, lower, tenth_up, tenth_down}
use Rattle.tables.proofs.PressureEntries.{pressure_test, PressureTable, pressure_table}

pub albedos : DayEntries albedo_at AlbedoEntry albedo_range ALBEDO
unfolding curve_at rounded arc_sum arc_sums sin_sum sum_to more
albedos = table_of_values albedo_values ALBEDO refl tt

pub a1_factors : DayEntries a1_at A1Entry a1_range A1
unfolding curve_at rounded bell_sums exp_sum sum_to more
a1_factors = table_of_values a1_values A1 refl tt

pub aw_factors : DayEntries aw_at AwEntry aw_range AW
unfolding curve_at rounded bell_sums exp_sum sum_to more
aw_factors = table_of_values aw_values AW refl tt

pub bw_factors : DayEntries bw_at BwEntry bw_range BW
unfolding curve_at rounded bell_sums exp_sum sum_to more
bw_factors = table_of_values bw_values BW refl tt

pub pressures : PressureTable PRESSURE
unfolding pressure_test power_test upper lower tenth_up tenth_down
pressures = pressure_table PRESSURE refl tt
