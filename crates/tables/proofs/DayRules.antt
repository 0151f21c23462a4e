-- The rules of the four tables of days, for the value at every day: each by one test that antt computes over the 366 days. Assumes nothing.
use mathlib.Core.Path.{refl}
use Rattle.numbers.proofs.StrictOrder.{whole_times}
use Rattle.tables.specs.Tables.{AlbedoEntry, A1Entry, AwEntry, BwEntry, albedo_range, a1_range, aw_range, bw_range}
use Rattle.tables.specs.Values.{sum_to, more, exp_sum, sin_sum, rounded, arc_sum, arc_sums, bell_sums, a1_bell, aw_bell, bw_bell}
use Rattle.tables.specs.Values.{albedo_at, a1_at, aw_at, bw_at}
use Rattle.tables.proofs.Curves.{DayValues, day_test}
use Rattle.tables.proofs.Bells.{bell_by_test}
use Rattle.tables.proofs.Arcs.{albedo_by_test}

pub albedo_values : DayValues albedo_at AlbedoEntry albedo_range
unfolding day_test rounded arc_sum arc_sums sin_sum sum_to more
albedo_values = albedo_by_test tt

pub a1_values : DayValues a1_at A1Entry a1_range
unfolding day_test rounded bell_sums exp_sum sum_to more
a1_values = bell_by_test a1_range a1_bell _ _ _ _ (whole_times _ _ _ tt) (whole_times _ _ _ tt) (whole_times _ _ _ tt) refl tt

pub aw_values : DayValues aw_at AwEntry aw_range
unfolding day_test rounded bell_sums exp_sum sum_to more
aw_values = bell_by_test aw_range aw_bell _ _ _ _ (whole_times _ _ _ tt) (whole_times _ _ _ tt) (whole_times _ _ _ tt) refl tt

pub bw_values : DayValues bw_at BwEntry bw_range
unfolding day_test rounded bell_sums exp_sum sum_to more
bw_values = bell_by_test bw_range bw_bell _ _ _ _ (whole_times _ _ _ tt) (whole_times _ _ _ tt) (whole_times _ _ _ tt) refl tt
