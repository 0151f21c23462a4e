-- What the sheet asks of a day before it is worked through: each number in its range, and the radiation not above twice a clear day's.
-- Assumes nothing.
use Rattle.std.specs.Prelude.{false, ◌≡◌, ℤ}
use Rattle.numbers.specs.Ranges.{InRange}
use Rattle.sheet.specs.Quantities as quantities
use Rattle.sheet.specs.StepSheet.{above_twice_clear}
use Rattle.sheet.specs.declared.Readings.{Readings}
use Rattle.sheet.specs.declared.Constants.{Constants}
use Rattle.sheet.specs.declared.Entries.{Entries}
use Rattle.sheet.specs.declared.Earlier.{Earlier}

pub record ReadingsInRange (x : Readings) : Type 0 where
  pub maximum : InRange quantities.temperature x.maximum
  pub minimum : InRange quantities.temperature x.minimum
  pub mean : InRange quantities.temperature x.mean
  pub dewpoint : InRange quantities.temperature x.dewpoint
  pub radiation : InRange quantities.radiation x.radiation
  pub wind : InRange quantities.wind x.wind

pub record ConstantsInRange (c : Constants) : Type 0 where
  pub c1 : InRange quantities.signed_word c.c1
  pub c2 : InRange quantities.signed_word c.c2
  pub c3 : InRange quantities.signed_word c.c3
  pub c4 : InRange quantities.signed_word c.c4
  pub c5 : InRange quantities.signed_word c.c5

pub record EntriesInRange (t : Entries) : Type 0 where
  pub albedo : InRange quantities.albedo t.albedo
  pub a1 : InRange quantities.a1 t.a1
  pub aw : InRange quantities.aw t.aw
  pub bw : InRange quantities.bw t.bw
  pub p : InRange quantities.pressure t.p

pub record EarlierInRange (earlier : Earlier) : Type 0 where
  pub k : InRange quantities.earlier_count earlier.k
  pub z : InRange quantities.earlier_sum earlier.z

-- q is a clear day's radiation, and refusal 10 does not hold
pub record ClearDayAccepted (x : Readings) (q : ℤ) : Type 0 where
  pub range : InRange quantities.clear_day q
  pub below : above_twice_clear x.radiation q ≡ false
