-- A day handed in by its numbers, and what returned numbers say, worked out. Assumes nothing.
use mathlib.Core.Path.{◌≡◌, refl}
use lib.IntN.{pos, negsuc}
use Rattle.std.specs.Prelude.{Some, None}
use Rattle.day.specs.Judgement.{judged}
use Rattle.day.specs.declared.Figure.TheVariants.{Measured}
use Rattle.day.proofs.Examples.{days}
use Rattle.exports.specs.HandedIn.{station_of, day_of, mean_of, three_before}
use Rattle.exports.specs.Told.{accepted, refused, estimated, said_by, outcome_said, printed_said}
use Rattle.std.specs.Prelude.{Ok, Err}
use Rattle.station_log.specs.Log.{refusal}
use Rattle.station_log.specs.declared.Fault.TheVariants.{CutShort, ShortBuffer}

-- the summer day at LIDW after means of 71 and 70 °F, by its 26 numbers
pub handed_in : judged (station_of 76 73 68 87 (pos 154) (pos 1_760) (pos 614) (negsuc 395) (pos 590) 100 497 1_500)
    (day_of 2008 180 (pos 900) (pos 550) (pos 720) (pos 500) (pos 7_000) (pos 1_000)) (three_before 1 (pos 710) 1 (pos 700) 0 (pos 0)) ≡ Ok (Measured 3_518)
handed_in = days.1.told

-- a flag of 0 says that there is no mean
pub flags : (mean_of 0 (pos 710) ≡ None) × (mean_of 1 (pos 710) ≡ Some (pos 710)) × (mean_of 255 (pos 710) ≡ Some (pos 710))
flags = (refl, refl, refl)

-- 3,518; 7 with nothing; 3,347 with the mark, whose number is 256; a text buffer that is too short
pub told : (said_by 3_518 ≡ accepted 3_518) × (said_by 30_064_771_072 ≡ refused 7 0) × (said_by 1_099_511_631_123 ≡ estimated 3_347) × (printed_said (Err (record { needed = 132 })) ≡ refused 12 132)
unfolding said_by
told = (refl, refl, refl, refl)

-- of 01's worked log: the length of its answers; the offset where it is cut off; and for a buffer that is one byte too short the length needed
pub outcomes : (outcome_said (Ok 32) ≡ accepted 32) × (outcome_said (refusal CutShort 53) ≡ refused 2 53) × (outcome_said (refusal ShortBuffer 32) ≡ refused 12 32)
outcomes = (refl, refl, refl)
