-- The station of each day record of a log has no fault (`station_sound`), nor has the crop that holds there (`crop_faultless`). Assumes nothing.
use mathlib.Core.Path.{◌≡◌, subst}
use mathlib.Core.Bool.{Bool, false}
use mathlib.Core.List.{List}
use Prim.Native.Nat.{ℕ}
use Rattle.crops.specs.Crop.{bad_crop}
use Rattle.crops.specs.declared.Crop.{Crop}
use Rattle.day.specs.declared.Day.{Day}
use Rattle.day.specs.declared.Earlier.{Earlier}
use Rattle.day.specs.declared.Station.{Station}
use Rattle.station_log.specs.Log.{planted, Reading, day}
use Rattle.station_log.specs.Parts.{entries_of}
use Rattle.station_log.proofs.Laws.{KeptBlock, Kept}
use Rattle.station_log.proofs.Planted.{PlantedSound}
use Rattle.station_log.proofs.SoundRecords.{SoundEntries, sound_at, sound_reading}
use Rattle.station_log.proofs.SoundStation.{Sound}
use Rattle.promises.specs.Days.{DayAt}

module _ (s : List ℕ) {i : ℕ} {x : Station} {y : Day} {earlier : Earlier} {good : Bool} {place : ℕ} (d : DayAt s i x y earlier good place) where
  block_kept : KeptBlock s d.block
  unfolding Kept
  block_kept =
      (sound_at s d.before (day d.block y) d.later (subst (λ (r : Reading). SoundEntries s (entries_of r)) d.stands (sound_reading s))).kept

  pub station_sound : Sound s x
  station_sound = rw d.stationed block_kept.sound

  pub crop_faultless : {c : Crop} → d.block.crop ≡ planted c → bad_crop c ≡ false
  crop_faultless e = subst PlantedSound e block_kept.faultless
