-- A day of a worked log, found where it stands (`day_there`): what is left to show computes. Assumes nothing.
use mathlib.Core.Path.{◌≡◌, refl}
use mathlib.Core.List.{List, ◌∷◌, ◌++◌}
use Prim.Native.Nat.{ℕ, suc}
use lib.ListN.{length, take, drop}
use Rattle.day.specs.declared.Day.{Day}
use Rattle.answers.specs.Answers.{bytes_of}
use Rattle.promises.specs.Days.{DayAt}
use Rattle.station_log.specs.History.{good_date, earlier_means}
use Rattle.station_log.specs.Log as log
use Rattle.station_log.specs.Log.{BlockRead, answers_of, accepted, reading_of}
use Rattle.station_log.specs.Parts.{entries_of}

-- record n of a log is the day x of the block b, and its answer stands at `place`: what there is to compute
unfoldable pub day_there : (s : List ℕ) (n : ℕ) (b : BlockRead) (x : Day) {place : ℕ}
    → reading_of s ≡ accepted (take n (entries_of (reading_of s)) ++ (log.day b x ∷ drop (suc n) (entries_of (reading_of s))))
    → n ≡ length (take n (entries_of (reading_of s)))
    → place ≡ length (bytes_of (answers_of (take n (entries_of (reading_of s)))))
    → DayAt s n b.station x (earlier_means b.days x) (good_date b.days x) place
day_there s n b x stands index behind =
    record {
      before = take n (entries_of (reading_of s));
      later = drop (suc n) (entries_of (reading_of s));
      block = b;
      stands = stands;
      index = index;
      stationed = refl;
      means = refl;
      dated = refl;
      behind = behind;
    }
