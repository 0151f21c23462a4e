-- A day record of a log: its station, its earlier means, and the place of its answer. Assumes nothing.
use Rattle.std.specs.Prelude.{Bool, List, ◌∷◌, ◌++◌, ◌≡◌, ℕ, length}
use Rattle.day.specs.declared.Day.{Day}
use Rattle.day.specs.declared.Earlier.{Earlier}
use Rattle.day.specs.declared.Station.{Station}
use Rattle.answers.specs.Answers.{bytes_of}
use Rattle.station_log.specs.History.{good_date, earlier_means}
use Rattle.station_log.specs.Log.{BlockRead, Entry, day, accepted, reading_of, answers_of}

-- Record number i of the log s, counted from 0, is the day x of a block of `station`. `earlier` are the means that the block's records before it
-- give, `good` says whether its date is good, and its answer stands at `place`: after the answers of the records before it.
pub record DayAt (s : List ℕ) (i : ℕ) (station : Station) (x : Day) (earlier : Earlier) (good : Bool) (place : ℕ) : Type 0 where
  pub before : List Entry
  pub later : List Entry
  pub block : BlockRead
  pub stands : reading_of s ≡ accepted (before ++ (day block x ∷ later))
  pub index : i ≡ length before
  pub stationed : station ≡ block.station
  pub means : earlier ≡ earlier_means block.days x
  pub dated : good ≡ good_date block.days x
  pub behind : place ≡ length (bytes_of (answers_of before))
