-- What is promised of crop figures (document 02, W1), from the bytes: every answered day of a crop's season has the crop's answer right behind its own.
-- One definition over any reader of logs. Assumes nothing.
use Rattle.std.specs.Prelude.{true, List, ◌++◌, ◌≡◌, ℕ, ◌+◌, ◌*◌, ◌≤◌, take, drop, Ok}
use Rattle.crops.specs.Bound.{CropWithin, CropWithinBound, proved_crop_bound}
use Rattle.crops.specs.Crop.{in_season, crop_figure}
use Rattle.crops.specs.declared.Crop.{Crop}
use Rattle.day.specs.Judgement.{as_judged, with_mark}
use Rattle.day.specs.declared.Day.{Day}
use Rattle.day.specs.declared.Earlier.{Earlier}
use Rattle.day.specs.declared.Station.{Station}
use Rattle.answers.specs.Answers.{kind_of, four, dated, lettered}
use Rattle.promises.specs.Demand.{AnsweredLog, AnsweredDay}
use Rattle.station_log.specs.Log.{planted}

-- "For an answered day of that year from S to F": record i of the log is the answered day x, the crop c holds in its block, and the date is in c's season
pub record CropDay (s : List ℕ) (i : ℕ) (st : Station) (x : Day) (earlier : Earlier) (place : ℕ) (c : Crop) : Type 0 where
  pub answered : AnsweredDay s i st x earlier place
  pub holds : answered.at.block.crop ≡ planted c
  pub season : in_season c x.year x.d ≡ true

-- In the buffer at exit the nine bytes at the day's own place are its answer, of kind 3 or 9, with the reference figure. The nine bytes behind them are
-- kind 7, the crop's capitals and a figure: that of the definition, at most twice the reference figure, and within 1.7 units of the unrounded value
-- times the percentage. What is proved is sharper: 1.53.
pub record CropFigureAt (st : Station) (x : Day) (earlier : Earlier) (place : ℕ) (c : Crop) (after : List ℕ) : Type 0 where
  pub reference : ℕ
  pub figure : ℕ
  pub own : take 9 (drop place after) ≡ dated (kind_of (Ok (with_mark x reference))) x.year x.d reference
  pub behind : take 9 (drop (place + 9) after) ≡ lettered 7 c.code ++ four figure
  pub defined : figure ≡ crop_figure c x.d reference
  pub twice : figure ≤ 2 * reference
  pub within : CropWithinBound st (as_judged x) earlier c figure
  pub sharper : CropWithin proved_crop_bound st (as_judged x) earlier c figure

-- what is owed for a log: `buffer` is the answer buffer as it was lent, `after` as it is left
unfoldable pub CropFiguresOwed : List ℕ → List ℕ → List ℕ → Type 0
CropFiguresOwed s buffer after =
    AnsweredLog s buffer →
    (i place : ℕ) (st : Station) (x : Day) (earlier : Earlier) (c : Crop) → CropDay s i st x earlier place c → CropFigureAt st x earlier place c after
