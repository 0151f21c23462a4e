-- What each kind of answer owes to the report, once: the room for its line (`line_room`), and that the line fits there where its figure is moderate
-- (`owed`). A new kind has a term in the one and a clause in the other. Assumes nothing.
use Prim.Native.Nat.{ℕ, ◌+◌, ◌*◌, ◌≤◌}
use native.Mathlib.Omega.{arith}
use lib.Dec.{lit≤}
use lib.ListN.{length}
use Rattle.answers.specs.Answers.{Role, opens, of_day, beside, role_of}
use Rattle.answers.specs.declared.Answer.{Answer}
use Rattle.answers.specs.declared.Answer.TheVariants as answer
use Rattle.answers.proofs.Roles.{Count, count_of, Moderate}
use Rattle.day.specs.Bound.{FigureAtMost}
use Rattle.day.specs.declared.Code.{Code}
use Rattle.day.proofs.FigureLimit.{most_figure}
use Rattle.lines.specs.Text.{crop_line}
use Rattle.lines.proofs.Digits.{inches_most}
use Rattle.lines.proofs.Lengths.{crop_line_size}
use Rattle.text.specs.Report.{line_of}

-- the most bytes of the answers' own lines: 23 for a day's, 13 for a crop figure's, and a station has none
abbrev pub line_room : Count → ℕ
line_room c = 23 * c.days + 13 * c.crops

abbrev pub LineFits : Answer → Type 0
LineFits a = (block : Code) → length (line_of block a) ≤ line_room (count_of a)

-- By what an answer is to its block: a station's and a day's are counted as such, and any other's line fits. That a day's does is a matter of its date
-- (`line_most` in SmallAnswers.antt).
abbrev pub Owed : Role → Answer → Type 0
Owed (opens code) a = 1 ≤ (count_of a).stations
Owed (of_day year d v) a = FigureAtMost most_figure v × (1 ≤ (count_of a).days)
Owed beside a = LineFits a

-- two digits before the point at most
crop_most : (code : Code) (n : ℕ) → n ≤ 2 * most_figure → length (crop_line code n) ≤ 13
crop_most code n most = omega (arith, crop_line_size code n, inches_most 1 n (omega arith))

pub owed : (a : Answer) → Moderate a → Owed (role_of a) a
owed (answer.Station code) moderate = lit≤ tt
owed (answer.Day year d v) moderate = (moderate, lit≤ tt)
owed (answer.Crop code n) moderate = λ block. crop_most code n moderate
