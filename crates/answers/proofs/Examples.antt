-- The bytes of an answer of each kind, of dates and figures whose bytes all differ. Assumes nothing.
use mathlib.Core.Path.{◌≡◌, refl}
use mathlib.Core.List.{[], ◌∷◌}
use Rattle.std.specs.Prelude.{Ok, Err}
use Rattle.day.specs.declared.Code.{Code}
use Rattle.day.specs.declared.Refusal.TheVariants.{BadDate}
use Rattle.day.specs.declared.Figure.TheVariants.{Measured, Estimated}
use Rattle.answers.specs.Answers.{answer_bytes}
use Rattle.answers.specs.declared.Answer.TheVariants as answer

abbrev code : Code
code = record { first = 76; second = 73; third = 68; fourth = 87 }

-- "kind 5, code (4 bytes), for a station"
pub station : answer_bytes (answer.Station code) ≡ 5 ∷ 76 ∷ 73 ∷ 68 ∷ 87 ∷ []
station = refl

-- "kind 3, year, `d`, figure in four bytes", the high byte first: 33,752,069 is 2, 3, 4 and 5
pub figure : answer_bytes (answer.Day 2008 366 (Ok (Measured 33_752_069))) ≡ 3 ∷ 7 ∷ 216 ∷ 1 ∷ 110 ∷ 2 ∷ 3 ∷ 4 ∷ 5 ∷ []
figure = refl

-- "kind 4, year, `d`, refusal in four bytes"; the date is the record's own, good or not
pub refusal : answer_bytes (answer.Day 65_534 258 (Err BadDate)) ≡ 4 ∷ 255 ∷ 254 ∷ 1 ∷ 2 ∷ 0 ∷ 0 ∷ 0 ∷ 6 ∷ []
refusal = refl

-- "kind 9 with the body of kind 3" (02, W4)
pub estimate : answer_bytes (answer.Day 2008 366 (Ok (Estimated 33_752_069))) ≡ 9 ∷ 7 ∷ 216 ∷ 1 ∷ 110 ∷ 2 ∷ 3 ∷ 4 ∷ 5 ∷ []
estimate = refl

-- "a kind 7 answer (the crop's capitals, figure in four bytes)" (02, W1)
pub crop : answer_bytes (answer.Crop code 33_752_069) ≡ 7 ∷ 76 ∷ 73 ∷ 68 ∷ 87 ∷ 2 ∷ 3 ∷ 4 ∷ 5 ∷ []
crop = refl
