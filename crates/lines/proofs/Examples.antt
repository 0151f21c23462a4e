-- Numbers and lines worked out as text: figures in inches, a number too long for its field, lines of days at both ends, and numbers of two digits and more
-- in the fields that have no width. Assumes nothing.
use mathlib.Core.Path.{◌≡◌, refl}
use mathlib.Core.List.{[], ◌∷◌}
use Rattle.std.specs.Prelude.{Ok, Err}
use Rattle.day.specs.declared.Code.{Code}
use Rattle.day.specs.declared.Refusal.TheVariants.{BadDate, AboveClear}
use Rattle.day.specs.declared.Figure.TheVariants.{Measured, Estimated}
use Rattle.lines.specs.Text.{newline, leading, digits, padded, inches, verdict_text, day_line, totals, month_line, season_line}

-- 3,518 and 123,456 ten-thousandths: `0.3518` and `12.3456`
pub figures : (inches 3_518 ≡ 48 ∷ 46 ∷ 51 ∷ 53 ∷ 49 ∷ 56 ∷ []) × (inches 123_456 ≡ 49 ∷ 50 ∷ 46 ∷ 51 ∷ 52 ∷ 53 ∷ 54 ∷ [])
unfolding inches padded digits leading
figures = (refl, refl)

-- a number too long for its field stands whole: `65535`
pub whole : padded 3 65_535 ≡ 54 ∷ 53 ∷ 53 ∷ 51 ∷ 53 ∷ []
unfolding padded digits leading
whole = refl

abbrev lidw : Code
lidw = record { first = 76; second = 73; third = 68; fourth = 87 }

-- `LIDW 0007 65535 R6`: zeros in front of the year, and the longer day whole
pub bad_date : day_line lidw 7 65_535 (Err BadDate) ≡
    76 ∷ 73 ∷ 68 ∷ 87 ∷ 32 ∷ 48 ∷ 48 ∷ 48 ∷ 55 ∷ 32 ∷ 54 ∷ 53 ∷ 53 ∷ 51 ∷ 53 ∷ 32 ∷ 82 ∷ 54 ∷ newline ∷ []
unfolding day_line verdict_text padded digits leading
bad_date = refl

-- `LIDW 2008 004 1.2305`: a figure of an inch or more
pub inch : day_line lidw 2008 4 (Ok (Measured 12_305)) ≡
    76 ∷ 73 ∷ 68 ∷ 87 ∷ 32 ∷ 50 ∷ 48 ∷ 48 ∷ 56 ∷ 32 ∷ 48 ∷ 48 ∷ 52 ∷ 32 ∷ 49 ∷ 46 ∷ 50 ∷ 51 ∷ 48 ∷ 53 ∷ newline ∷ []
unfolding day_line verdict_text inches padded digits leading
inch = refl

-- `LIDW 2008 366 0.0001 E`: the least above 0, with the mark
pub least : day_line lidw 2008 366 (Ok (Estimated 1)) ≡
    76 ∷ 73 ∷ 68 ∷ 87 ∷ 32 ∷ 50 ∷ 48 ∷ 48 ∷ 56 ∷ 32 ∷ 51 ∷ 54 ∷ 54 ∷ 32 ∷ 48 ∷ 46 ∷ 48 ∷ 48 ∷ 48 ∷ 49 ∷ 32 ∷ 69 ∷ newline ∷ []
unfolding day_line verdict_text inches padded digits leading
least = refl

-- a refusal of two digits: `R10`
pub ten : verdict_text (Err AboveClear) ≡ 82 ∷ 49 ∷ 48 ∷ []
unfolding verdict_text digits leading
ten = refl

-- "days answered" of two digits and of three (02, W5): `LIDW 2008 12 31 12.3456`, `LIDW ALL 366 12.3456`
pub many_days : (month_line lidw 2008 12 31 123_456 ≡
    76 ∷ 73 ∷ 68 ∷ 87 ∷ 32 ∷ 50 ∷ 48 ∷ 48 ∷ 56 ∷ 32 ∷ 49 ∷ 50 ∷ 32 ∷ 51 ∷ 49 ∷ 32 ∷ 49 ∷ 50 ∷ 46 ∷ 51 ∷ 52 ∷ 53 ∷ 54 ∷ newline ∷ [])
    × (season_line lidw 366 123_456 ≡
    76 ∷ 73 ∷ 68 ∷ 87 ∷ 32 ∷ 65 ∷ 76 ∷ 76 ∷ 32 ∷ 51 ∷ 54 ∷ 54 ∷ 32 ∷ 49 ∷ 50 ∷ 46 ∷ 51 ∷ 52 ∷ 53 ∷ 54 ∷ newline ∷ [])
unfolding month_line season_line totals inches padded digits leading
many_days = (refl, refl)
