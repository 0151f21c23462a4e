-- The lines of the report as lists of bytes, by document 01, "Proved days and edges", and by 02, W4 and W5. Assumes nothing.
use Rattle.std.specs.Prelude.{List, [], ◌∷◌, ◌++◌, ℕ, zero, suc, ◌+◌, ◌-◌, ◌/◌, ◌%◌, length, replicate, Ok, Err}
use Rattle.day.specs.Rules.{number_of}
use Rattle.day.specs.declared.Code.{Code}
use Rattle.day.specs.Judgement.{Verdict}
use Rattle.day.specs.declared.Figure.TheVariants.{Measured, Estimated}

-- the bytes of a space, of a decimal point, of a newline, and of a digit from 0 to 9
abbrev pub space : ℕ
space = 32

abbrev pub point : ℕ
point = 46

abbrev pub newline : ℕ
newline = 10

abbrev pub digit : ℕ → ℕ
digit d = 48 + d

-- the decimal digits of n, the highest first, and none for 0; m bounds how many there are
unfoldable pub leading : ℕ → ℕ → List ℕ
leading zero n = []
leading (suc m) zero = []
leading (suc m) (suc n) = leading m (suc n / 10) ++ digit (suc n % 10) ∷ []

-- n in decimal without zeros in front: what stands before the last digit, and the last digit. At most n digits stand before the last.
unfoldable pub digits : ℕ → List ℕ
digits n = leading n (n / 10) ++ digit (n % 10) ∷ []

-- "year in four digits; day in three (zeros in front, a longer number whole)"
unfoldable pub padded : ℕ → ℕ → List ℕ
padded k n = replicate (k - length (digits n)) (digit 0) ++ digits n

-- "inches with four decimals", of n ten-thousandths
unfoldable pub inches : ℕ → List ℕ
inches n = digits (n / 10_000) ++ point ∷ padded 4 (n % 10_000)

-- the four letters of a code
abbrev pub code_text : Code → List ℕ
code_text code = code.first ∷ code.second ∷ code.third ∷ code.fourth ∷ []

-- "Fields, parted by one space": a field that follows another
abbrev pub field : List ℕ → List ℕ
field text = space ∷ text

-- "or R and the number"; and "kind 3's line, code included, then a space and an E" (02, W4)
unfoldable pub verdict_text : Verdict → List ℕ
verdict_text (Ok (Measured n)) = inches n
verdict_text (Ok (Estimated n)) = inches n ++ field (69 ∷ [])
verdict_text (Err r) = 82 ∷ digits (number_of r)

-- `STN YEAR DAY ET`
abbrev pub header : List ℕ
header = 83 ∷ 84 ∷ 78 ∷ space ∷ 89 ∷ 69 ∷ 65 ∷ 82 ∷ space ∷ 68 ∷ 65 ∷ 89 ∷ space ∷ 69 ∷ 84 ∷ newline ∷ []

-- the line of a day: code, year, day, and the inches, with the mark if they have one, or the refusal
unfoldable pub day_line : Code → ℕ → ℕ → Verdict → List ℕ
day_line code year d verdict =
    code_text code ++ field (padded 4 year) ++ field (padded 3 d) ++ field (verdict_text verdict) ++ newline ∷ []

-- the line of a crop's figure: "An answer kind that a request adds prints its fields after the kind in the same way, figures in inches"
unfoldable pub crop_line : Code → ℕ → List ℕ
crop_line code n = code_text code ++ field (inches n) ++ newline ∷ []

-- what ends the lines of a month and of a season (02, W5): "days answered, sum", the sum "in inches with four decimals"
unfoldable pub totals : ℕ → ℕ → List ℕ
totals days sum = field (digits days) ++ field (inches sum) ++ newline ∷ []

-- the line of a month: "code, year, month in two digits, days answered, sum"
unfoldable pub month_line : Code → ℕ → ℕ → ℕ → ℕ → List ℕ
month_line code year month days sum = code_text code ++ field (padded 4 year) ++ field (padded 2 month) ++ totals days sum

-- "The season line has the code, the word ALL, the days answered in the whole block and the sum"
unfoldable pub season_line : Code → ℕ → ℕ → List ℕ
season_line code days sum = code_text code ++ field (65 ∷ 76 ∷ 76 ∷ []) ++ totals days sum

-- "A refused log prints only `REFUSED`, the number and the offset or length"
unfoldable pub refused_line : ℕ → ℕ → List ℕ
refused_line number value =
    (82 ∷ 69 ∷ 70 ∷ 85 ∷ 83 ∷ 69 ∷ 68 ∷ []) ++ field (digits number) ++ field (digits value) ++ newline ∷ []
