-- A crop of a block, by document 02, W1: its refusal, its percentage on a day and its figure, in the document's letters. Assumes nothing.
use Rattle.std.specs.Prelude.{Bool, true, false, cond, ◌&&◌, List, [], ◌∷◌, ◌++◌, ℕ, ◌+◌, ◌-◌, ◌*◌, ◌/◌, ◌%◌, ltb, leb, eqb, pos, nat_abs, get_or}
use Rattle.numbers.specs.Whole.{nearest_quotient}
use Rattle.day.specs.Calendar.{first_year, last_year}
use Rattle.day.specs.Rules.{any_of, code_faults}
use Rattle.crops.specs.declared.Crop.{Crop}

-- a percentage over 200
abbrev pub over_any : List ℕ → Bool
over_any [] = false
over_any (p ∷ ps) = cond (ltb 200 p) true (over_any ps)

-- 13: "a crop letter not a capital, year out of range, percentage over 200, S below 1, F not above S or over 365"
abbrev pub crop_faults : Crop → List Bool
crop_faults c =
    code_faults c.code.first c.code.second c.code.third c.code.fourth
    ++ (ltb c.year first_year
    ∷ ltb last_year c.year
    ∷ over_any c.stages
    ∷ ltb c.start 1
    ∷ leb c.full c.start
    ∷ ltb 365 c.full
    ∷ [])

unfoldable pub bad_crop : Crop → Bool
bad_crop c = any_of (crop_faults c)

-- a day "of that year from S to F"
unfoldable pub in_season : Crop → ℕ → ℕ → Bool
in_season c year d = eqb c.year year && (leb c.start d && leb d c.full)

-- "L = F - S"
abbrev pub L : Crop → ℕ
L c = c.full - c.start

-- "stage times ten days is read linearly: (d - S) × 10 = i × L + r"
abbrev pub i : Crop → ℕ → ℕ
i c d = (d - c.start) * 10 / L c

abbrev pub r : Crop → ℕ → ℕ
r c d = (d - c.start) * 10 % L c

-- the percentage of a stage
abbrev pub p : Crop → ℕ → ℕ
p c stage = get_or c.stages stage 0

-- "percentage (p_i × (L - r) + p_(i+1) × r)/L": what stands above L. "At F, stage 10 stands alone."
unfoldable pub above : Crop → ℕ → ℕ
above c d = cond (leb c.full d) (p c 10 * L c) (p c (i c d) * (L c - r c d) + p c (i c d + 1) * r c d)

-- "The day's reference figure times that percentage over 100, with one rounding to nearest, halves up": of a figure of n ten-thousandths of an inch
unfoldable pub crop_figure : Crop → ℕ → ℕ → ℕ
crop_figure c d n = nat_abs (nearest_quotient (pos (n * above c d)) (pos (100 * L c)))
