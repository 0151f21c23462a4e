-- A crop worked by hand, beans of 2008 from day 150 to day 250: its days (`days`), its percentages (`percentages`), its figures (`figures`), and both
-- sides of each edge of refusal 13 (`edges`). Assumes nothing.
use mathlib.Core.Path.{◌≡◌, refl}
use mathlib.Core.Bool.{true, false}
use mathlib.Core.List.{List, [], ◌∷◌, map}
use Prim.Native.Nat.{ℕ}
use Rattle.day.specs.declared.Code.{Code}
use Rattle.crops.specs.Crop.{bad_crop, in_season, i, r, above, crop_figure}
use Rattle.crops.specs.declared.Crop.{Crop}

abbrev pub of : Code → ℕ → ℕ → ℕ → List ℕ → Crop
of code year start full stages = record { code = code; year = year; start = start; full = full; stages = stages }

abbrev pub BEAN : Code
BEAN = record { first = 66; second = 69; third = 65; fourth = 78 }

-- the curve with a percentage of stage 10
abbrev pub curve : ℕ → List ℕ
curve last = 20 ∷ 22 ∷ 30 ∷ 45 ∷ 65 ∷ 90 ∷ 105 ∷ 107 ∷ 95 ∷ 60 ∷ last ∷ []

abbrev pub beans : Crop
beans = of BEAN 2008 150 250 (curve 30)

-- the first day and the last, those around them, and another year's
pub days : (map (λ (d : ℕ). in_season beans 2008 d) (149 ∷ 150 ∷ 250 ∷ 251 ∷ []) ≡ false ∷ true ∷ true ∷ false ∷ [])
    × (map (λ (year : ℕ). in_season beans year 180) (2007 ∷ 2008 ∷ 2009 ∷ []) ≡ false ∷ true ∷ false ∷ [])
unfolding in_season
days = (refl, refl)

-- L is 100. Day 180 is stage 3, day 185 half way to stage 4, day 249 nine tenths of the way to stage 10; at F stage 10 stands alone.
pub percentages : (map (i beans) (150 ∷ 180 ∷ 185 ∷ 249 ∷ []) ≡ 0 ∷ 3 ∷ 3 ∷ 9 ∷ [])
    × (map (r beans) (150 ∷ 180 ∷ 185 ∷ 249 ∷ []) ≡ 0 ∷ 0 ∷ 50 ∷ 90 ∷ [])
    × (map (above beans) (150 ∷ 180 ∷ 185 ∷ 249 ∷ 250 ∷ []) ≡ 2_000 ∷ 4_500 ∷ 5_500 ∷ 3_300 ∷ 3_000 ∷ [])
unfolding above
percentages = (refl, refl, refl)

-- 3,518 × 55/100 = 1,934.9; 3,510 × 55/100 = 1,930.5; 3,518 × 30/100 = 1,055.4; and 3,518 × 20.2/100 = 710.636, not 703.6 of a percentage that was
-- rounded first
pub figures : (crop_figure beans 185 3_518 ≡ 1_935) × (crop_figure beans 185 3_510 ≡ 1_931) × (crop_figure beans 250 3_518 ≡ 1_055) × (crop_figure beans 151 3_518 ≡ 711)
unfolding crop_figure above
figures = (refl, refl, refl, refl)

-- ---- refusal 13

-- the letters A and Z, years 1950 and 2099, a percentage of 200, S = 1, F = S + 1, F = 365
abbrev taken : List Crop
taken =
    beans
    ∷ of (record { first = 65; second = 90; third = 65; fourth = 90 }) 2008 150 250 (curve 30)
    ∷ of BEAN 1950 150 250 (curve 30)
    ∷ of BEAN 2099 150 250 (curve 30)
    ∷ of BEAN 2008 150 250 (curve 200)
    ∷ of BEAN 2008 1 250 (curve 30)
    ∷ of BEAN 2008 150 151 (curve 30)
    ∷ of BEAN 2008 150 365 (curve 30)
    ∷ []

-- the characters beside A and Z in each place, years 1949 and 2100, a percentage of 201 at the last stage and at the first, S = 0, F = S, F = 366
abbrev refused : List Crop
refused =
    of (record { first = 64; second = 69; third = 65; fourth = 78 }) 2008 150 250 (curve 30)
    ∷ of (record { first = 66; second = 91; third = 65; fourth = 78 }) 2008 150 250 (curve 30)
    ∷ of (record { first = 66; second = 69; third = 64; fourth = 78 }) 2008 150 250 (curve 30)
    ∷ of (record { first = 66; second = 69; third = 65; fourth = 91 }) 2008 150 250 (curve 30)
    ∷ of BEAN 1949 150 250 (curve 30)
    ∷ of BEAN 2100 150 250 (curve 30)
    ∷ of BEAN 2008 150 250 (curve 201)
    ∷ of BEAN 2008 150 250 (201 ∷ 22 ∷ 30 ∷ 45 ∷ 65 ∷ 90 ∷ 105 ∷ 107 ∷ 95 ∷ 60 ∷ 30 ∷ [])
    ∷ of BEAN 2008 0 250 (curve 30)
    ∷ of BEAN 2008 150 150 (curve 30)
    ∷ of BEAN 2008 150 366 (curve 30)
    ∷ []

pub edges : (map bad_crop taken ≡ map (λ (c : Crop). false) taken) × (map bad_crop refused ≡ map (λ (c : Crop). true) refused)
unfolding bad_crop
edges = (refl, refl)
