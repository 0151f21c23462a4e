-- A crop's share of a day's figure, as the code hands it on: terms of inner functions. Assumes nothing.
use Rattle.std.specs.Prelude.{cond, ℕ, ◌*◌, ◌≤◌, pos, nat_abs, Option, Some, None}
use Rattle.numbers.specs.Whole.{nearest_quotient}
use Rattle.crops.specs.Crop.{in_season, L, above}
use Rattle.crops.specs.declared.Crop.{Crop}
use Rattle.crops.specs.declared.Share.{Share}

-- the crop's letters, and its percentage on the day d
abbrev pub share_on : Crop → ℕ → Share
share_on c d = record { code = c.code; above = above c d; length = L c }

-- on a date of its season
unfoldable pub growing_on : Crop → ℕ → ℕ → Option Share
growing_on c year d = cond (in_season c year d) (Some (share_on c d)) None

-- the figure of a share: `crop_figure` of the crop and the day (`share_figure_lem` in proofs/CropFigure.antt)
unfoldable pub share_figure : Share → ℕ → ℕ
share_figure s n = nat_abs (nearest_quotient (pos (n * s.above)) (pos (100 * s.length)))

-- the percentage is at most 200, and L is that of a span within days 1 to 365
pub record ShareInRange (s : Share) : Type 0 where
  pub some : 1 ≤ s.length
  pub long : s.length ≤ 364
  pub most : s.above ≤ 200 * s.length

abbrev pub GrowingInRange : Option Share → Type 0
GrowingInRange (Some s) = ShareInRange s
GrowingInRange None = Unit {0}
