-- Over the accepted ranges f + 160, the slope D and the psychrometric constant g are above zero. Each has its least value at the coldest reading, g at
-- the greatest elevation too: 66, 8,438,616 and 44,307,428. Assumes nothing.
use mathlib.Core.Path.{◌≡◌, refl, sym, ap}
use Prim.Native.Nat.{ℕ, ◌≤◌}
use native.Mathlib.Omega.{arith}
use lib.Dec.{lit≤}
use lib.IntN.{ℤ, pos, negsuc, ◌+ℤ◌}
use lib.Signed.{◌≤ℤ◌}
use Rattle.numbers.specs.Ranges.{InRange, from◌to◌}
use Rattle.numbers.proofs.Reflection.{arg, none, ◌and◌, meaning_in}
use Rattle.tables.specs.Values.{pressure_at}
use Rattle.tables.proofs.PowerTests.{power_test, upper, lower, tenth_up, tenth_down}
use Rattle.tables.proofs.PressureEntries.{pressure_is}
use Rattle.tables.proofs.ValueRanges.{least_pressure, pressure_least, pressure_in}
use Rattle.sheet.proofs.Lines.{distance, slope, latent_heat, psychrometric}
use Rattle.sheet.specs.Limits.{temperature}
use Rattle.sheet.specs.StepSheet.{U, V2, V4, V6, V7, D, M, g}
use Rattle.equation.proofs.Ends.{from_ends}

-- over what is accepted, a line of the sheet is nowhere below its least value, and somewhere it is that
pub record LeastIs {A : Type 0} (Accepted : A → Type 0) (line : A → ℤ) (least : ℕ) : Type 0 where
  pub nowhere_below : (x : A) → Accepted x → pos least ≤ℤ line x
  pub somewhere : (x : A) × Accepted x × (line x ≡ pos least)

-- a mean, and the elevation of a station
pub record Place : Type 0 where
  pub mean : ℤ
  pub elevation : ℕ

pub record PlaceAccepted (x : Place) : Type 0 where
  pub mean : InRange temperature x.mean
  pub elevation : x.elevation ≤ 3000

abbrev pub g_at : Place → ℤ
g_at x = g (pos (pressure_at x.elevation)) (M x.mean)

-- ---- the least values, each the low end of the range that its line has as an expression

coldest : InRange temperature (negsuc 93)
coldest = record { bounds = omega arith }

highest : least_pressure ≡ pressure_at 3000
unfolding power_test upper lower tenth_up tenth_down
highest = pressure_is 3000 least_pressure (lit≤ tt) tt

pub distance_least : LeastIs (InRange temperature) (λ f. f +ℤ pos 160) 66
distance_least =
    record {
      nowhere_below = λ f p. (from_ends 66 1_451 (meaning_in (p and none) (distance (arg 0)) (from 66 to 1_451) tt)).low;
      somewhere = (negsuc 93, coldest, refl);
    }

pub slope_least : LeastIs (InRange temperature) D 8_438_616
unfolding U V2 V4 V6 V7 D
slope_least =
    record {
      nowhere_below = λ m p. (from_ends 8_438_616 739_014_823 (meaning_in (p and none) (slope (arg 0)) (from 8_438_616 to 739_014_823) tt)).low;
      somewhere = (negsuc 93, coldest, refl);
    }

module _ (x : Place) (p : PlaceAccepted x) where
  pressure_from : InRange (from least_pressure to 1_013_000) (pos (pressure_at x.elevation))
  pressure_from = record { bounds = (pressure_least x.elevation p.elevation, (pressure_in x.elevation p.elevation).bounds.1) }

  g_from : pos 44_307_428 ≤ℤ g_at x
  unfolding M g
  g_from = (from_ends 44_307_428 68_955_798 (meaning_in (p.mean and pressure_from and none) (psychrometric (arg 1) (latent_heat (arg 0))) (from 44_307_428 to 68_955_798) tt)).low

pub psychrometric_least : LeastIs PlaceAccepted g_at 44_307_428
unfolding M g
psychrometric_least =
    record {
      nowhere_below = g_from;
      somewhere = (
        record { mean = negsuc 93; elevation = 3000 },
        record { mean = coldest; elevation = lit≤ tt },
        ap (λ (p : ℕ). g (pos p) (M (negsuc 93))) (sym highest),
      );
    }
