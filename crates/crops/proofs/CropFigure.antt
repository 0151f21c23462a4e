-- A crop's figure as the code works it from a share (`share_figure_lem`), and its limit: it never exceeds twice the reference figure (`twice_most`).
-- Assumes nothing.
use mathlib.Core.Path.{◌≡◌, refl, subst}
use mathlib.Core.Bool.{false}
use Prim.Native.Nat.{ℕ, ◌+◌, ◌*◌, ◌/◌, ◌≤◌, ◌<◌}
use native.Mathlib.Nat.{mul-le-mul_left, div-lt_iff_lt-mul}
use native.Mathlib.Omega.{arith}
use Rattle.crops.specs.Crop.{bad_crop, crop_figure}
use Rattle.crops.specs.Share.{share_on, share_figure, ShareInRange}
use Rattle.crops.specs.declared.Crop.{Crop}
use Rattle.crops.specs.declared.Share.{Share}
use Rattle.crops.proofs.Faultless.{faultless, share_in_range}

pub share_figure_lem : (c : Crop) (d n : ℕ) → share_figure (share_on c d) n ≡ crop_figure c d n
unfolding share_figure crop_figure
share_figure_lem c d n = refl

-- a ≤ m b has a nearest quotient of at most m
nearest_most : {a b m : ℕ} → 1 ≤ b → a ≤ m * b → (2 * a + b) / (2 * b) ≤ m
nearest_most {a} {b} {m} some most =
    let below : (2 * a + b) / (2 * b) < m + 1 = (div-lt_iff_lt-mul {k = 2 * b} {x = 2 * a + b} {y = m + 1} (omega arith)).1 (omega arith) in omega arith

pub share_twice_most : {s : Share} → ShareInRange s → (n : ℕ) → share_figure s n ≤ 2 * n
unfolding share_figure
share_twice_most {s} range n = nearest_most (omega (arith, range.some)) (omega (arith, mul-le-mul_left n range.most))

pub twice_most : (c : Crop) → bad_crop c ≡ false → (d n : ℕ) → crop_figure c d n ≤ 2 * n
twice_most c good d n = subst (λ (m : ℕ). m ≤ 2 * n) (share_figure_lem c d n) (share_twice_most (share_in_range (faultless c good) d) n)
