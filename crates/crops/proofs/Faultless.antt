-- What a crop that is not refused is known to be (`faultless`), and what follows: L, i, r, what stands above L and its share are in their ranges. Assumes
-- nothing.
use mathlib.Core.Path.{◌≡◌, refl, sym, subst}
use mathlib.Core.Bool.{Bool, true, false, cond, ◌&&◌, ◌||◌}
use mathlib.Core.List.{List, [], ◌∷◌}
use Prim.Native.Nat.{ℕ, zero, suc, ◌+◌, ◌-◌, ◌*◌, ◌≤◌, ◌<◌, zero-le}
use native.Mathlib.Nat.{mod-lt, mul-le-mul_right, div-lt_iff_lt-mul}
use native.Mathlib.Omega.{arith}
use borrow.Author.Tests.{ltb-false, leb-false, leb-true}
use lib.Dec.{T, ltb, leb, eqb}
use lib.ListN.{get_or}
use Rattle.std.specs.List.{list_any}
use Rattle.day.proofs.Tests.{all_false}
use Rattle.crops.specs.Crop.{over_any, crop_faults, bad_crop, in_season, L, i, r, p, above}
use Rattle.crops.specs.Share.{share_on, ShareInRange}
use Rattle.crops.specs.declared.Crop.{Crop}

pub record Faultless (c : Crop) : Type 0 where
  pub start_low : 1 ≤ c.start
  pub start_full : c.start < c.full
  pub full_high : c.full ≤ 365
  pub stage_high : (stage : ℕ) → p c stage ≤ 200

-- the test of each percentage, as a search for one that passes it
pub over_any_lem : (ps : List ℕ) → list_any (ltb 200) ps ≡ over_any ps
over_any_lem [] = refl
over_any_lem (x ∷ ps) = by (ltb 200 x) (over_any_lem ps)
  where
    by : (b : Bool) {y z : Bool} → y ≡ z → (b || y) ≡ cond b true z
    by true e = refl
    by false e = e

none_over : (ps : List ℕ) → over_any ps ≡ false → (stage : ℕ) → get_or ps stage 0 ≤ 200
none_over [] e stage = zero-le
none_over (p ∷ ps) e stage = by_test (ltb 200 p) refl (λ rest k. none_over ps rest k) e stage
  where
    by_test : (b : Bool) → ltb 200 p ≡ b → (over_any ps ≡ false → (k : ℕ) → get_or ps k 0 ≤ 200) → cond b true (over_any ps) ≡ false → (k : ℕ) →
        get_or (p ∷ ps) k 0 ≤ 200
    by_test true t rest e k = absurd (subst T e tt)
    by_test false t rest e zero = ltb-false 200 p t
    by_test false t rest e (suc k) = rest e k

pub faultless : (c : Crop) → bad_crop c ≡ false → Faultless c
unfolding bad_crop
faultless c e =
    let each = (all_false (crop_faults c) e).1.1.1.1 in
    record {
      start_low = ltb-false c.start 1 each.1.1.1.0;
      start_full = leb-false c.full c.start each.1.1.1.1.0;
      full_high = ltb-false 365 c.full each.1.1.1.1.1.0;
      stage_high = none_over c.stages each.1.1.0;
    }

-- ---- a day of the season

pub record Season (c : Crop) (d : ℕ) : Type 0 where
  pub from_start : c.start ≤ d
  pub to_full : d ≤ c.full

pub season : (c : Crop) (year d : ℕ) → in_season c year d ≡ true → Season c d
unfolding in_season
season c year d e =
    let both = tests (eqb c.year year) (leb c.start d) (leb d c.full) e in
    record { from_start = leb-true c.start d both.0; to_full = leb-true d c.full both.1 }
  where
    tests : (x y z : Bool) → (x && (y && z)) ≡ true → (y ≡ true) × (z ≡ true)
    tests true true true e = (refl, refl)
    tests true true false e = absurd (subst T (sym e) tt)
    tests true false z e = absurd (subst T (sym e) tt)
    tests false y z e = absurd (subst T (sym e) tt)

-- ---- L, i, r, and what stands above L

chosen_most : (b : Bool) {x y m : ℕ} → x ≤ m → y ≤ m → cond b x y ≤ m
chosen_most true hx hy = hx
chosen_most false hx hy = hy

-- two percentages, each at most 200, by weights that make up m
weighed_most : (v w : ℕ) {x y m : ℕ} → x ≤ 200 → y ≤ 200 → v + w ≡ m → x * v + y * w ≤ 200 * m
weighed_most v w hx hy e = omega (arith, mul-le-mul_right v hx, mul-le-mul_right w hy)

module _ {c : Crop} (sound : Faultless c) where
  pub length_some : 1 ≤ L c
  length_some = omega (arith, sound.start_full)

  pub length_most : L c ≤ 364
  length_most = omega (arith, sound.start_low, sound.full_high)

  pub r_below : (d : ℕ) → r c d < L c
  r_below d = mod-lt ((d - c.start) * 10) length_some

  -- before F there are two stages to read between
  pub i_below : (d : ℕ) → c.start ≤ d → d < c.full → i c d < 10
  i_below d low high = (div-lt_iff_lt-mul length_some).1 (omega (arith, sound.start_full))

  pub above_most : (d : ℕ) → above c d ≤ 200 * L c
  unfolding above
  above_most d =
      chosen_most (leb c.full d) (mul-le-mul_right (L c) (sound.stage_high 10))
      (weighed_most _ _ (sound.stage_high (i c d)) (sound.stage_high (i c d + 1)) (omega (arith, r_below d)))

  -- what the code hands on of the crop
  pub share_in_range : (d : ℕ) → ShareInRange (share_on c d)
  share_in_range d = record { some = length_some; long = length_most; most = above_most d }
