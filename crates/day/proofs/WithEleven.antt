-- The rules before document 02, W6: refusal 11 behind the others, "D + g of the sheet below 1", and the absolute value of f + 160 in the vapour
-- pressure. Both stand here alone, to show what became of them: 11 never held of a day that 3 and 6 to 10 let through (`eleven_never`), no day's answer
-- has moved (`none_moved`), and no other refusal has the number (`never_eleven`). Assumes nothing.
use mathlib.Core.Path.{◌≡◌, refl, ap, subst}
use mathlib.Core.Bool.{Bool, false, not, cond}
use mathlib.Core.Logic.{◌≢◌}
use Prim.Native.Nat.{ℕ, ◌+◌, ◌≤◌}
use native.Mathlib.Omega.{arith}
use borrow.Author.Tests.{le-ltb}
use lib.Dec.{T, eqb, leb→le, lit≤}
use lib.IntN.{ℤ, pos, negsuc, nat_abs, ◌+ℤ◌, ◌-ℤ◌, ◌*ℤ◌}
use lib.Signed.{lt_z, ◌≤ℤ◌}
use Rattle.std.specs.Prelude.{Result, Ok, Err}
use Rattle.numbers.specs.Ranges.{InRange}
use Rattle.numbers.specs.Whole.{◌÷↓◌}
use Rattle.tables.specs.Values.{pressure_at}
use Rattle.sheet.specs.Accepted.{ReadingsInRange}
use Rattle.sheet.specs.Limits.{temperature}
use Rattle.sheet.specs.StepSheet as sheet
use Rattle.sheet.specs.declared.Entries.{Entries}
use Rattle.day.specs.Judgement.{readings_of, entries_of, clear_of, earlier_of, figure_of, standing_of, as_judged, with_mark, verdict_with, judged, Answered, Verdict}
use Rattle.day.specs.Rules.{number_of}
use Rattle.day.specs.declared.Station.{Station}
use Rattle.day.specs.declared.Day.{Day}
use Rattle.day.specs.declared.Earlier.{Earlier}
use Rattle.day.specs.declared.Figure.{Figure}
use Rattle.day.specs.declared.Refusal.{Refusal}
use Rattle.day.specs.declared.Refusal.TheVariants.{StationField, BadDate, Missing, OutOfRange, OutOfOrder, AboveClear}
use Rattle.day.proofs.FigureWith.{figure_with}
use Rattle.day.proofs.LeastValues.{Place, PlaceAccepted, g_at, distance_least, slope_least, psychrometric_least}
use Rattle.day.proofs.Passed.{elevation_high, readings_in}
use Rattle.day.proofs.Standings.{stands_answered}

-- ---- the rules before

-- "Vapour pressure e = (V8 - 1,900 × |f + 160| + 1,316,000) × 338,639/100,000, down"
abbrev e : ℤ → ℤ
e f = (sheet.V8 f -ℤ pos 1_900 *ℤ pos (nat_abs (f +ℤ pos 160)) +ℤ pos 1_316_000) *ℤ pos 338_639 ÷↓ pos 100_000

-- the sheet with any vapour pressures at the maximum, the minimum and the dew point
abbrev figure_by : ℤ → ℤ → ℤ → Station → Day → Earlier → ℕ
figure_by eMaximum eMinimum ea st x earlier =
    let t : Entries = entries_of st x in
    nat_abs
    (figure_with (sheet.r ea) (sheet.T (sheet.«V» eMaximum eMinimum ea) (sheet.Wf t.aw t.bw (sheet.counted_wind (pos st.limit) x.wind)))
    (readings_of x) t (earlier_of earlier) (clear_of st x))

figure_before : Station → Day → Earlier → ℕ
figure_before st x earlier = figure_by (e x.maximum) (e x.minimum) (e x.dewpoint) st x earlier

-- 11: "D + g of the sheet below 1"
pub eleven_held : Station → Day → Bool
eleven_held st x = lt_z (sheet.D x.mean +ℤ sheet.g (pos (pressure_at st.elevation)) (sheet.M x.mean)) (pos 1)

-- a verdict of before: one that there is still, or the refusal that went
pub data Former : Type 0 where
  still : Verdict → Former
  eleven : Former

-- "the first of 3, 6 (calendar only), 7, 8, 9, 10, 11, in that order", or the figure
abbrev formerly : Result (Unit {0}) Refusal → Bool → Figure → Former
formerly (Err r) held f = still (Err r)
formerly (Ok done) held f = cond held eleven (still (Ok f))

pub judged_before : Station → Day → Earlier → Former
judged_before st x earlier =
    formerly (standing_of st (as_judged x) earlier) (eleven_held st (as_judged x)) (with_mark x (figure_before st (as_judged x) earlier))

-- ---- what became of them

own_absolute : {n : ℕ} (z : ℤ) → pos n ≤ℤ z → pos (nat_abs z) ≡ z
own_absolute (pos k) h = refl
own_absolute (negsuc k) h = absurd h.le

e_same : {f : ℤ} → InRange temperature f → e f ≡ sheet.e f
unfolding sheet.e
e_same {f} p =
    ap (λ (z : ℤ). (sheet.V8 f -ℤ pos 1_900 *ℤ z +ℤ pos 1_316_000) *ℤ pos 338_639 ÷↓ pos 100_000)
    (own_absolute (f +ℤ pos 160) (distance_least.nowhere_below f p))

not_below_one : {a b : ℕ} (x y : ℤ) → 1 ≤ a → pos a ≤ℤ x → pos b ≤ℤ y → lt_z (x +ℤ y) (pos 1) ≡ false
not_below_one {a} (pos m) (pos n) l h k = le-ltb (m + n) 1 (omega (arith, leb→le a m h.le))
not_below_one (negsuc m) y l h k = absurd h.le
not_below_one (pos m) (negsuc n) l h k = absurd k.le

module _ (st : Station) (x : Day) (earlier : Earlier) (answered : standing_of st x earlier ≡ Ok tt) where
  readings : ReadingsInRange (readings_of x)
  unfolding Answered
  readings = readings_in st x earlier (stands_answered st x earlier answered OutOfRange)

  pub eleven_never : eleven_held st x ≡ false
  unfolding eleven_held readings_of Answered
  eleven_never =
      let place : Place = record { mean = x.mean; elevation = st.elevation } in
      let accepted : PlaceAccepted place = record { mean = readings.mean; elevation = elevation_high st x earlier (stands_answered st x earlier answered StationField) } in
      not_below_one (sheet.D x.mean) (g_at place) (lit≤ tt) (slope_least.nowhere_below x.mean readings.mean) (psychrometric_least.nowhere_below place accepted)

  figure_same : figure_before st x earlier ≡ figure_of st x earlier
  unfolding figure_before figure_of sheet.figure sheet.heat sheet.drying readings_of
  figure_same = λ i. figure_by (e_same readings.maximum i) (e_same readings.minimum i) (e_same readings.dewpoint i) st x earlier

-- whatever the station, the day and the earlier means: the verdict is the one of before
pub none_moved : (st : Station) (x : Day) (earlier : Earlier) → judged_before st x earlier ≡ still (judged st x earlier)
unfolding judged_before judged
none_moved st x earlier = by (standing_of st (as_judged x) earlier) refl
  where
    y : Day
    y = as_judged x

    by : (s : Result (Unit {0}) Refusal) → standing_of st (as_judged x) earlier ≡ s →
        formerly s (eleven_held st y) (with_mark x (figure_before st y earlier)) ≡ still (verdict_with s (with_mark x (figure_of st y earlier)))
    by (Err r) p = refl
    by (Ok done) p = λ i. cond (eleven_never st y earlier p i) eleven (still (Ok (with_mark x (figure_same st y earlier p i))))

-- ---- the number is given to no other refusal of a day

pub other : (k : ℕ) → T (not (eqb k 11)) → k ≢ 11
other k t e = absurd (subst (λ (j : ℕ). T (not (eqb j 11))) e t)

pub never_eleven : (r : Refusal) → number_of r ≢ 11
never_eleven StationField = other 3 tt
never_eleven BadDate = other 6 tt
never_eleven Missing = other 7 tt
never_eleven OutOfRange = other 8 tt
never_eleven OutOfOrder = other 9 tt
never_eleven AboveClear = other 10 tt
