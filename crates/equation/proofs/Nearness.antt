-- The figure of numbers in range lies within the bound of the equation's value: the ranges give all that `sheet_rounded` asks for. The theorem
-- is `figure_near`; `figure_rounded_at`, from which it follows, has the value's size as well. Assumes nothing.
use mathlib.Core.Path.{◌≡◌, refl}
use mathlib.Core.Bool.{Bool, true, false, cond}
use mathlib.Core.List.{List}
use Prim.Native.Nat.{ℕ, ◌*◌}
use lib.IntN.{ℤ, pos, negsuc, nat_abs, ◌*ℤ◌}
use lib.ListN.{length}
use lib.Signed.{le_z, ◌<ℤ◌}
use Rattle.numbers.specs.Ranges.{InRange}
use Rattle.ratios.specs.Ratios.{◌over◌}
use Rattle.numbers.specs.Fractions.{ℚ, from_ℤ, ◌/ℚ◌, ◌*ℚ◌, ◌≤ℚ◌}
use Rattle.numbers.proofs.Order.{<ℚ_ratio, <ℚ-≤ℚ_trans}
use Rattle.numbers.proofs.Rounded.{Rounded, rounded_abs, of_whole, at_least}
use Rattle.numbers.proofs.RoundedQuotient.{divisor_above}
use Rattle.numbers.proofs.Reflection.{arg, lit, ◌+ᵐ◌, ◌-ᵐ◌, ◌*ᵐ◌, none, ◌and◌, meaning_in}
use Rattle.sheet.specs.Quantities as quantities
use Rattle.sheet.specs.StepSheet as sheet
use Rattle.sheet.specs.declared.Readings.{Readings}
use Rattle.sheet.specs.declared.Entries.{Entries}
use Rattle.equation.specs.Equation.{value}
use Rattle.equation.specs.Equation as equation
use Rattle.equation.proofs.FigureNear.{StationNumbers, StationNumbersInRange, Accepted, clear_day, figure_of, bound, OfEveryValue, FigureNear}
use Rattle.equation.proofs.Units.{billionths}
use Rattle.equation.proofs.Ends.{Between, IsTemperature, from_ends, minus_ends, temperature_ends, limit_ends}
use Rattle.equation.proofs.TemperatureBound.{e_rounded, e_low}
use Rattle.equation.proofs.CloudBound.{Q_rounded, C_low}
use Rattle.equation.proofs.SheetBound.{sheet_rounded}
use Rattle.equation.proofs.EntryBound.{day_entry, entry_low, pressure_rounded, pressure_low}

-- ---- ranges: of the latent heat, and of the clear-day sum at any constants of two bytes

latent_in : {m : ℤ} → InRange quantities.temperature m → InRange quantities.latent_heat (sheet.M m)
unfolding sheet.M
latent_in p = meaning_in (p and none) (lit 15006000 -ᵐ lit 787 *ᵐ (arg 0 -ᵐ lit 320)) quantities.latent_heat tt

clear_sum_in : (c : StationNumbers) → StationNumbersInRange c → InRange quantities.clear_sum (sheet.clear_sum c.constants.c1 c.constants.c2 c.constants.c3 c.constants.c4 c.constants.c5 c.d)
unfolding sheet.clear_sum
clear_sum_in c h =
    meaning_in (h.constants.c1 and h.constants.c2 and h.constants.c3 and h.constants.c4 and h.constants.c5 and h.d and none)
    (lit 1000000000 *ᵐ arg 0
    +ᵐ lit 1000000 *ᵐ arg 1 *ᵐ arg 5
    +ᵐ lit 100000 *ᵐ arg 2 *ᵐ arg 5 *ᵐ arg 5
    +ᵐ lit 1000 *ᵐ arg 3 *ᵐ arg 5 *ᵐ arg 5 *ᵐ arg 5
    +ᵐ arg 4 *ᵐ arg 5 *ᵐ arg 5 *ᵐ arg 5 *ᵐ arg 5)
    quantities.clear_sum tt

-- ---- signs: a figure is not below 0, so nothing is lost when it is read without its sign; nor is a multiple of a number above 0

choice_whole : (b : Bool) (n : ℕ) → cond b (pos 0) (pos n) ≡ pos (nat_abs (cond b (pos 0) (pos n)))
choice_whole true n = refl
choice_whole false n = refl

figure_whole : (A M : ℤ) → InRange quantities.latent_heat M → sheet.Figure A M ≡ pos (nat_abs (sheet.Figure A M))
unfolding sheet.Figure
figure_whole (pos a) (pos k) p = choice_whole (le_z (pos a) (pos 0)) _
figure_whole (pos a) (negsuc k) p = absurd p.bounds
figure_whole (negsuc a) M p = refl

multiple_whole : (k : ℕ) (z : ℤ) → pos 0 <ℤ z → (n : ℕ) × (pos k *ℤ z ≡ pos n)
multiple_whole k (pos m) h = (k * m, refl)
multiple_whole k (negsuc m) h = absurd h.lt

-- the vapour pressure is above 0, so that its root is one of a whole number from 0 on
root_of : (f : ℤ) → IsTemperature f → (n : ℕ) × (pos 10000000 *ℤ sheet.e f ≡ pos n)
root_of f between =
    multiple_whole 10000000 (sheet.e f)
    (divisor_above (sheet.e f) billionths tt
    (<ℚ-≤ℚ_trans (<ℚ_ratio (86 over 1000) tt)
    (at_least (87 over 1000) (86 over 1000) tt (e_low f between.low between.high) (e_rounded f between.low between.high))))

-- ---- the clear day

module _ (c : StationNumbers) (h : StationNumbersInRange c) where
  abbrev C : ℚ
  C =
      equation.C (from_ℤ c.constants.c1) (from_ℤ c.constants.c2 *ℚ 1 /ℚ 1000) (from_ℤ c.constants.c3 *ℚ 1 /ℚ 10000) (from_ℤ c.constants.c4 *ℚ 1 /ℚ 1000000)
      (from_ℤ c.constants.c5 *ℚ 1 /ℚ 1000000000) (from_ℤ c.minimum) (from_ℤ c.d)

  sum_ends : Between (negsuc 2999999999999999) (pos 3000000000000000) (sheet.clear_sum c.constants.c1 c.constants.c2 c.constants.c3 c.constants.c4 c.constants.c5 c.d)
  sum_ends = minus_ends 3000000000000000 3000000000000000 (clear_sum_in c h)

  minimum_ends : Between (pos 50) (pos 200) c.minimum
  minimum_ends = from_ends 50 200 h.minimum

  clear_rounded : Rounded (clear_day c) billionths C (3000000 over 1) (0 over 1)
  clear_rounded =
      Q_rounded c.constants.c1 c.constants.c2 c.constants.c3 c.constants.c4 c.constants.c5 c.d c.minimum sum_ends.low sum_ends.high minimum_ends.low minimum_ends.high

  clear_low : 50 /ℚ 1 ≤ℚ C
  clear_low = C_low c.constants.c1 c.constants.c2 c.constants.c3 c.constants.c4 c.constants.c5 c.d c.minimum sum_ends.low sum_ends.high minimum_ends.low minimum_ends.high

-- ---- the figure against the equation

module _ (r : Readings) (t : Entries) (fs : List ℤ) (c : StationNumbers) (accepted : Accepted r t fs c) where
  radiation_ends : Between (pos 0) (pos 12000) r.radiation
  radiation_ends = from_ends 0 12000 accepted.readings.radiation

  wind_ends : Between (pos 0) (pos 9999) r.wind
  wind_ends = from_ends 0 9999 accepted.readings.wind

  figure_is : sheet.figure r t (record { k = pos (length fs); z = sheet.sum_of fs }) (clear_day c) c.limit ≡ pos (figure_of r t fs c)
  unfolding sheet.figure
  figure_is = figure_whole _ (sheet.M r.mean) (latent_in accepted.readings.mean)

  -- the size of the value as well as the figure's distance from it
  pub figure_rounded_at : OfEveryValue r t fs c (λ v. Rounded (pos (figure_of r t fs c)) (1 over 10000) v (8 over 1) bound)
  unfolding value
  figure_rounded_at α a1 aw bw P x hα ha1 haw hbw hP hx =
      let dewpoint = temperature_ends accepted.readings.dewpoint in
      let entries = accepted.entries in
      let root = root_of r.dewpoint dewpoint in
      of_whole figure_is
      (sheet_rounded r t
      (temperature_ends accepted.readings.maximum) (temperature_ends accepted.readings.minimum) (temperature_ends accepted.readings.mean) dewpoint
      accepted.minimum_mean accepted.dewpoint_maximum
      radiation_ends.low radiation_ends.high wind_ends.low wind_ends.high c.limit (limit_ends accepted.constants.limit)
      fs accepted.means accepted.few
      (clear_day c) (C c accepted.constants) (clear_rounded c accepted.constants) (clear_low c accepted.constants) accepted.below α a1 aw bw P
      (day_entry 230000000 350000000 t.albedo α (35 over 100) (36 over 100) entries.albedo hα tt tt tt)
      (day_entry 260000000 360000000 t.a1 a1 (36 over 100) (361 over 1000) entries.a1 ha1 tt tt tt)
      (day_entry 400000000 1800000000 t.aw aw (18 over 10) (1801 over 1000) entries.aw haw tt tt tt)
      (day_entry 7000000 11000000 t.bw bw (11 over 1000) (111 over 10000) entries.bw hbw tt tt tt)
      (entry_low 230000000 350000000 t.albedo billionths α (22 over 100) entries.albedo hα tt tt)
      (entry_low 260000000 360000000 t.a1 billionths a1 (25 over 100) entries.a1 ha1 tt tt)
      (pressure_rounded t.p P entries.p hP) (pressure_low t.p P entries.p hP)
      x hx root.0 root.1)

  pub figure_near : FigureNear r t fs c
  unfolding FigureNear
  figure_near α a1 aw bw P x hα ha1 haw hbw hP hx = rounded_abs (figure_rounded_at α a1 aw bw P x hα ha1 haw hbw hP hx)
