-- Values worked by hand. `marked` is one table of every value that document 01 marks to be proved. `days` are three days worked through: the one of
-- the document's log that gets a figure, and a summer day at the same station after two and after three earlier means. `limits` are a windy day at
-- three wind limits, `estimates` the summer day without its dew point. All are answered, so what `judged_within_bound` asks can be met. Assumes nothing.
use mathlib.Core.Path.{◌≡◌, refl, sym, ◌∙◌, ap, ap₂, subst}
use mathlib.Core.Bool.{cond}
use mathlib.Core.List.{List, [], ◌∷◌, map}
use Prim.Native.Nat.{ℕ}
use lib.Dec.{lit<, lit≤}
use lib.IntN.{ℤ, pos, negsuc, nat_abs, ◌-ℤ◌, ◌*ℤ◌}
use Rattle.std.specs.Prelude.{Some, None, Ok}
use Rattle.numbers.specs.Whole.{◌÷↓◌, whole_root}
use Rattle.numbers.specs.Root.{WholeRoot}
use Rattle.numbers.proofs.WholeRoots.{root_is}
use Rattle.tables.specs.Values.{sum_to, more, exp_sum, sin_sum, rounded, curve_at, arc_sum, arc_sums, bell_sums, a1_at, aw_at, bw_at, pressure_at}
use Rattle.tables.proofs.PowerTests.{power_test, upper, lower, tenth_up, tenth_down}
use Rattle.tables.proofs.PressureEntries.{pressure_is}
use Rattle.sheet.specs.declared.Entries.{Entries}
use Rattle.sheet.specs.Limits.{routine_limit}
use Rattle.sheet.specs.StepSheet as sheet
use Rattle.sheet.proofs.Examples.{Row, ◌gives◌, given, written}
use Rattle.day.specs.Calendar.{year_length, is_date}
use Rattle.day.specs.Rules.{number_of}
use Rattle.day.specs.Judgement.{readings_of, entries_of, clear_of, means_of, earlier_of, figure_of, holds, Answered, standing_of, lacks_dew_point, as_judged, with_mark, judged}
use Rattle.day.specs.Bound.{WithinBound, SignedConstants}
use Rattle.day.specs.declared.Station.{Station}
use Rattle.day.specs.declared.Day.{Day}
use Rattle.day.specs.declared.Earlier.{Earlier}
use Rattle.day.specs.declared.Refusal.TheVariants.{AboveClear}
use Rattle.day.specs.declared.Figure.{Figure}
use Rattle.day.specs.declared.Figure.TheVariants.{Measured, Estimated}
use Rattle.day.proofs.DayBound.{within_bound}
use Rattle.day.proofs.Edges.{lidw_with}
use Rattle.day.proofs.FigureWith.{figure_with}
use Rattle.day.proofs.Standings.{stands_answered, answered_figure}

-- ---- the marked values

-- the station's clear day at d = 180, and one of 500 cal/cm²/d
abbrev clear_day : ℤ
clear_day = sheet.Q (pos 100) (sheet.clear_sum (pos 154) (pos 1_760) (pos 614) (negsuc 395) (pos 590) (pos 180))

abbrev even_day : ℤ
even_day = pos 500_000_000_000

-- the number of the refusal that holds of a reading on the even day, 0 for none
abbrev refusal : ℤ → ℤ
refusal s = cond (sheet.above_twice_clear s even_day) (pos (number_of AboveClear)) (pos 0)

abbrev rest : List Row
rest =
    (pos (a1_at 177) gives pos 360_000_000)
    ∷ (pos (aw_at 173) gives pos 1_800_000_000)
    ∷ (pos (bw_at 243) gives pos 11_000_000)
    ∷ (sheet.U (pos 320) gives pos 80_720)
    ∷ (sheet.V8 (pos 320) gives pos 180_239_188)
    ∷ (sheet.e (pos 320) gives pos 611_728_285)
    ∷ (sheet.D (pos 320) gives pos 44_541_876)
    ∷ (sheet.N (pos 320) gives pos 245_844)
    ∷ (sheet.M (pos 320) gives pos 15_006_000)
    ∷ (sheet.M (pos 500) gives pos 14_864_340)
    ∷ (clear_day gives pos 770_046_400_000)
    ∷ (sheet.K (pos 5_390) clear_day gives (pos 1_017 *ℤ sheet.ρ (pos 5_390) clear_day ÷↓ pos 1_000) -ℤ pos 60_000_000)
    ∷ (sheet.K (pos 5_391) clear_day gives (pos 1_126 *ℤ sheet.ρ (pos 5_391) clear_day ÷↓ pos 1_000) -ℤ pos 70_000_000)
    ∷ (sheet.K (pos 3_500) even_day gives pos 651_900_000)
    ∷ (sheet.K (pos 3_501) even_day gives pos 718_425_200)
    ∷ (refusal (pos 10_000) gives pos 0)
    ∷ (refusal (pos 10_001) gives pos 10)
    ∷ []

-- "E = 0: p 1,013,000; with m = 320, g 65,444,240". The pressure's value is a search and is not computed: its two rows stand first.
abbrev table : List Row
table =
    (pos (pressure_at 0) gives pos 1_013_000)
    ∷ (sheet.g (pos (pressure_at 0)) (sheet.M (pos 320)) gives pos 65_444_240)
    ∷ rest

sea_level_lem : 1_013_000 ≡ pressure_at 0
unfolding power_test upper lower tenth_up tenth_down
sea_level_lem = pressure_is 0 1_013_000 (lit≤ tt) tt

marked : map given table ≡ map written table
unfolding curve_at rounded bell_sums exp_sum sum_to more sheet.U sheet.V2 sheet.V4 sheet.V6 sheet.V7 sheet.V8 sheet.e sheet.D sheet.M sheet.g sheet.clear_sum sheet.Q sheet.above_twice_clear sheet.ρ sheet.K sheet.N
marked = ap (λ (p : ℕ). pos p ∷ sheet.g (pos p) (sheet.M (pos 320)) ∷ map written rest) (sym sea_level_lem)

-- ---- a day worked through: the pressure and the root are searches too, so both are put in as numbers

root_at : (f : ℤ) (n root : ℕ) → pos 10_000_000 *ℤ sheet.e f ≡ pos n → WholeRoot n root → sheet.r (sheet.e f) ≡ pos root
unfolding sheet.r
root_at f n root is h = ap whole_root is ∙ sym (root_is n root h)

-- what is shown of a day: it is answered, with the figure n, marked or not, and n is within the bound
pub record Worked (st : Station) (day : Day) (earlier : Earlier) (marked : ℕ → Figure) (n : ℕ) : Type 0 where
  pub answered : Answered st (as_judged day) earlier
  pub told : judged st day earlier ≡ Ok (marked n)
  pub bound : WithinBound st (as_judged day) earlier n

-- the sheet's figure, of the entries and the root put in
abbrev figure_as : Station → Day → Earlier → Entries → ℤ → ℕ
figure_as st day earlier t root =
    nat_abs (figure_with root (sheet.drying (readings_of day) t (pos st.limit)) (readings_of day) t (earlier_of earlier) (clear_of st day))

figure_as_lem : (st : Station) (day : Day) (earlier : Earlier) {t : Entries} {root : ℤ} → entries_of st day ≡ t → sheet.r (sheet.e day.dewpoint) ≡ root →
    figure_of st day earlier ≡ figure_as st day earlier t root
unfolding figure_of readings_of sheet.figure sheet.heat
figure_as_lem st day earlier entries-are is = ap₂ (figure_as st day earlier) entries-are is

-- by computation: none of the refusals holds, and the figure is n, with the mark that the day has
pub worked : (st : Station) (day : Day) (earlier : Earlier) (t : Entries) → entries_of st (as_judged day) ≡ t → SignedConstants st → {root : ℤ} →
    sheet.r (sheet.e (as_judged day).dewpoint) ≡ root → standing_of st (as_judged day) earlier ≡ Ok tt → {n : ℕ} →
    figure_as st (as_judged day) earlier t root ≡ n → {marked : ℕ → Figure} → with_mark day n ≡ marked n → Worked st day earlier marked n
worked st day earlier t entries-are constants is none {n} same mark =
    let answered = stands_answered st (as_judged day) earlier none in
    let figure : figure_of st (as_judged day) earlier ≡ n = figure_as_lem st (as_judged day) earlier entries-are is ∙ same in
    record {
      answered = answered;
      told = answered_figure st day earlier answered ∙ ap Ok (ap (with_mark day) figure ∙ mark);
      bound = subst (WithinBound st (as_judged day) earlier) figure (within_bound st (as_judged day) earlier constants answered);
    }

-- the station of document 01's log, LIDW, with any wind limit; and with that of kind 1
abbrev limited : ℕ → Station
limited limit = lidw_with 76 100 497 limit

abbrev pub station : Station
station = limited routine_limit

pub constants : {limit : ℕ} → SignedConstants (limited limit)
constants =
    record {
      c1 = record { bounds = lit≤ tt };
      c2 = record { bounds = lit≤ tt };
      c3 = record { bounds = lit≤ tt };
      c4 = record { bounds = lit< tt };
      c5 = record { bounds = lit≤ tt };
    }

pub pressure : 954_675 ≡ pressure_at 497
unfolding power_test upper lower tenth_up tenth_down
pressure = pressure_is 497 954_675 (lit≤ tt) tt

-- the log's day 12 of 2008: all temperatures 32 °F, no radiation, no wind, after two days of 20 °F
abbrev winter_day : Day
winter_day = record { year = 2008; d = 12; maximum = pos 320; minimum = pos 320; mean = pos 320; dewpoint = pos 320; radiation = pos 0; wind = pos 0 }

abbrev winter_means : Earlier
winter_means = record { one = Some (pos 200); two = Some (pos 200); three = None }

-- a day whose figure is above 0
abbrev pub summer_day : Day
summer_day = record { year = 2008; d = 180; maximum = pos 900; minimum = pos 550; mean = pos 720; dewpoint = pos 500; radiation = pos 7_000; wind = pos 1_000 }

abbrev pub summer_means : Earlier
summer_means = record { one = Some (pos 710); two = Some (pos 700); three = None }

-- the same after three means that differ: without one of them, or with one in another's place, the figure is another
abbrev three_means : Earlier
three_means = record { one = Some (pos 850); two = Some (pos 610); three = Some (pos 455) }

-- the summer day with 200 miles of wind, which is above every limit
abbrev windy_day : Day
windy_day = record { year = 2008; d = 180; maximum = pos 900; minimum = pos 550; mean = pos 720; dewpoint = pos 500; radiation = pos 7_000; wind = pos 2_000 }

-- the summer day without its dew point
abbrev no_dew_point : Day
no_dew_point = record { year = 2008; d = 180; maximum = pos 900; minimum = pos 550; mean = pos 720; dewpoint = negsuc 32_767; radiation = pos 7_000; wind = pos 1_000 }

-- the entries at the two days
abbrev winter_entries : ℕ → Entries
winter_entries p = record { albedo = pos 346_410_155; a1 = pos 260_157_000; aw = pos 400_630_537; bw = pos 7_000_957; p = pos p }

abbrev summer_entries : ℕ → Entries
summer_entries p = record { albedo = pos 230_572_314; a1 = pos 359_786_784; aw = pos 1_779_755_409; bw = pos 9_151_442; p = pos p }

entries : (entries_of station (as_judged winter_day) ≡ winter_entries 954_675) × (entries_of station (as_judged summer_day) ≡ summer_entries 954_675)
unfolding as_judged entries_of curve_at rounded arc_sum arc_sums sin_sum bell_sums exp_sum sum_to more
entries = (ap winter_entries (sym pressure), ap summer_entries (sym pressure))

pub roots : (sheet.r (sheet.e (pos 320)) ≡ pos 78_213_060) × (sheet.r (sheet.e (pos 500)) ≡ pos 110_868_765) × (sheet.r (sheet.e (pos 550)) ≡ pos 121_538_811)
unfolding sheet.U sheet.V2 sheet.V4 sheet.V8 sheet.e
roots = (
  root_at (pos 320) 6_117_282_850_000_000 78_213_060 refl (record { low = lit≤ tt; high = lit< tt }),
  root_at (pos 500) 12_291_883_230_000_000 110_868_765 refl (record { low = lit≤ tt; high = lit< tt }),
  root_at (pos 550) 14_771_682_580_000_000 121_538_811 refl (record { low = lit≤ tt; high = lit< tt }),
)

-- the two days, and the second after three means
abbrev Days : Type 0
Days = Worked station winter_day winter_means Measured 0 × Worked station summer_day summer_means Measured 3_518 × Worked station summer_day three_means Measured 3_356

-- the windy day with the limits 1,500, 1,200 and 1,000; at the last the figure is that of the summer day, whose wind run is 1,000
abbrev Limits : Type 0
Limits =
    Worked station windy_day summer_means Measured 3_925
    × Worked (limited 1_200) windy_day summer_means Measured 3_680
    × Worked (limited 1_000) windy_day summer_means Measured 3_518

-- the summer day without its dew point: with the minimum, 55 °F, in its place
abbrev Estimates : Type 0
Estimates = Worked station no_dew_point summer_means Estimated 3_347

all_worked : Days × Limits × Estimates
unfolding lacks_dew_point as_judged with_mark entries_of standing_of holds is_date year_length readings_of clear_of means_of earlier_of sheet.sum_of sheet.clear_sum sheet.Q sheet.above_twice_clear sheet.U sheet.V2 sheet.V4 sheet.V6 sheet.V7 sheet.V8 sheet.e sheet.D sheet.M sheet.g sheet.w1 sheet.w2 sheet.ρ sheet.K sheet.N sheet.fourth_power sheet.B sheet.emittance sheet.Rb sheet.S sheet.Rn sheet.soil_heat sheet.H sheet.counted_wind sheet.Wf sheet.«V» sheet.T sheet.drying sheet.A sheet.Figure
all_worked = (
  (
    worked station winter_day winter_means (winter_entries 954_675) entries.0 constants roots.0 refl refl refl,
    worked station summer_day summer_means (summer_entries 954_675) entries.1 constants roots.1 refl refl refl,
    worked station summer_day three_means (summer_entries 954_675) entries.1 constants roots.1 refl refl refl,
  ),
  (
    worked station windy_day summer_means (summer_entries 954_675) entries.1 constants roots.1 refl refl refl,
    worked (limited 1_200) windy_day summer_means (summer_entries 954_675) entries.1 constants roots.1 refl refl refl,
    worked (limited 1_000) windy_day summer_means (summer_entries 954_675) entries.1 constants roots.1 refl refl refl,
  ),
  worked station no_dew_point summer_means (summer_entries 954_675) entries.1 constants roots.2 refl refl refl,
)

pub days : Days
days = all_worked.0

pub limits : Limits
limits = all_worked.1

pub estimates : Estimates
estimates = all_worked.2
