-- The five tables as functions that compute, with no table in them: a partial sum far enough out, rounded; and the first whole number that is not
-- too small. A reader need not believe them: the rules of Tables.antt say what an entry is, and each lookup's contract shows that its
-- entry is both. Assumes nothing.
use Rattle.std.specs.Prelude.{Bool, cond, ℕ, zero, suc, ◌+◌, ◌*◌, ◌-◌, ◌^◌, ◌/◌, ◌%◌, ltb}

-- ---- partial sums over whole numbers

-- (plus - minus) / over, the terms with + and those with - summed apart; and the last term, term / over
pub record Sum : Type 0 where
  pub plus : ℕ
  pub minus : ℕ
  pub term : ℕ
  pub over : ℕ

-- how often the term of the place k is added, and taken off: once, by turns
abbrev pub added : ℕ → ℕ
added k = suc k % 2

abbrev pub taken : ℕ → ℕ
taken k = k % 2

-- the sum with one term more, that of the place k, which is up / down times the last one
unfoldable pub more : ℕ → ℕ → ℕ → Sum → Sum
more k up down s =
    let t : ℕ = s.term * up in
    record { plus = s.plus * down + added k * t; minus = s.minus * down + taken k * t; term = t; over = s.over * down }

-- the sum to the place n
unfoldable pub sum_to : Sum → ℕ → (ℕ → ℕ) → ℕ → Sum
sum_to start up down zero = start
sum_to start up down (suc n) = more (suc n) up (down n) (sum_to start up down n)

-- 1 - x + x²/2! - .. ± xⁿ/n!, x = u/v
unfoldable pub exp_sum : ℕ → ℕ → ℕ → Sum
exp_sum u v = sum_to (record { plus = 1; minus = 0; term = 1; over = 1 }) u (λ n. v * suc n)

-- x - x³/3! + .. ± xᵐ/m!, m = 2n + 1, x = u/v
unfoldable pub sin_sum : ℕ → ℕ → ℕ → Sum
sin_sum u v =
    sum_to (record { plus = u; minus = 0; term = u; over = v }) (u * u) (λ n. v * suc (2 * n + 1) * (v * suc (suc (2 * n + 1))))

-- ---- the four tables of days, in billionths

-- what is added, and what is taken off, is at least that of low and at most that of high
pub record Enclosure : Type 0 where
  pub low : Sum
  pub high : Sum

-- base + scale · s, where `sums d n` encloses the sum of the series s to the place n; `place` is one far enough out
pub record Curve : Type 0 where
  pub base : ℕ
  pub scale : ℕ
  pub place : ℕ
  pub sums : ℕ → ℕ → Enclosure

-- the whole number nearest to base + scale · s, halves up
unfoldable pub rounded : ℕ → ℕ → Sum → ℕ
rounded base scale s = ((2 * base + 1) * s.over + 2 * scale * s.plus - 2 * scale * s.minus) / (2 * s.over)

-- the table's value at the day d
unfoldable pub curve_at : Curve → ℕ → ℕ
curve_at c d = rounded c.base c.scale (c.sums d c.place).low

-- sin(d + 97.92 degrees) for π = p/q: the angle is (100d + 9,792) p / (18,000 q)
unfoldable pub arc_sum : ℕ → ℕ → ℕ → ℕ → Sum
arc_sum p q d = sin_sum ((100 * d + 9792) * p) (18000 * q)

-- at π's lower bound, and at its upper
unfoldable pub arc_sums : ℕ → ℕ → Enclosure
arc_sums d n =
    record { low = arc_sum 314159265358979 100000000000000 d n; high = arc_sum 314159265358980 100000000000000 d n }

abbrev pub albedo_curve : Curve
albedo_curve = record { base = 290000000; scale = 60000000; place = 20; sums = arc_sums }

abbrev pub albedo_at : ℕ → ℕ
albedo_at = curve_at albedo_curve

-- how far two numbers are apart
abbrev pub apart : ℕ → ℕ → ℕ
apart a b = (a - b) + (b - a)

-- base + scale · exp(-(num/den · (d - centre))²)
pub record Bell : Type 0 where
  pub base : ℕ
  pub scale : ℕ
  pub num : ℕ
  pub den : ℕ
  pub centre : ℕ
  pub place : ℕ

-- both bounds are the sum itself
abbrev pub exactly : Sum → Enclosure
exactly s = record { low = s; high = s }

unfoldable pub bell_sums : Bell → ℕ → ℕ → Enclosure
bell_sums b d n = exactly (exp_sum ((b.num * apart d b.centre) ^ 2) (b.den ^ 2) n)

abbrev pub bell_curve : Bell → Curve
bell_curve b = record { base = b.base; scale = b.scale; place = b.place; sums = bell_sums b }

abbrev pub a1_bell : Bell
a1_bell = record { base = 260000000; scale = 100000000; num = 154; den = 10000; centre = 177; place = 44 }

abbrev pub aw_bell : Bell
aw_bell = record { base = 400000000; scale = 1400000000; num = 1; den = 58; centre = 173; place = 56 }

abbrev pub bw_bell : Bell
bw_bell = record { base = 7000000; scale = 4000000; num = 1; den = 80; centre = 243; place = 44 }

abbrev pub a1_at : ℕ → ℕ
a1_at = curve_at (bell_curve a1_bell)

abbrev pub aw_at : ℕ → ℕ
aw_at = curve_at (bell_curve aw_bell)

abbrev pub bw_at : ℕ → ℕ
bw_at = curve_at (bell_curve bw_bell)

-- ---- the pressure, in tenths of a pascal

-- the first number from k on, and below k + n, at which f is true
unfoldable pub first : (ℕ → Bool) → ℕ → ℕ → ℕ
first f zero k = k
first f (suc n) k = cond (f k) k (first f n (suc k))

-- the ratio (576,000 - 13e)/576,000
abbrev pub ratio_numerator : ℕ → ℕ
ratio_numerator e = 576000 - 13 * e

abbrev pub ratio_denominator : ℕ
ratio_denominator = 576000

-- the pressure at the ratio 1
abbrev pub sea_level : ℕ
sea_level = 1013000

-- the first r with seaLevel · ratio^5.257 < r + ½, by the thousandth powers of both sides
unfoldable pub pressure_at : ℕ → ℕ
pressure_at e =
    first (λ (r : ℕ). ltb (ratio_numerator e ^ 5257 * (2 * sea_level) ^ 1000) ((2 * r + 1) ^ 1000 * ratio_denominator ^ 5257)) (suc sea_level) 0
