-- The answers to a log have the months of each block in date order, since the dates of a block's answered days are (`answers_ordered`). Assumes nothing.
use mathlib.Core.Path.{◌≡◌, refl, sym, ap, subst}
use mathlib.Core.Bool.{true}
use Rattle.std.specs.Prelude.{Some, Ok, Err}
use mathlib.Core.List.{List, [], ◌∷◌}
use mathlib.Core.Logic.{⊎_elim}
use Prim.Native.Nat.{ℕ, ◌≤◌, ◌<◌}
use native.Mathlib.Omega.{arith}
use Rattle.answers.specs.Answers.{Role, opens, of_day, beside, role_of}
use Rattle.answers.specs.declared.Answer.{Answer}
use Rattle.day.specs.Calendar.{is_date}
use Rattle.day.specs.declared.Figure.TheVariants.{Measured, Estimated}
use Rattle.station_log.proofs.DateOrder.{Next, FirstInOrder, InDateOrder, in_date_order, by_number}
use Rattle.station_log.specs.History.{day_number}
use Rattle.station_log.specs.Log.{answers_to}
use Rattle.day.proofs.Dates.{date_tells}
use Rattle.totals.specs.Months.{month_of, year_at, month_at, months}
use Rattle.totals.specs.Tally.{month_number, Comes, InMonthOrder}
use Rattle.totals.proofs.Calendar.{month_range, months_ascend}
use Rattle.text.specs.Report.{own_from, own}
use Rattle.text.specs.Walk.{BlockOrdered, Ordered}

abbrev month_after : ℕ → ℕ → ℕ
month_after year d = month_number year (month_of year d)

-- no date behind the day of the number `last` is in an earlier month than the one of number k
NotBefore : ℕ → ℕ → Type 0
NotBefore k last = (year d : ℕ) → Next last year d → k ≤ month_after year d

from_the_first : NotBefore 0 0
unfolding NotBefore
from_the_first year d n = omega arith

from_a_date : (year d : ℕ) → is_date year d ≡ true → NotBefore (month_after year d) (day_number year d)
unfolding NotBefore
from_a_date year d date year' d' n =
    ⊎_elim (λ (later : year < year'). omega (arith, later, date_tells year d date, month_range year d date, month_range year' d' n.0))
    (λ (same : (year ≡ year') × (d < d')).
    let there = subst (λ (y : ℕ). is_date y d' ≡ true) (sym same.0) n.0 in
    omega (arith, same.0, ap (λ (y : ℕ). month_of y d') same.0, months_ascend year d d' date there (omega (arith, same.1))))
    (by_number year d year' d' date n.0 n.1)

-- a date's month has its number, and it is one of the calendar's
pub date_listed : (year d : ℕ) → is_date year d ≡ true → let i : ℕ = month_after year d in (year_at i ≡ year) × (month_at i ≡ month_of year d) × (i < months)
date_listed year d date =
    let told = date_tells year d date in
    let month = month_range year d date in
    (omega (arith, told, month), omega (arith, told, month), omega (arith, told, month))

comes : (k last year d n : ℕ) → NotBefore k last → Next last year d → Comes k (Some (record { year = year; month = month_of year d; n = n }))
unfolding NotBefore
comes k last year d n behind next =
    let listed = date_listed year d next.0 in (listed.0, listed.1, behind year d next, listed.2)

own_ordered : (k last : ℕ) (l : List Answer) → NotBefore k last → InDateOrder last l → InMonthOrder k (own l)
own_ordered k last [] b h = tt
own_ordered k last (a ∷ rest) b h = by (role_of a) refl h (λ (j next : ℕ). own_ordered j next rest)
  where
    by : (r : Role) → role_of a ≡ r → FirstInOrder last r (λ next. InDateOrder next rest)
        → ((j next : ℕ) → NotBefore j next → InDateOrder next rest → InMonthOrder j (own rest)) → InMonthOrder k (own_from r a (own rest))
    by (opens code) e h later = tt
    by (of_day year d (Ok (Measured n))) e h later =
        rw e (comes k last year d n b h.0, later (month_after year d) (day_number year d) (from_a_date year d h.0.0) h.1)
    by (of_day year d (Err why)) e h later = rw e (tt, later k last b h)
    by (of_day year d (Ok (Estimated n))) e h later =
        rw e (comes k last year d n b h.0, later (month_after year d) (day_number year d) (from_a_date year d h.0.0) h.1)
    by beside e h later = rw e (tt, later k last b h)

-- what is behind the first of some answers is in order too, behind some day
pub rest_in_order : (last : ℕ) (a : Answer) (rest : List Answer) → InDateOrder last (a ∷ rest) → (next : ℕ) × InDateOrder next rest
rest_in_order last a rest = by (role_of a)
  where
    by : (r : Role) → FirstInOrder last r (λ next. InDateOrder next rest) → (next : ℕ) × InDateOrder next rest
    by (opens code) h = (0, h)
    by (of_day year d (Ok (Measured n))) h = (day_number year d, h.1)
    by (of_day year d (Ok (Estimated n))) h = (day_number year d, h.1)
    by (of_day year d (Err why)) h = (last, h)
    by beside h = (last, h)

ordered : (last : ℕ) (l : List Answer) → InDateOrder last l → Ordered l
ordered last [] h = tt
ordered last (a ∷ rest) h = let later = rest_in_order last a rest h in (by (role_of a) h, ordered later.0 rest later.1)
  where
    by : (r : Role) → FirstInOrder last r (λ next. InDateOrder next rest) → BlockOrdered r rest
    by (opens code) h = own_ordered 0 0 rest from_the_first h
    by (of_day year d v) h = tt
    by beside h = tt

pub answers_ordered : (s : List ℕ) → Ordered (answers_to s)
answers_ordered s = ordered 0 (answers_to s) (in_date_order s)
