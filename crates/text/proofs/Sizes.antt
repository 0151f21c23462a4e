-- How long the lines of some answers are, by how many there are of each kind (`lines_most_lem`): each one's own line, where it fits (`AllSmall`), 22 bytes for
-- a day, since a month's line has no more for each of its days, and 25 for a station's season. A block's totals are no larger than those of its days, each
-- with the largest figure (`total_most`). Assumes nothing.
use mathlib.Core.Path.{◌≡◌, ap, subst}
use mathlib.Core.Bool.{Bool, true, false, cond}
use mathlib.Core.List.{List, [], ◌∷◌, ◌++◌}
use mathlib.Core.Logic.{⊎_elim}
use Prim.Native.Nat.{ℕ, zero, suc, ◌+◌, ◌*◌, ◌-◌, ◌≤◌, ◌<◌}
use native.Mathlib.Nat.{eq-zero-or-pos}
use native.Mathlib.Omega.{arith}
use lib.Dec.{eqb}
use lib.ListN.{length, length-append}
use borrow.Author.Tests.{eqb-false}
use Rattle.std.specs.Prelude.{Ok, Err}
use Rattle.answers.specs.Answers.{Role, opens, of_day, beside, role_of}
use Rattle.answers.specs.declared.Answer.{Answer}
use Rattle.answers.proofs.Roles.{Count, count, count_append, Moderate}
use Rattle.day.specs.declared.Code.{Code}
use Rattle.day.specs.declared.Figure.TheVariants.{Measured, Estimated}
use Rattle.day.proofs.FigureLimit.{most_figure}
use Rattle.lines.proofs.Lengths.{month_line_of_log, month_line_of_day, season_line_of_log}
use Rattle.station_log.proofs.Longest.{most_days}
use Rattle.std.proofs.lemmas.Bool.{cond_both}
use Rattle.totals.specs.Months.{month_of, year_at, month_at, months}
use Rattle.totals.specs.Tally.{InMonthOrder}
use Rattle.totals.specs.Totals.{counted_in, none, one, plus, share_of, total_of, is_month, month_total, season_total, each_month}
use Rattle.totals.proofs.Shares.{together, season_is_months}
use Rattle.totals.specs.declared.tally.Total.{Total}
use Rattle.text.specs.Report.{line_of, answer_lines, month_text, season_text, about_block, own_from, own, block_lines, lines_of}
use Rattle.text.specs.Walk.{BlockOrdered, Ordered}
use Rattle.text.proofs.Blocks.{own_front}
use Rattle.text.proofs.Laws.{line_room, LineFits, Owed, owed}

-- ---- small answers

-- its line fits, and its figure is no larger than a figure can be
abbrev pub Small : Answer → Type 0
Small a = LineFits a × Moderate a

abbrev pub AllSmall : List Answer → Type 0
AllSmall [] = Unit {0}
AllSmall (a ∷ rest) = Small a × AllSmall rest

front_small : (l rest : List Answer) → AllSmall (l ++ rest) → AllSmall l
front_small [] rest h = tt
front_small (a ∷ l) rest h = (h.0, front_small l rest h.1)

pub rest_small : (before rest : List Answer) → AllSmall (before ++ rest) → AllSmall rest
rest_small [] rest h = h
rest_small (a ∷ before) rest h = rest_small before rest h.1

pub rest_fewer : (before rest : List Answer) → (count rest).days ≤ (count (before ++ rest)).days
rest_fewer before rest = omega (arith, ap (λ (c : Count). c.days) (count_append before rest))

-- a block's own are no more
pub own_small : (l : List Answer) → AllSmall l → AllSmall (own l)
own_small l h = let front = own_front l in front_small (own l) front.0 (subst AllSmall front.1 h)

pub own_fewer : (l : List Answer) → (count (own l)).days ≤ (count l).days
own_fewer l =
    let front = own_front l in
    omega (arith, ap (λ (l : List Answer). (count l).days) front.1, ap (λ (c : Count). c.days) (count_append (own l) front.0))

-- ---- totals

-- so many days at most, none with a figure above the largest
abbrev pub Bounded : ℕ → Total → Type 0
Bounded days t = (t.days ≤ days) × (t.sum ≤ most_figure * t.days)

-- an answer adds a day at most
module _ {few days : ℕ} (t : Total) (h : Bounded few t) where
  with_one : few < days → (b : Bool) {n : ℕ} → n ≤ most_figure → Bounded days (plus (cond b (one n) none) t)
  with_one more true small = (omega (arith, h.0), omega (arith, h.1, small))
  with_one more false small = (omega (arith, h.0), omega (arith, h.1))

  with_none : few ≤ days → Bounded days (plus none t)
  with_none more = (omega (arith, h.0), omega (arith, h.1))

pub total_most : (chosen : ℕ → ℕ → Bool) (l : List Answer) → AllSmall l → Bounded (count l).days (total_of chosen l)
total_most chosen [] h = (omega arith, omega arith)
total_most chosen (a ∷ rest) h = by (role_of a) (owed a h.0.1) (total_most chosen rest h.1)
  where
    by : (r : Role) → Owed r a → Bounded (count rest).days (total_of chosen rest)
        → Bounded (count (a ∷ rest)).days (plus (share_of chosen (counted_in r)) (total_of chosen rest))
    by (opens code) o most = with_none (total_of chosen rest) most (omega arith)
    by (of_day year d (Ok (Measured n))) o most = with_one (total_of chosen rest) most (omega (arith, o.1)) (chosen year (month_of year d)) o.0
    by (of_day year d (Ok (Estimated n))) o most = with_one (total_of chosen rest) most (omega (arith, o.1)) (chosen year (month_of year d)) o.0
    by (of_day year d (Err why)) o most = with_none (total_of chosen rest) most (omega arith)
    by beside o most = with_none (total_of chosen rest) most (omega arith)

-- ---- the lines of one block

module _ (code : Code) where
  answers_most : (l : List Answer) → AllSmall l → length (answer_lines code l) ≤ line_room (count l)
  answers_most [] h = omega arith
  answers_most (a ∷ rest) h = omega (arith, answers_most rest h.1, h.0.0 code, length-append (line_of code a) (answer_lines code rest))

  -- a month without a day, of one, and of more
  month_most : (k : ℕ) → k < months → (t : Total) → Bounded most_days t → length (month_text code (year_at k) (month_at k) t) ≤ 22 * t.days
  month_most k inside t h =
      cond_both (eqb t.days 0) _ _ (λ (l : List ℕ). length l ≤ 22 * t.days) (λ e. omega arith)
      (λ e.
      let some : t.days ≡ 0 → ⊥ = eqb-false t.days 0 e in
      ⊎_elim
      (λ (one-day : t.days - 1 ≡ 0).
      let line = month_line_of_day code (year_at k) (month_at k) t.days t.sum (omega (arith, inside)) (omega arith) (omega arith) (omega (arith, one-day, h.1)) in
      omega (arith, line, some))
      (λ (more : 0 < t.days - 1).
      let line = month_line_of_log code (year_at k) (month_at k) t.days t.sum (omega (arith, inside)) (omega arith) (omega (arith, h.0)) (omega (arith, h.0, h.1)) in
      omega (arith, line, more))
      (eq-zero-or-pos (t.days - 1)))

  months_most : (total : ℕ → ℕ → Total) → ((k : ℕ) → Bounded most_days (total (year_at k) (month_at k))) → (k : ℕ) → k ≤ months
      → length (each_month (month_text code) total k) ≤ 22 * (together total k).days
  unfolding each_month together
  months_most total small zero h = omega arith
  months_most total small (suc k) h =
      omega (
        arith,
        months_most total small k (omega (arith, h)),
        month_most k h (total (year_at k) (month_at k)) (small k),
        length-append (each_month (month_text code) total k) (month_text code (year_at k) (month_at k) (total (year_at k) (month_at k))),
      )

  about_most : (l : List Answer) → AllSmall l → InMonthOrder 0 l → (count l).days ≤ most_days → length (about_block code l) ≤ 22 * (count l).days + 25
  about_most l small ordered few =
      let season = total_most (λ year month. true) l small in
      omega (
        arith,
        length-append (each_month (month_text code) (month_total l) months) (season_text code (season_total l)),
        months_most (month_total l) (λ k. let m = total_most (is_month (year_at k) (month_at k)) l small in (omega (arith, m.0, few), m.1)) months (omega arith),
        ap (λ (t : Total). t.days) (season_is_months 0 l ordered),
        season.0,
        season_line_of_log code (season_total l).days (season_total l).sum (omega (arith, season.0, few)) (omega (arith, season.0, season.1, few)),
      )

-- ---- block after block

-- each one's own line, 22 bytes for a day in its month's line, and 25 for a station's season
abbrev pub weight : List Answer → ℕ
weight l = line_room (count l) + 22 * (count l).days + 25 * (count l).stations

pub lines_most_lem : (l : List Answer) → AllSmall l → Ordered l → (count l).days ≤ most_days → length (lines_of l) + weight (own l) ≤ weight l
lines_most_lem [] small ordered few = omega arith
lines_most_lem (a ∷ rest) small ordered few =
    by (role_of a) (owed a small.0.1) ordered.0 (lines_most_lem rest small.1 ordered.1 (omega (arith, few)))
  where
    by : (r : Role) → Owed r a → BlockOrdered r rest → length (lines_of rest) + weight (own rest) ≤ weight rest
        → length (block_lines r rest ++ lines_of rest) + weight (own_from r a (own rest)) ≤ weight (a ∷ rest)
    by (opens code) o in_order later =
        let small-own = own_small rest small.1 in
        omega (
          arith,
          later,
          o,
          answers_most code (own rest) small-own,
          about_most code (own rest) small-own in_order (omega (arith, own_fewer rest, few)),
          length-append (block_lines (opens code) rest) (lines_of rest),
          length-append (answer_lines code (own rest)) (about_block code (own rest)),
        )
    by (of_day year d v) o in_order later = omega (arith, later)
    by beside o in_order later = omega (arith, later)
