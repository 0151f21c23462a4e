-- Totals added together, and what an answer has in the total of each month: all of its own in that of its month and nothing in the others (`its_month`,
-- `no_other`). So the months' totals added up are the season's (`season_is_months`). Assumes nothing.
use mathlib.Core.Path.{◌≡◌, refl, sym, ap, ap₂, ◌∙◌}
use mathlib.Core.Bool.{Bool, true, false, cond, ◌&&◌, and-false}
use Rattle.std.specs.Prelude.{Option, Some, None}
use mathlib.Core.List.{List, [], ◌∷◌, ◌++◌}
use Prim.Native.Nat.{ℕ, zero, suc, ◌≤◌, ◌<◌}
use native.Mathlib.Decide.{ℕ_discrete}
use native.Mathlib.Omega.{arith}
use lib.Dec.{eqb}
use borrow.Author.Tests.{eq-eqb, ne_eqb}
use Rattle.answers.specs.declared.Answer.{Answer}
use Rattle.totals.specs.Months.{year_at, month_at, months}
use Rattle.totals.specs.Tally.{month_number, reached, Comes, InMonthOrder}
use Rattle.totals.specs.Totals.{none, one, plus, counted_of, share_of, total_of, is_month, month_total, season_total}
use Rattle.totals.specs.declared.tally.Counted.{Counted}
use Rattle.totals.specs.declared.tally.Total.{Total}

-- the first k months together
unfoldable pub together : (ℕ → ℕ → Total) → ℕ → Total
together total zero = none
together total (suc k) = plus (together total k) (total (year_at k) (month_at k))

-- ---- totals together

same_total : {t u : Total} → t.days ≡ u.days → t.sum ≡ u.sum → t ≡ u
same_total p q = λ i. record { days = p i; sum = q i }

pub plus_none : (t : Total) → plus t none ≡ t
plus_none t = same_total (omega arith) (omega arith)

pub none_plus : (t : Total) → plus none t ≡ t
none_plus t = same_total (omega arith) (omega arith)

plus_assoc : (t u v : Total) → plus (plus t u) v ≡ plus t (plus u v)
plus_assoc t u v = same_total (omega arith) (omega arith)

plus_across : (t u v w : Total) → plus (plus t u) (plus v w) ≡ plus (plus t v) (plus u w)
plus_across t u v w = same_total (omega arith) (omega arith)

-- the total with an answer more
pub one_more : (chosen : ℕ → ℕ → Bool) (before : List Answer) (a : Answer)
    → total_of chosen (before ++ a ∷ []) ≡ plus (total_of chosen before) (share_of chosen (counted_of a))
one_more chosen [] a = plus_none (share_of chosen (counted_of a)) ∙ sym (none_plus (share_of chosen (counted_of a)))
one_more chosen (b ∷ before) a =
    ap (plus (share_of chosen (counted_of b))) (one_more chosen before a)
    ∙ sym (plus_assoc (share_of chosen (counted_of b)) (total_of chosen before) (share_of chosen (counted_of a)))

-- ---- the share of a month

abbrev pub share_at : Option Counted → ℕ → ℕ → Total
share_at c year month = share_of (is_month year month) c

pub same_month : (year month : ℕ) → is_month year month year month ≡ true
same_month year month = ap₂ ◌&&◌ (eq-eqb year year refl) (eq-eqb month month refl)

pub other_month : (y m year month : ℕ) → ((y ≡ year) × (m ≡ month) → ⊥) → is_month y m year month ≡ false
other_month y m year month other = by (ℕ_discrete year y)
  where
    by : Dec (year ≡ y) → is_month y m year month ≡ false
    by (no f) = ap (λ (b : Bool). b && eqb month m) (ne_eqb year y f)
    by (yes e) = ap (λ (b : Bool). eqb year y && b) (ne_eqb month m (λ f. other (sym e, sym f))) ∙ and-false (eqb year y)

-- a month's number is that of its own year and month alone
pub is_month_lem : (i : ℕ) {year month : ℕ} → year_at i ≡ year → month_at i ≡ month → is_month (year_at i) (month_at i) year month ≡ true
is_month_lem i {year} {month} y m = (λ x. is_month (y x) (m x) year month) ∙ same_month year month

pub not_month : (i j : ℕ) {year month : ℕ} → year_at i ≡ year → month_at i ≡ month → (i ≡ j → ⊥) → is_month (year_at j) (month_at j) year month ≡ false
not_month i j {year} {month} y m other = other_month (year_at j) (month_at j) year month (λ e. other (omega (arith, y, m, e.0, e.1)))

module _ (k : ℕ) (c : Counted) (comes : Comes k (Some c)) where
  abbrev i : ℕ
  i = month_number c.year c.month

  pub its_month : share_at (Some c) (year_at i) (month_at i) ≡ one c.n
  its_month = ap (λ (b : Bool). cond b (one c.n) none) (is_month_lem i comes.0 comes.1)

  pub no_other : (j : ℕ) → (i ≡ j → ⊥) → share_at (Some c) (year_at j) (month_at j) ≡ none
  no_other j other = ap (λ (b : Bool). cond b (one c.n) none) (not_month i j comes.0 comes.1 other)

-- ---- all the months

none_added : (k : ℕ) → together (λ year month. none) k ≡ none
unfolding together
none_added zero = refl
none_added (suc k) = ap (λ (t : Total). plus t none) (none_added k) ∙ plus_none none

added_plus : (f g : ℕ → ℕ → Total) (k : ℕ) → together (λ year month. plus (f year month) (g year month)) k ≡ plus (together f k) (together g k)
unfolding together
added_plus f g zero = sym (plus_none none)
added_plus f g (suc k) =
    ap (λ (t : Total). plus t (plus (f (year_at k) (month_at k)) (g (year_at k) (month_at k)))) (added_plus f g k)
    ∙ plus_across (together f k) (together g k) (f (year_at k) (month_at k)) (g (year_at k) (month_at k))

-- an answer's shares of the first k months: nothing before its own month, and from there on its own
module _ (k : ℕ) (c : Counted) (comes : Comes k (Some c)) where
  before_it : (j : ℕ) → j ≤ month_number c.year c.month → together (share_at (Some c)) j ≡ none
  unfolding together
  before_it zero h = refl
  before_it (suc j) h =
      ap₂ plus (before_it j (omega (arith, h))) (no_other k c comes j (λ e. absurd (omega (arith, h, e)))) ∙ plus_none none

  from_it : (j : ℕ) → month_number c.year c.month < j → together (share_at (Some c)) j ≡ one c.n
  unfolding together
  from_it zero h = absurd (omega (arith, h))
  from_it (suc j) h = by (ℕ_discrete (month_number c.year c.month) j) (from_it j)
    where
      by : Dec (month_number c.year c.month ≡ j) → (month_number c.year c.month < j → together (share_at (Some c)) j ≡ one c.n)
          → together (share_at (Some c)) (suc j) ≡ one c.n
      by (yes e) rest =
          ap₂ plus (before_it j (omega (arith, e)))
          (ap (λ (m : ℕ). share_at (Some c) (year_at m) (month_at m)) (sym e) ∙ its_month k c comes) ∙ none_plus (one c.n)
      by (no f) rest = ap₂ plus (rest (omega (arith, h, f))) (no_other k c comes j f) ∙ plus_none (one c.n)

shares_added : (k : ℕ) (c : Option Counted) → Comes k c → together (share_at c) months ≡ share_of (λ year month. true) c
shares_added k None h = none_added months
shares_added k (Some c) h = from_it k c h months h.3

pub season_is_months : (k : ℕ) (answers : List Answer) → InMonthOrder k answers → together (month_total answers) months ≡ season_total answers
season_is_months k [] h = none_added months
season_is_months k (a ∷ rest) h =
    added_plus (share_at (counted_of a)) (month_total rest) months
    ∙ ap₂ plus (shares_added k (counted_of a) h.0) (season_is_months (reached k (counted_of a)) rest h.1)
