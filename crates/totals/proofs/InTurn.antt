-- A block's answers gone through in date order. What is said of each month when it ends, and of the season behind the last answer, is what is said of
-- every month of the calendar in date order, and then of the season (`said_in_turn`), where nothing is said of a month without a day.
-- Assumes nothing.
use mathlib.Core.Path.{◌≡◌, refl, sym, ap, ap₂, ◌∙◌}
use mathlib.Core.Bool.{Bool, true, false, not, cond}
use Rattle.std.specs.Prelude.{Option, Some, None}
use mathlib.Core.List.{List, [], ◌∷◌, ◌++◌, append_assoc, append-nil}
use Prim.Native.Nat.{ℕ, zero, suc, ◌≤◌, ◌<◌}
use native.Mathlib.Decide.{ℕ_discrete}
use native.Mathlib.Omega.{arith}
use Rattle.answers.specs.declared.Answer.{Answer}
use Rattle.totals.specs.Months.{year_at, month_at, months}
use Rattle.totals.specs.Tally.{begun, so_far, after, ended, month_number, Comes, reached, InMonthOrder}
use Rattle.totals.specs.Totals.{none, one, plus, counted_of, share_of, total_of, is_month, month_total, season_total, each_month}
use Rattle.totals.specs.declared.tally.Counted.{Counted}
use Rattle.totals.specs.declared.tally.Tally.{Tally}
use Rattle.totals.specs.declared.tally.Total.{Total}
use Rattle.totals.proofs.Shares.{plus_none, one_more, is_month_lem, not_month, its_month, no_other}

abbrev pub said : (ℕ → ℕ → Total → List ℕ) → (Total → List ℕ) → Tally → List Answer → List ℕ
said line last t [] = line t.year t.month t.total ++ last t.season
said line last t (a ∷ rest) = ended line t (counted_of a) ++ said line last (after t (counted_of a)) rest

abbrev total_at : List Answer → ℕ → Total
total_at answers k = month_total answers (year_at k) (month_at k)

-- Behind the answers `gone`, month number k is open: the tally has its total and the season's, and no later month has anything.
record Reached (gone : List Answer) (t : Tally) (k : ℕ) : Type 0 where
  year : t.year ≡ year_at k
  month : t.month ≡ month_at k
  total : t.total ≡ total_at gone k
  season : t.season ≡ season_total gone
  later : (j : ℕ) → k < j → total_at gone j ≡ none

module _ (line : ℕ → ℕ → Total → List ℕ) (last : Total → List ℕ) (blank : (year month : ℕ) → line year month none ≡ []) where
  -- ---- what is said of the first k months

  none_said : (f : ℕ → ℕ → Total) → each_month line f 0 ≡ []
  unfolding each_month
  none_said f = refl

  each_alike : (f g : ℕ → ℕ → Total) (k : ℕ) → ((j : ℕ) → j < k → f (year_at j) (month_at j) ≡ g (year_at j) (month_at j))
      → each_month line f k ≡ each_month line g k
  unfolding each_month
  each_alike f g zero same = refl
  each_alike f g (suc k) same =
      ap₂ ◌++◌ (each_alike f g k (λ j h. same j (omega (arith, h)))) (ap (line (year_at k) (month_at k)) (same k (omega arith)))

  -- nothing is said of months without a day
  each_skip : (f : ℕ → ℕ → Total) (k n : ℕ) → k ≤ n → ((j : ℕ) → k ≤ j → f (year_at j) (month_at j) ≡ none) → each_month line f n ≡ each_month line f k
  unfolding each_month
  each_skip f k zero h empty = let e : 0 ≡ k = omega (arith, h) in ap (each_month line f) e
  each_skip f k (suc n) h empty = by (ℕ_discrete k (suc n)) (each_skip f k n)
    where
      by : Dec (k ≡ suc n) → (k ≤ n → ((j : ℕ) → k ≤ j → f (year_at j) (month_at j) ≡ none) → each_month line f n ≡ each_month line f k)
          → each_month line f (suc n) ≡ each_month line f k
      by (yes e) rest = ap (each_month line f) (sym e)
      by (no f') rest =
          ap₂ ◌++◌ (rest (omega (arith, h, f')) empty)
          (ap (line (year_at n) (month_at n)) (empty n (omega (arith, h, f'))) ∙ blank (year_at n) (month_at n))
          ∙ append-nil (each_month line f k)

  -- the month that is open is said behind those before it
  module _ {gone : List Answer} {t : Tally} {k : ℕ} (r : Reached gone t k) where
    open_said : each_month line (month_total gone) k ++ line t.year t.month t.total ≡ each_month line (month_total gone) (suc k)
    unfolding each_month
    open_said = λ i. each_month line (month_total gone) k ++ line (r.year i) (r.month i) (r.total i)

    up_to : (n : ℕ) → k < n → each_month line (month_total gone) (suc k) ≡ each_month line (month_total gone) n
    up_to n h = sym (each_skip (month_total gone) (suc k) n h (λ j l. r.later j l))

  -- ---- one answer more

  record Stepped (gone on : List Answer) (t : Tally) (k : ℕ) (c : Option Counted) : Type 0 where
    lines : each_month line (month_total gone) k ++ ended line t c ≡ each_month line (month_total on) (reached k c)
    there : Reached on (after t c) (reached k c)

  module _ (gone on : List Answer) (t : Tally) (k : ℕ) (r : Reached gone t k) where
    stepped : (c : Option Counted) → ((chosen : ℕ → ℕ → Bool) → total_of chosen on ≡ plus (total_of chosen gone) (share_of chosen c)) → Comes k c → Stepped gone on t k c
    stepped None more comes =
        let same : (chosen : ℕ → ℕ → Bool) → total_of chosen gone ≡ total_of chosen on = λ chosen. sym (more chosen ∙ plus_none (total_of chosen gone)) in
        record {
          lines = append-nil (each_month line (month_total gone) k) ∙ each_alike (month_total gone) (month_total on) k (λ j h. same (is_month (year_at j) (month_at j)));
          there =
              record {
                year = r.year;
                month = r.month;
                total = r.total ∙ same (is_month (year_at k) (month_at k));
                season = r.season ∙ same (λ y m. true);
                later = λ j h. sym (same (is_month (year_at j) (month_at j))) ∙ r.later j h;
              };
        }
    stepped (Some c) more comes = by (ℕ_discrete k i)
      where
        i : ℕ
        i = month_number c.year c.month

        -- in its own month's total, and in no other's
        in_it : total_at on i ≡ plus (total_at gone i) (one c.n)
        in_it = more (is_month (year_at i) (month_at i)) ∙ ap (plus (total_at gone i)) (its_month k c comes)

        others : (j : ℕ) → (i ≡ j → ⊥) → total_at on j ≡ total_at gone j
        others j other =
            more (is_month (year_at j) (month_at j)) ∙ ap (plus (total_at gone j)) (no_other k c comes j other) ∙ plus_none (total_at gone j)

        alike : each_month line (month_total gone) i ≡ each_month line (month_total on) i
        alike = each_alike (month_total gone) (month_total on) i (λ j h. sym (others j (λ e. absurd (omega (arith, h, e)))))

        reach : (u : Total) → u ≡ total_at gone i → Reached on (record { year = c.year; month = c.month; total = plus u (one c.n); season = plus t.season (one c.n) }) i
        reach u e =
            record {
              year = sym comes.0;
              month = sym comes.1;
              total = ap (λ (v : Total). plus v (one c.n)) e ∙ sym in_it;
              season = ap (λ (v : Total). plus v (one c.n)) r.season ∙ sym (more (λ y m. true));
              later = λ j h. others j (λ f. absurd (omega (arith, h, f))) ∙ r.later j (omega (arith, h, comes.2));
            }

        -- of the month that is open or of a later one
        by : Dec (k ≡ i) → Stepped gone on t k (Some c)
        by (yes e) =
            let test : is_month t.year t.month c.year c.month ≡ true =
            (λ x. is_month ((r.year ∙ ap year_at e) x) ((r.month ∙ ap month_at e) x) c.year c.month) ∙ is_month_lem i comes.0 comes.1 in
            record {
              lines =
                  ap (λ (b : Bool). each_month line (month_total gone) k ++ cond (not b) (line t.year t.month t.total) []) test
                  ∙ append-nil (each_month line (month_total gone) k) ∙ ap (each_month line (month_total gone)) e ∙ alike;
              there = reach (so_far t c.year c.month) (ap (λ (b : Bool). cond b t.total none) test ∙ r.total ∙ ap (total_at gone) e);
            }
        by (no f) =
            let past : k < i = omega (arith, comes.2, f) in
            let test : is_month t.year t.month c.year c.month ≡ false =
            (λ x. is_month (r.year x) (r.month x) c.year c.month) ∙ not_month i k comes.0 comes.1 (λ e. f (sym e)) in
            record {
              lines =
                  ap (λ (b : Bool). each_month line (month_total gone) k ++ cond (not b) (line t.year t.month t.total) []) test
                  ∙ open_said r ∙ up_to r i past ∙ alike;
              there = reach (so_far t c.year c.month) (ap (λ (b : Bool). cond b t.total none) test ∙ sym (r.later i past));
            }

  -- ---- all of them

  abbrev Whole : List Answer → List ℕ
  Whole answers = each_month line (month_total answers) months ++ last (season_total answers)

  going : (left gone : List Answer) (t : Tally) (k : ℕ) → k < months → Reached gone t k → InMonthOrder k left
      → each_month line (month_total gone) k ++ said line last t left ≡ Whole (gone ++ left)
  going [] gone t k inside r ordered =
      sym (append_assoc (each_month line (month_total gone) k) (line t.year t.month t.total) (last t.season))
      ∙ ap₂ ◌++◌ (open_said r ∙ up_to r months inside) (ap last r.season)
      ∙ ap Whole (sym (append-nil gone))
  going (a ∷ left) gone t k inside r ordered =
      let c = counted_of a in
      let step = stepped gone (gone ++ a ∷ []) t k r c (λ chosen. one_more chosen gone a) ordered.0 in
      sym (append_assoc (each_month line (month_total gone) k) (ended line t c) (said line last (after t c) left))
      ∙ ap (λ (l : List ℕ). l ++ said line last (after t c) left) step.lines
      ∙ going left (gone ++ a ∷ []) (after t c) (reached k c) (still c ordered.0) step.there ordered.1
      ∙ ap Whole (append_assoc gone (a ∷ []) left)
    where
      still : (c : Option Counted) → Comes k c → reached k c < months
      still None h = inside
      still (Some c) h = h.3

  pub said_in_turn : (answers : List Answer) → InMonthOrder 0 answers → said line last begun answers ≡ Whole answers
  said_in_turn answers ordered =
      sym (ap (λ (l : List ℕ). l ++ said line last begun answers) (none_said (month_total [])))
      ∙ going answers [] begun 0 (omega arith)
      (record { year = omega arith; month = omega arith; total = refl; season = refl; later = λ j h. refl }) ordered
