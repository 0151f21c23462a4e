-- What is owed of a report's totals is met by every log (`totals_owed`). Assumes nothing.
use mathlib.Core.Path.{◌≡◌, sym, ap, ◌∙◌, subst, subst₂}
use mathlib.Core.Bool.{Bool, true, cond}
use Rattle.std.specs.Prelude.{Some, Ok}
use mathlib.Core.List.{List, [], ◌∷◌, ◌++◌, append_assoc}
use mathlib.Core.Logic.{◌⊎◌, ⊎_elim}
use Prim.Native.Nat.{ℕ}
use Rattle.answers.specs.Answers.{role_of}
use Rattle.answers.specs.declared.Answer.{Answer}
use Rattle.answers.specs.declared.Answer.TheVariants as answer
use Rattle.day.specs.Calendar.{is_date}
use Rattle.day.specs.declared.Code.{Code}
use Rattle.day.specs.Judgement.{Verdict}
use Rattle.day.specs.declared.Figure.TheVariants.{Measured, Estimated}
use Rattle.station_log.proofs.DateOrder.{InDateOrder, in_date_order}
use Rattle.station_log.specs.Log.{answers_to}
use Rattle.totals.specs.Months.{month_of}
use Rattle.totals.specs.Tally.{month_number, InMonthOrder}
use Rattle.totals.specs.Totals.{none, one, counted_of, share_of, is_month}
use Rattle.totals.proofs.Calendar.{in_one_month}
use Rattle.totals.proofs.Shares.{season_is_months, same_month, other_month}
use Rattle.text.specs.Report.{answer_lines, about_block, own, block_lines, lines_of}
use Rattle.text.proofs.TotalsOwed.{BlockOf, AnsweredIn, CountsOnce, TotalsOwed}
use Rattle.text.specs.Walk.{Ordered}
use Rattle.text.proofs.Blocks.{own_front}
use Rattle.text.proofs.DateOrder.{answers_ordered, date_listed, rest_in_order}

-- ---- where a block's totals stand

abbrev Behind : List ℕ → Code → List Answer → Type 0
Behind lines code answers = (front back : List ℕ) × (lines ≡ front ++ (answer_lines code answers ++ (about_block code answers ++ back)))

behind : (before rest : List Answer) (code : Code) → Behind (lines_of (before ++ answer.Station code ∷ rest)) code (own rest)
behind [] rest code = ([], lines_of rest, append_assoc (answer_lines code (own rest)) (about_block code (own rest)) (lines_of rest))
behind (a ∷ before) rest code =
    let later = behind before rest code in
    let first = block_lines (role_of a) (before ++ answer.Station code ∷ rest) in
    let block = answer_lines code (own rest) ++ (about_block code (own rest) ++ later.1) in
    (first ++ later.0, later.1, ap (λ (l : List ℕ). first ++ l) later.2 ∙ sym (append_assoc first later.0 block))

block_ordered : (before rest : List Answer) (code : Code) → Ordered (before ++ answer.Station code ∷ rest) → InMonthOrder 0 (own rest)
block_ordered [] rest code h = h.0
block_ordered (a ∷ before) rest code h = block_ordered before rest code h.1

-- ---- an answered day

module _ (year d : ℕ) (v : Verdict) (n : ℕ) (kind : (v ≡ Ok (Measured n)) ⊎ (v ≡ Ok (Estimated n))) where
  counted : counted_of (answer.Day year d v) ≡ Some (record { year = year; month = month_of year d; n = n })
  counted =
      ⊎_elim (λ (e : v ≡ Ok (Measured n)). ap (λ (w : Verdict). counted_of (answer.Day year d w)) e)
      (λ (e : v ≡ Ok (Estimated n)). ap (λ (w : Verdict). counted_of (answer.Day year d w)) e) kind

  first_dated : (last : ℕ) (rest : List Answer) → InDateOrder last (answer.Day year d v ∷ rest) → is_date year d ≡ true
  first_dated last rest h =
      ⊎_elim (λ (e : v ≡ Ok (Measured n)). (subst (λ (w : Verdict). InDateOrder last (answer.Day year d w ∷ rest)) e h).0.0)
      (λ (e : v ≡ Ok (Estimated n)). (subst (λ (w : Verdict). InDateOrder last (answer.Day year d w ∷ rest)) e h).0.0) kind

  dated : (last : ℕ) (before rest : List Answer) → InDateOrder last (before ++ answer.Day year d v ∷ rest) → is_date year d ≡ true
  dated last [] rest h = first_dated last rest h
  dated last (a ∷ before) rest h = let later = rest_in_order last a (before ++ answer.Day year d v ∷ rest) h in dated later.0 before rest later.1

  counts_once : is_date year d ≡ true → CountsOnce year d v n
  counts_once date =
      let month = month_of year d in
      let listed = date_listed year d date in
      record {
        month = month;
        calendar = (in_one_month year d date).0;
        listed = (month_number year month, listed.2, listed.0, listed.1);
        its_own = ap (share_of (is_month year month)) counted ∙ ap (λ (b : Bool). cond b (one n) none) (same_month year month);
        no_other = λ y m other. ap (share_of (is_month y m)) counted ∙ ap (λ (b : Bool). cond b (one n) none) (other_month y m year month other);
      }

module _ {s : List ℕ} {code : Code} {answers : List Answer} (b : BlockOf s code answers) {year d : ℕ} {v : Verdict} {n : ℕ} (a : AnsweredIn answers year d v n) where
  abbrev beyond : List Answer
  beyond = (own_front b.rest).0

  -- all the answers, about this day
  about : answers_to s ≡ (b.before ++ answer.Station code ∷ a.before) ++ answer.Day year d v ∷ (a.rest ++ beyond)
  about =
      b.stands ∙ ap (λ (l : List Answer). b.before ++ answer.Station code ∷ l)
      ((own_front b.rest).1 ∙ ap (λ (l : List Answer). l ++ beyond) (sym b.its ∙ a.stands) ∙ append_assoc a.before (answer.Day year d v ∷ a.rest) beyond)
      ∙ sym (append_assoc b.before (answer.Station code ∷ a.before) (answer.Day year d v ∷ (a.rest ++ beyond)))

  date : is_date year d ≡ true
  date = dated year d v n a.kind 0 (b.before ++ answer.Station code ∷ a.before) (a.rest ++ beyond) (subst (InDateOrder 0) about (in_date_order s))

-- ---- the theorem

pub totals_owed : (s : List ℕ) → TotalsOwed s
unfolding TotalsOwed
totals_owed s code answers b =
    record {
      stand = subst₂ (λ (all block : List Answer). Behind (lines_of all) code block) (sym b.stands) (sym b.its) (behind b.before b.rest code);
      once = λ year d v n a. counts_once year d v n a.kind (date b a);
      season =
          season_is_months 0 answers
          (subst (InMonthOrder 0) (sym b.its) (block_ordered b.before b.rest code (subst Ordered b.stands (answers_ordered s))));
    }
