-- What has become of a log's outcome and of its answer buffer since the minimum stands for a missing dew point (02, W4). The theorem is `since`.
-- Assumes nothing.
use mathlib.Core.Bool.{Bool, true, false, cond}
use mathlib.Core.List.{List, [], ◌∷◌, ◌++◌, append_assoc}
use mathlib.Core.Logic.{◌≢◌}
use mathlib.Core.Path.{◌≡◌, refl, sym, ap, ◌∙◌}
use Prim.Native.Nat.{ℕ, ◌+◌, ◌*◌, ◌≤◌, ◌<◌}
use native.Mathlib.Omega.{arith}
use borrow.Author.Tests.{ltb-true, ltb-false, lt-ltb, le-ltb}
use lib.Dec.{ltb}
use lib.ListN.{length, take, drop}
use Rattle.answers.specs.Answers.{bytes_of}
use Rattle.answers.specs.declared.Answer.{Answer}
use Rattle.answers.proofs.Bytes.{bytes_append, bytes_longer}
use Rattle.station_log.specs.Log.{Entry, unopened, past_all, answers_of, answers_at_end, all_answers, answers_in, Reading, refused, accepted, reading_of, fitted, settled, longest, outcome_of, leaves, buffer_after}
use Rattle.station_log.specs.Parts.{entries_of}
use Rattle.std.specs.Prelude.{Ok, Err}
use Rattle.station_log.specs.Log.{number_of_fault, Outcome, refusal}
use Rattle.promises.proofs.AnswersSince.{answers_stay, substituted, all_longer, all_stay}
use Rattle.promises.proofs.RecordPlaces.{part_at, own_answers}
use Rattle.promises.proofs.WithoutSubstitute.{answers_strictly, of_records, all_strictly, settled_strictly, outcome_strictly, buffer_strictly, AllStay, added_to, Places, Since}
use Rattle.station_log.specs.declared.Fault.{Fault}
use Rattle.station_log.specs.declared.Refused.{Refused}
use Rattle.station_log.specs.declared.Fault.TheVariants.{TooLong, ShortBuffer}

-- ---- what the office hands back

impossible : {A : Type 0} {r : Refused} {n : ℕ} → ◌≡◌ {A = Outcome} (Err r) (Ok n) → A
impossible e = let z : ◌≡◌ {A = ℕ} 0 1 = cc in absurd (omega arith)

abbrev length_in : Outcome → ℕ
length_in (Ok n) = n
length_in (Err r) = 0

abbrev place_in : Outcome → ℕ
place_in (Ok n) = 0
place_in (Err r) = r.place

-- the refusal, or some other where there is none
abbrev fault_in : Outcome → Fault
fault_in (Ok n) = TooLong
fault_in (Err r) = r.why

fits : (size n : ℕ) → n ≤ size → fitted size n ≡ Ok n
fits size n enough = ap (λ (b : Bool). cond b (refusal ShortBuffer n) (Ok n)) (le-ltb size n enough)

too_short : (size n : ℕ) → size < n → fitted size n ≡ refusal ShortBuffer n
too_short size n less = ap (λ (b : Bool). cond b (refusal ShortBuffer n) (Ok n)) (lt-ltb size n less)

fitted_length : (size n : ℕ) {m : ℕ} → fitted size n ≡ Ok m → (n ≤ size) × (n ≡ m)
fitted_length size n {m} told = by (ltb size n) refl told
  where
    by : (b : Bool) → ltb size n ≡ b → cond b (refusal ShortBuffer n) (Ok n) ≡ Ok m → (n ≤ size) × (n ≡ m)
    by true e told = impossible told
    by false e told = (ltb-false size n e, ap length_in told)

fitted_short : (size n : ℕ) {m : ℕ} → fitted size n ≡ refusal ShortBuffer m → (size < n) × (n ≡ m)
fitted_short size n {m} told = by (ltb size n) refl told
  where
    by : (b : Bool) → ltb size n ≡ b → cond b (refusal ShortBuffer n) (Ok n) ≡ refusal ShortBuffer m → (size < n) × (n ≡ m)
    by true e told = (ltb-true size n e, ap place_in told)
    by false e told = impossible (sym told)

-- so much more is needed than was
needs_more : (es : List Entry) → length (bytes_of (all_answers es)) ≡ length (bytes_of (all_strictly es)) + 9 * added_to es
needs_more es =
    let end = answers_at_end (past_all unopened es) in
    omega (arith, all_longer es, bytes_longer (answers_of es) end, bytes_longer (of_records es) end)

-- all that was answered, about one record
answers_about : (before later : List Entry) (e : Entry)
    → all_strictly (before ++ (e ∷ later)) ≡ of_records before ++ (answers_strictly e ++ (of_records later ++ answers_at_end (past_all unopened (before ++ (e ∷ later)))))
answers_about before later e =
    ap (λ (l : List Answer). l ++ answers_at_end (past_all unopened (before ++ (e ∷ later)))) (two_lists before (e ∷ later)) ∙ simp append_assoc
  where
    two_lists : (es fs : List Entry) → of_records (es ++ fs) ≡ of_records es ++ of_records fs
    two_lists [] fs = refl
    two_lists (g ∷ es) fs = ap (λ (l : List Answer). answers_strictly g ++ l) (two_lists es fs) ∙ sym (append_assoc (answers_strictly g) (of_records es) (of_records fs))

module _ (s : List ℕ) where
  abbrev unless_long : Bool → Outcome → Outcome
  unless_long long o = cond long (refusal TooLong 0) o

  refusals : (size : ℕ) (k : Fault) (at : ℕ) → k ≢ ShortBuffer → outcome_strictly s size ≡ refusal k at → outcome_of s size ≡ refusal k at
  unfolding outcome_strictly outcome_of
  refusals size k at other = by (ltb longest (length s)) (reading_of s)
    where
      not_so : (n : ℕ) {o : Outcome} → fitted size n ≡ refusal k at → o ≡ refusal k at
      not_so n {o} told = by_test (ltb size n) told
        where
          by_test : (b : Bool) → cond b (refusal ShortBuffer n) (Ok n) ≡ refusal k at → o ≡ refusal k at
          by_test true told = absurd (other (sym (ap fault_in told)))
          by_test false told = impossible (sym told)

      by : (long : Bool) (r : Reading) → unless_long long (settled_strictly r size) ≡ refusal k at → unless_long long (settled r size) ≡ refusal k at
      by true r told = told
      by false (refused j place) told = told
      by false (accepted es) told = not_so (length (bytes_of (all_strictly es))) told

  written : (size m : ℕ) → outcome_strictly s size ≡ Ok m
      → let n = m + 9 * added_to (entries_of (reading_of s)) in outcome_of s size ≡ fitted size n
  unfolding outcome_strictly outcome_of
  written size m = by (ltb longest (length s)) (reading_of s)
    where
      by : (long : Bool) (r : Reading) → unless_long long (settled_strictly r size) ≡ Ok m → unless_long long (settled r size) ≡ fitted size (m + 9 * added_to (entries_of r))
      by true r told = impossible told
      by false (refused k place) told = impossible told
      by false (accepted es) told =
          let needed : length (bytes_of (all_answers es)) ≡ m + 9 * added_to es =
          omega (arith, needs_more es, (fitted_length size (length (bytes_of (all_strictly es))) told).1) in
          ap (fitted size) needed

  short : (size m : ℕ) → outcome_strictly s size ≡ refusal ShortBuffer m → outcome_of s size ≡ refusal ShortBuffer (m + 9 * added_to (entries_of (reading_of s)))
  unfolding outcome_strictly outcome_of
  short size m = by (ltb longest (length s)) (reading_of s)
    where
      by : (long : Bool) (r : Reading) → unless_long long (settled_strictly r size) ≡ refusal ShortBuffer m → unless_long long (settled r size) ≡ refusal ShortBuffer (m + 9 * added_to (entries_of r))
      by true r told = absurd (omega (arith, ap (λ (o : Outcome). number_of_fault (fault_in o)) told))
      by false (refused k place) told = told ∙ ap (refusal ShortBuffer) (omega arith)
      by false (accepted es) told =
          let then-short = fitted_short size (length (bytes_of (all_strictly es))) told in
          too_short size (length (bytes_of (all_answers es))) (omega (arith, needs_more es, then-short.0))
          ∙ ap (refusal ShortBuffer) (omega (arith, needs_more es, then-short.1))

  -- a buffer that is long enough was long enough
  enough : (size n : ℕ) → outcome_of s size ≡ Ok n → (m : ℕ) × (outcome_strictly s size ≡ Ok m)
  unfolding outcome_strictly outcome_of
  enough size n = by (ltb longest (length s)) (reading_of s)
    where
      by : (long : Bool) (r : Reading) → unless_long long (settled r size) ≡ Ok n → (m : ℕ) × (unless_long long (settled_strictly r size) ≡ Ok m)
      by true r told = impossible told
      by false (refused k place) told = impossible told
      by false (accepted es) told =
          let m = length (bytes_of (all_strictly es)) in
          (m, fits size m (omega (arith, needs_more es, (fitted_length size (length (bytes_of (all_answers es))) told).0)))

  -- ---- the bytes

  module _ (before later : List Entry) (e : Entry) (stands : reading_of s ≡ accepted (before ++ (e ∷ later))) (buffer : List ℕ) where
    were : {m : ℕ} → outcome_strictly s (length buffer) ≡ Ok m →
        take (length (bytes_of (answers_strictly e))) (drop (length (bytes_of (of_records before))) (buffer_strictly s buffer)) ≡ bytes_of (answers_strictly e)
    unfolding buffer_strictly
    were {m} told =
        let own = answers_strictly e in
        let back = of_records later ++ answers_at_end (past_all unopened (before ++ (e ∷ later))) in
        ap (λ (l : List ℕ). take (length (bytes_of own)) (drop (length (bytes_of (of_records before))) l))
        (ap (λ (o : Outcome). leaves o (bytes_of (all_strictly (entries_of (reading_of s)))) buffer) told
        ∙ ap (λ (r : Reading). bytes_of (all_strictly (entries_of r)) ++ drop m buffer) stands
        ∙ ap (λ (l : List ℕ). l ++ drop m buffer)
        (ap bytes_of (answers_about before later e) ∙ bytes_append (of_records before) (own ++ back)
        ∙ ap (λ (l : List ℕ). bytes_of (of_records before) ++ l) (bytes_append own back))
        ∙ simp append_assoc)
        ∙ part_at (bytes_of (of_records before)) (bytes_of own) (bytes_of back ++ drop m buffer) refl refl

  places : (buffer : List ℕ) (n : ℕ) → outcome_of s (length buffer) ≡ Ok n → (before later : List Entry) (e : Entry)
      → reading_of s ≡ accepted (before ++ (e ∷ later)) → Places s buffer before e
  places buffer n told before later e stands =
      record {
        were = were before later e stands buffer (enough (length buffer) n told).1;
        are = own_answers s buffer told before later e stands;
      }

  all_in : (r : Reading) → AllStay (entries_of r) → answers_in r ≡ all_strictly (entries_of r)
  all_in (refused k place) stay = refl
  all_in (accepted es) stay = ap (λ (l : List Answer). l ++ answers_at_end (past_all unopened es)) (all_stay es stay)

  alike : AllStay (entries_of (reading_of s)) → (buffer : List ℕ)
      → (outcome_of s (length buffer) ≡ outcome_strictly s (length buffer)) × (buffer_after s buffer ≡ buffer_strictly s buffer)
  unfolding outcome_strictly outcome_of buffer_strictly buffer_after
  alike stay buffer =
      let same = by (reading_of s) stay in (
        ap (λ (o : Outcome). cond (ltb longest (length s)) (refusal TooLong 0) o) same,
        λ i. leaves (cond (ltb longest (length s)) (refusal TooLong 0) (same i)) (bytes_of (all_in (reading_of s) stay i)) buffer,
      )
    where
      by : (r : Reading) → AllStay (entries_of r) → settled r (length buffer) ≡ settled_strictly r (length buffer)
      by (refused k place) stay = refl
      by (accepted es) stay = ap (λ (l : List Answer). fitted (length buffer) (length (bytes_of (l ++ answers_at_end (past_all unopened es))))) (all_stay es stay)

  pub since : Since s
  since =
      record {
        kept = answers_stay;
        substituted = substituted;
        refusals = refusals;
        written = written;
        short = short;
        places = places;
        alike = alike;
      }
