-- A log of two parts whose first is accepted by itself: its reading is the first part's entries, and then what the second part gives behind them, with
-- each fault's offset moved by the first part's length. The theorem is `two_parts`. Assumes nothing.
use mathlib.Core.Path.{◌≡◌, refl, ap, ◌∙◌, subst}
use mathlib.Core.List.{List, ◌++◌}
use Prim.Native.Nat.{ℕ, zero, suc, ◌+◌, ◌<◌, ◌≤◌}
use native.Mathlib.Omega.{arith}
use lib.ListN.{length, length-append}
use Rattle.records.specs.Record.{Found, end, unknown, short, whole, found_at}
use Rattle.records.proofs.Part.{Part, front_part, rest_part, moved_found, LogEnds, found_moved}
use Rattle.station_log.specs.Log.{Past, unopened, Entry, past, past_all, Step, ends, faulty, holds, Entered, fault, enters, enter, goes_to, step_of, step_at}
use Rattle.station_log.specs.Log.{Reading, refused, accepted, prepend, onward, read_from, reading_of}
use Rattle.station_log.proofs.Laws.{counts}
use Rattle.station_log.proofs.Stands.{step_ends, step_stands}
use Rattle.station_log.proofs.Steps.{steps_enough}
use Rattle.station_log.proofs.Walked.{behind}

-- the reading of a log that stands n bytes further on
abbrev pub moved : ℕ → Reading → Reading
moved n (refused k at) = refused k (n + at)
moved n (accepted es) = accepted es

-- ---- a step

-- the step n bytes further on
abbrev moved_step : ℕ → Step → Step
moved_step n ends = ends
moved_step n (faulty k) = faulty k
moved_step n (holds next e) = holds (n + next) e

-- what is found there gives it
step_as : (n : ℕ) (f : Found) (p : Past) → step_of (moved_found n f) p ≡ moved_step n (step_of f p)
step_as n end p = refl
step_as n unknown p = refl
step_as n short p = refl
step_as n (whole next i) p = by (enter i p)
  where
    by : (z : Entered) → goes_to (n + next) z ≡ moved_step n (goes_to next z)
    by (fault k) = refl
    by (enters e) = refl

-- a record without a fault is all there
all_there : (f : Found) (p : Past) {next : ℕ} {e : Entry} → step_of f p ≡ holds next e → LogEnds f → ⊥
all_there end p step cut = let z : ◌≡◌ {A = ℕ} 0 1 = cc in absurd (omega arith)
all_there unknown p step cut = cut
all_there short p step cut = let z : ◌≡◌ {A = ℕ} 0 1 = cc in absurd (omega arith)
all_there (whole next i) p step cut = cut

module _ {s : List ℕ} {n : ℕ} {t : List ℕ} (part : Part s n t) where
  -- where the part ends, the whole log has to end with it
  step_moved : (at : ℕ) (p : Past) → (LogEnds (found_at t at) → length s ≡ n + length t) → step_at s (n + at) p ≡ moved_step n (step_at t at p)
  step_moved at p last = ap (λ (f : Found). step_of f p) (found_moved part at last) ∙ step_as n (found_at t at) p

  -- ---- a part up to the end of the log

  prepend_moved : (e : Entry) (r : Reading) → prepend e (moved n r) ≡ moved n (prepend e r)
  prepend_moved e (refused k at) = refl
  prepend_moved e (accepted es) = refl

  pub read_last : length s ≡ n + length t → (m at : ℕ) (p : Past) → read_from m s (n + at) p ≡ moved n (read_from m t at p)
  unfolding read_from
  read_last last zero at p = refl
  read_last last (suc m) at p =
      ap (λ (z : Step). onward z (n + at) (read_from m s)) (step_moved at p (λ _. last))
      ∙ by (step_at t at p) (λ (next : ℕ) (q : Past). read_last last m next q)
    where
      by : (z : Step) → ((next : ℕ) (q : Past) → read_from m s (n + next) q ≡ moved n (read_from m t next q))
          → onward (moved_step n z) (n + at) (read_from m s) ≡ moved n (onward z at (read_from m t))
      by ends rest = refl
      by (faulty k) rest = refl
      by (holds next e) rest = ap (prepend e) (rest next (past e)) ∙ prepend_moved e (read_from m t next (past e))

  -- ---- a part with records behind it

  -- the whole log from an offset on, with steps enough
  abbrev fully : ℕ → Past → Reading
  fully at p = read_from (suc (length s)) s at p

  -- of what was read of the part from an offset on: the whole log from there on is that, and then what stands behind the part
  Followed : ℕ → Past → Reading → Type 0
  Followed at p (refused k o) = Unit {0}
  Followed at p (accepted es) = fully (n + at) p ≡ behind es (fully (n + length t) (past_all p es))

  -- so it is with one record more
  followed_more : (at next : ℕ) (p : Past) (e : Entry) → fully (n + at) p ≡ prepend e (fully (n + next) (past e))
      → (r : Reading) → Followed next (past e) r → Followed at p (prepend e r)
  unfolding Followed
  followed_more at next p e one (refused k o) f = tt
  followed_more at next p e one (accepted es) f = one ∙ ap (prepend e) f

  -- a record of the part is the whole log's
  one_more : (at next : ℕ) (p : Past) (e : Entry) → step_at t at p ≡ holds next e → fully (n + at) p ≡ prepend e (fully (n + next) (past e))
  unfolding read_from
  one_more at next p e step =
      let on = step_stands t at p step in
      let inside : n + next ≤ length s = omega (arith, part.room, on.inside) in
      ap (λ (z : Step). onward z (n + at) (read_from (length s) s)) (step_moved at p (λ cut. absurd (all_there (found_at t at) p step cut)) ∙ ap (moved_step n) step)
      ∙ ap (prepend e) (steps_enough s (length s) (suc (length s)) (n + next) (past e) inside (omega (arith, on.longer, (counts e).some)) (omega arith))

  -- the part is read to its end, with steps enough
  followed : (m at : ℕ) (p : Past) → at ≤ length t → length t < at + m → Followed at p (read_from m t at p)
  unfolding read_from Followed
  followed zero at p inside enough = absurd (omega arith)
  followed (suc m) at p inside enough =
      by (step_at t at p) refl (λ (next : ℕ) (q : Past) (h : next ≤ length t) (i : length t < next + m). followed m next q h i)
    where
      by : (z : Step) → step_at t at p ≡ z
          → ((next : ℕ) (q : Past) → next ≤ length t → length t < next + m → Followed next q (read_from m t next q))
          → Followed at p (onward z at (read_from m t))
      by ends e rest =
          let there : at ≡ length t = omega (arith, step_ends t at p e) in
          ap (λ (o : ℕ). fully (n + o) p) there
      by (faulty k) e rest = tt
      by (holds next f) e rest =
          let on = step_stands t at p e in
          followed_more at next p f (one_more at next p f e) (read_from m t next (past f))
          (rest next (past f) on.inside (omega (arith, on.longer, (counts f).some)))

-- ---- the theorem

pub two_parts : (front rest : List ℕ) (es : List Entry) → reading_of front ≡ accepted es
    → reading_of (front ++ rest) ≡ behind es (moved (length front) (read_from (length rest + 1) rest 0 (past_all unopened es)))
unfolding reading_of Followed
two_parts front rest es e =
    let s = front ++ rest in
    let q = past_all unopened es in
    let sum = length-append front rest in
    let enough = steps_enough rest (suc (length s)) (length rest + 1) 0 q (omega arith) (omega (arith, sum)) (omega arith) in
    let first = followed (front_part front rest) (length front + 1) 0 unopened (omega arith) (omega arith) in
    let second = read_last (rest_part front rest) sum (suc (length s)) 0 q ∙ ap (moved (length front)) enough in
    steps_enough s (length s + 1) (suc (length s)) 0 unopened (omega arith) (omega arith) (omega arith)
    ∙ subst (Followed (front_part front rest) 0 unopened) e first
    ∙ ap (behind es) (ap (λ (o : ℕ). read_from (suc (length s)) s o q) (omega arith) ∙ second)
