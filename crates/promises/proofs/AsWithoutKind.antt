-- A log without a record of a kind is read as it was where that kind was unknown: `as_without`, over the rules before in WithoutKind.antt. Assumes
-- nothing.
use mathlib.Core.Path.{◌≡◌, refl, ap}
use mathlib.Core.Bool.{Bool, true, false, cond}
use mathlib.Core.List.{List}
use mathlib.Core.Logic.{◌≢◌}
use Prim.Native.Nat.{ℕ, zero, suc, ◌+◌}
use borrow.Author.Tests.{eqb-true}
use lib.Dec.{ltb, eqb}
use lib.ListN.{length, get_or}
use Rattle.answers.specs.Answers.{bytes_of}
use Rattle.records.specs.Record.{unknown, found_at}
use Rattle.station_log.specs.Log.{Past, unopened, past, answers_in, Step, ends, faulty, holds, step_of, step_at}
use Rattle.station_log.specs.Log.{Reading, refused, prepend, onward, read_from, reading_of, settled, longest, outcome_of, leaves, buffer_after}
use Rattle.station_log.specs.Log.{refusal}
use Rattle.promises.proofs.WithoutKind.{found_without, read_without, reading_without, outcome_without, buffer_without, Without, AsWithout}
use Rattle.station_log.specs.declared.Fault.TheVariants.{UnknownKind, TooLong}

module _ (kind : ℕ) (s : List ℕ) where
  -- it is not for a record of the kind that the log was refused from an offset on
  abbrev Clear : Reading → Type 0
  Clear r = (k : ℕ) → r ≡ refused UnknownKind k → get_or s k 0 ≢ kind

  -- of at most n records, from every offset
  abbrev Rest : ℕ → Type 0
  Rest n = (next : ℕ) (q : Past) → Clear (read_without kind n s next q) → read_from n s next q ≡ read_without kind n s next q

  module _ (n at : ℕ) (p : Past) (rest : Rest n) where
    by_step : (z : Step) → Clear (onward z at (read_without kind n s)) → onward z at (read_from n s) ≡ onward z at (read_without kind n s)
    by_step ends clear = refl
    by_step (faulty k) clear = refl
    by_step (holds next f) clear = ap (prepend f) (rest next (past f) (λ k g. clear k (ap (prepend f) g)))

    by_byte : (same : Bool) → eqb (get_or s at 0) kind ≡ same
        → let before = onward (step_of (cond same unknown (found_at s at)) p) at (read_without kind n s) in
        Clear before → onward (step_at s at p) at (read_from n s) ≡ before
    by_byte true e clear = absurd (clear at refl (eqb-true (get_or s at 0) kind e))
    by_byte false e clear = by_step (step_at s at p) clear

  agree : (n : ℕ) → Rest n
  unfolding read_from read_without found_without
  agree zero at p clear = refl
  agree (suc n) at p clear = by_byte n at p (agree n) (eqb (get_or s at 0) kind) refl clear

  read_without_lem : Without kind s → reading_of s ≡ reading_without kind s
  unfolding reading_of reading_without
  read_without_lem without = agree (length s + 1) 0 unopened without

  pub as_without : Without kind s → (buffer : List ℕ) → AsWithout kind s buffer
  unfolding outcome_of buffer_after outcome_without buffer_without
  as_without without buffer =
      let same = read_without_lem without in
      let outcome = ap (λ (r : Reading). cond (ltb longest (length s)) (refusal TooLong 0) (settled r (length buffer))) same in
      record { outcome = outcome; written = λ i. leaves (outcome i) (bytes_of (answers_in (same i))) buffer }
