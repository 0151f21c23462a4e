-- A station's record of kind 1, as all were before document 02, W2, and the same as one of kind 8 with the limit that kind 1 keeps: two logs that differ in
-- that record alone have the same answers (`SameAnswers`). The theorem is `same_answers` in SameAnswers.antt. Assumes nothing.
use mathlib.Core.Path.{◌≡◌}
use mathlib.Core.Bool.{cond}
use mathlib.Core.List.{List, [], ◌∷◌, ◌++◌}
use Prim.Native.Nat.{ℕ, ◌+◌, ◌≤◌}
use lib.Dec.{leb}
use lib.ListN.{length}
use Rattle.station_log.specs.Log.{Entry}
use Rattle.station_log.specs.Log.{Reading, refused, accepted, reading_of, settled, longest, outcome_of, buffer_after}

-- ---- the record before, and the one in its place

-- "two more bytes at its end, the limit in tenths": 5 × 256 + 220 is 1,500
abbrev pub limit_bytes : List ℕ
limit_bytes = 5 ∷ 220 ∷ []

-- a log with a station's record of kind 1, and one with kind 8 in its place
abbrev pub with_kind_one : List ℕ → List ℕ → List ℕ → List ℕ
with_kind_one front fields rest = front ++ (1 ∷ (fields ++ rest))

abbrev pub with_kind_eight : List ℕ → List ℕ → List ℕ → List ℕ
with_kind_eight front fields rest = front ++ (8 ∷ (fields ++ (limit_bytes ++ rest)))

-- The record stands where a record begins: what is in front of it is a log without a fault. Its fields have the 18 bytes of a station, whatever they say.
pub record StationThere (front fields : List ℕ) : Type 0 where
  pub before : List Entry
  pub whole : reading_of front ≡ accepted before
  pub eighteen : length fields ≡ 18

-- ---- what has become of it

-- a fault behind the record is found two bytes further on
abbrev pub two_further : ℕ → Reading → Reading
two_further place (refused k at) = refused k (cond (leb at place) at (at + 2))
two_further place (accepted es) = accepted es

-- What the log t has for an answer, of which s differs in the record at `place`: the same records, or the same refusal, two bytes further on where it
-- stands behind that record. Where t is not too long, the outcome that follows, which is that of s where s is accepted, and the same bytes in every
-- answer buffer.
pub record SameAnswers (place : ℕ) (s t : List ℕ) : Type 0 where
  pub reading : reading_of t ≡ two_further place (reading_of s)
  pub outcome : length t ≤ longest → (size : ℕ) → outcome_of t size ≡ settled (two_further place (reading_of s)) size
  pub accepted_alike : length t ≤ longest → (es : List Entry) → reading_of s ≡ accepted es → (size : ℕ) → outcome_of t size ≡ outcome_of s size
  pub buffer : length t ≤ longest → (lent : List ℕ) → buffer_after t lent ≡ buffer_after s lent
