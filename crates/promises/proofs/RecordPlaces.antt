-- Where a record's answers stand in the buffer that an accepted log leaves: behind those of the records before it (`about_record`, `own_answers`).
-- Assumes nothing.
use mathlib.Core.List.{List, ◌∷◌, ◌++◌, append_assoc}
use mathlib.Core.Path.{◌≡◌, refl, sym, ap, ◌∙◌}
use Prim.Native.Nat.{ℕ}
use lib.ListN.{length, take, drop}
use lib.Seq.{take_at, drop_at}
use Rattle.answers.specs.Answers.{bytes_of}
use Rattle.answers.proofs.Bytes.{bytes_append}
use Rattle.station_log.specs.Log.{unopened, Entry, past_all, answers_for, answers_of, answers_at_end, answers_in, answers_to, Reading, accepted, reading_of, outcome_of, leaves, buffer_after}
use Rattle.std.specs.Prelude.{Ok}
use Rattle.station_log.specs.Log.{Outcome}
use Rattle.station_log.proofs.Walked.{answers_append, all_bytes}

-- k bytes behind a list of `place` bytes
pub part_at : (front own rest : List ℕ) {k place : ℕ} → length own ≡ k → place ≡ length front → take k (drop place (front ++ (own ++ rest))) ≡ own
part_at front own rest {k} {place} size there = ap (take k) (drop_at front (own ++ rest) place (sym there)) ∙ take_at own rest k size

module _ (s buffer : List ℕ) {n : ℕ} (written : outcome_of s (length buffer) ≡ Ok n) (before later : List Entry) (e : Entry)
    (stands : reading_of s ≡ accepted (before ++ (e ∷ later))) where
  -- all that stands behind the record's own answers
  abbrev pub rest : List ℕ
  rest = bytes_of (answers_of later) ++ (bytes_of (answers_at_end (past_all unopened (before ++ (e ∷ later)))) ++ drop n buffer)

  pub about_record : buffer_after s buffer ≡ bytes_of (answers_of before) ++ (bytes_of (answers_for e) ++ rest)
  unfolding buffer_after
  about_record =
      ap (λ (o : Outcome). leaves o (bytes_of (answers_to s)) buffer) written
      ∙ ap (λ (r : Reading). bytes_of (answers_in r) ++ drop n buffer) stands
      ∙ ap (λ (l : List ℕ). l ++ drop n buffer)
      (all_bytes (before ++ (e ∷ later))
      ∙ ap (λ (l : List ℕ). l ++ bytes_of (answers_at_end (past_all unopened (before ++ (e ∷ later)))))
      (answers_append before (e ∷ later) ∙ ap (λ (l : List ℕ). bytes_of (answers_of before) ++ l) (bytes_append (answers_for e) (answers_of later))))
      ∙ simp append_assoc

  pub own_answers : take (length (bytes_of (answers_for e))) (drop (length (bytes_of (answers_of before))) (buffer_after s buffer)) ≡ bytes_of (answers_for e)
  own_answers =
      ap (λ (l : List ℕ). take (length (bytes_of (answers_for e))) (drop (length (bytes_of (answers_of before))) l)) about_record
      ∙ part_at (bytes_of (answers_of before)) (bytes_of (answers_for e)) rest refl refl
