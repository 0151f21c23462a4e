-- What the bytes of an answer say where they stand: its kind, its code or its date, and its value. So the answer is known from them (`is_station`,
-- `is_crop`, `is_figure`, `is_estimate`, `is_refusal`). Assumes nothing.
use mathlib.Core.Path.{◌≡◌, refl, sym, ap, ◌∙◌}
use mathlib.Core.Bool.{cond}
use mathlib.Core.Logic.{◌≢◌}
use mathlib.Core.List.{List, ◌++◌}
use Rattle.std.specs.Prelude.{Result, Ok, Err, IsOk}
use Rattle.std.proofs.lemmas.Result.{MatchResult-at_ok}
use Prim.Native.Nat.{ℕ, ◌+◌, ◌*◌, ◌-◌, ◌≤◌}
use native.Mathlib.Omega.{arith}
use lib.Dec.{eqb}
use lib.ListN.{length, get_or, length-append, length-drop}
use lib.Seq.{get_or-drop}
use Rattle.day.specs.Rules.{number_of, RefusalOf}
use Rattle.day.specs.declared.Code.{Code}
use Rattle.day.specs.declared.Refusal.{Refusal}
use Rattle.day.specs.declared.UnknownRefusal.{UnknownRefusal}
use Rattle.day.specs.Judgement.{Verdict}
use Rattle.day.specs.declared.Figure.TheVariants.{Measured, Estimated}
use Rattle.day.proofs.Numbers.{refusal_told}
use Rattle.records.specs.Bytes.{word_at}
use Rattle.records.specs.Record.{code_at}
use Rattle.answers.specs.Answers.{kind_of, value_of, answer_bytes}
use Rattle.answers.specs.Kinds.{kind_number, KindOf}
use Rattle.answers.specs.ReadBack.{StandsAt}
use Rattle.answers.specs.declared.Answer.{Answer}
use Rattle.answers.specs.declared.Answer.TheVariants as answer
use Rattle.answers.specs.declared.kind.Kind.{Kind}
use Rattle.answers.specs.declared.kind.Kind.TheVariants as kind
use Rattle.answers.specs.declared.kind.UnknownKind.{UnknownKind}

pub record StationTold (s : List ℕ) (at : ℕ) (c : Code) : Type 0 where
  pub inside : at + 5 ≤ length s
  pub kind : get_or s at 0 ≡ 5
  pub code : code_at s (at + 1) ≡ c

pub record DayTold (s : List ℕ) (at year d : ℕ) (v : Verdict) : Type 0 where
  pub inside : at + 9 ≤ length s
  pub kind : get_or s at 0 ≡ kind_of v
  pub dated : (word_at s (at + 1) ≡ year) × (word_at s (at + 3) ≡ d)
  pub value : word_at s (at + 5) * 65536 + word_at s (at + 5 + 2) ≡ value_of v

pub record CropTold (s : List ℕ) (at : ℕ) (c : Code) (n : ℕ) : Type 0 where
  pub inside : at + 9 ≤ length s
  pub kind : get_or s at 0 ≡ 7
  pub code : code_at s (at + 1) ≡ c
  pub value : word_at s (at + 5) * 65536 + word_at s (at + 5 + 2) ≡ n

module _ {s : List ℕ} {at : ℕ} {a : Answer} (h : StandsAt s at a) where
  -- byte i of the answer
  byte : (j i : ℕ) → j ≡ at + i → get_or s j 0 ≡ get_or (answer_bytes a ++ h.rest) i 0
  byte j i e = ap (λ (j : ℕ). get_or s j 0) e ∙ sym (get_or-drop at s i 0) ∙ ap (λ (l : List ℕ). get_or l i 0) h.bytes

  -- its bytes 1 to 4 as letters
  letters : code_at s (at + 1)
      ≡ record {
        first = get_or (answer_bytes a ++ h.rest) 1 0;
        second = get_or (answer_bytes a ++ h.rest) 2 0;
        third = get_or (answer_bytes a ++ h.rest) 3 0;
        fourth = get_or (answer_bytes a ++ h.rest) 4 0;
      }
  letters =
      let first = byte (at + 1) 1 refl in
      let second = byte (at + 1 + 1) 2 (omega arith) in
      let third = byte (at + 1 + 2) 3 (omega arith) in
      let fourth = byte (at + 1 + 3) 4 (omega arith) in
      λ i. record { first = first i; second = second i; third = third i; fourth = fourth i }

  -- its bytes 5 to 8 as a number
  value_told : word_at s (at + 5) * 65536 + word_at s (at + 5 + 2)
      ≡ (get_or (answer_bytes a ++ h.rest) 5 0 * 256 + get_or (answer_bytes a ++ h.rest) 6 0) * 65536
      + (get_or (answer_bytes a ++ h.rest) 7 0 * 256 + get_or (answer_bytes a ++ h.rest) 8 0)
  unfolding word_at
  value_told =
      omega (
        arith,
        byte (at + 5) 5 refl,
        byte (at + 5 + 1) 6 (omega arith),
        byte (at + 5 + 2) 7 (omega arith),
        byte (at + 5 + 2 + 1) 8 (omega arith),
      )

  left : length s - at ≡ length (answer_bytes a) + length h.rest
  left = sym (length-drop at s) ∙ ap length h.bytes ∙ length-append (answer_bytes a) h.rest

module _ {s : List ℕ} {at : ℕ} where
  pub station_tells : {c : Code} → StandsAt s at (answer.Station c) → StationTold s at c
  station_tells h = record { inside = omega (arith, left h); kind = byte h at 0 (omega arith); code = letters h }

  pub day_tells : {year d : ℕ} {v : Verdict} → StandsAt s at (answer.Day year d v) → DayTold s at year d v
  unfolding word_at
  day_tells h =
      record {
        inside = omega (arith, left h);
        kind = byte h at 0 (omega arith);
        dated = (
          omega (arith, byte h (at + 1) 1 refl, byte h (at + 1 + 1) 2 (omega arith)),
          omega (arith, byte h (at + 3) 3 refl, byte h (at + 3 + 1) 4 (omega arith)),
        );
        value = omega (arith, value_told h);
      }

  pub crop_tells : {c : Code} {n : ℕ} → StandsAt s at (answer.Crop c n) → CropTold s at c n
  crop_tells h = record { inside = omega (arith, left h); kind = byte h at 0 (omega arith); code = letters h; value = omega (arith, value_told h) }

-- ---- the answer that stands at an index

abbrev kind_in : Answer → Kind
kind_in (answer.Station c) = kind.Station
kind_in (answer.Day year d (Ok (Measured n))) = kind.Figure
kind_in (answer.Day year d (Ok (Estimated n))) = kind.Estimate
kind_in (answer.Day year d (Err why)) = kind.Refusal
kind_in (answer.Crop c n) = kind.Crop

-- how many bytes an answer has, by its kind's number
abbrev size_by : ℕ → ℕ
size_by n = cond (eqb n 5) 5 9

-- the number of a kind that was found
pub number_told : {n : ℕ} {r : Result Kind UnknownKind} {k : Kind} → KindOf n r → r ≡ Ok k → n ≡ kind_number k
number_told {n} {r} {k} h e = sym (MatchResult-at_ok (λ k. kind_number k ≡ n) _ k e h)

module _ {s : List ℕ} {at : ℕ} where
  first_byte : (a : Answer) → StandsAt s at a → get_or s at 0 ≡ kind_number (kind_in a)
  first_byte (answer.Station c) h = (station_tells h).kind
  first_byte (answer.Day year d (Ok (Measured n))) h = (day_tells h).kind
  first_byte (answer.Day year d (Ok (Estimated n))) h = (day_tells h).kind
  first_byte (answer.Day year d (Err why)) h = (day_tells h).kind
  first_byte (answer.Crop c n) h = (crop_tells h).kind

  -- an answer has a kind
  pub some_kind : (r : Result Kind UnknownKind) → KindOf (get_or s at 0) r → (a : Answer) → StandsAt s at a → IsOk r
  some_kind (Ok k) h a there = refl
  some_kind (Err e) h a there = absurd (h.1 (kind_in a) (sym (first_byte a there)))

  inside : (a : Answer) → StandsAt s at a → at + size_by (kind_number (kind_in a)) ≤ length s
  inside (answer.Station c) there = (station_tells there).inside
  inside (answer.Day year d (Ok (Measured n))) there = (day_tells there).inside
  inside (answer.Day year d (Ok (Estimated n))) there = (day_tells there).inside
  inside (answer.Day year d (Err why)) there = (day_tells there).inside
  inside (answer.Crop c n) there = (crop_tells there).inside

  -- all its bytes are there
  pub room : {r : Result Kind UnknownKind} {k : Kind} → KindOf (get_or s at 0) r → r ≡ Ok k → (a : Answer) → StandsAt s at a
      → at + size_by (kind_number k) ≤ length s
  room {r} {k} h e a there =
      let same : kind_number k ≡ kind_number (kind_in a) = sym (number_told h e) ∙ first_byte a there in
      rw same (inside a there)

  -- kind 5
  pub is_station : get_or s at 0 ≡ 5 → {c : Code} → c ≡ code_at s (at + 1) → (a : Answer) → StandsAt s at a → answer.Station c ≡ a
  is_station five is (answer.Station c) h = ap answer.Station (is ∙ (station_tells h).code)
  is_station five is (answer.Day year d (Ok (Measured n))) h = absurd (omega (arith, five, (day_tells h).kind))
  is_station five is (answer.Day year d (Ok (Estimated n))) h = absurd (omega (arith, five, (day_tells h).kind))
  is_station five is (answer.Day year d (Err why)) h = absurd (omega (arith, five, (day_tells h).kind))
  is_station five is (answer.Crop c n) h = absurd (omega (arith, five, (crop_tells h).kind))

  -- kind 7
  pub is_crop : get_or s at 0 ≡ 7 → {c : Code} {n : ℕ} → c ≡ code_at s (at + 1) → n ≡ word_at s (at + 5) * 65536 + word_at s (at + 5 + 2)
      → (a : Answer) → StandsAt s at a → answer.Crop c n ≡ a
  is_crop seven is_code is_value (answer.Station c) h = absurd (omega (arith, seven, (station_tells h).kind))
  is_crop seven is_code is_value (answer.Day year d (Ok (Measured n))) h = absurd (omega (arith, seven, (day_tells h).kind))
  is_crop seven is_code is_value (answer.Day year d (Ok (Estimated n))) h = absurd (omega (arith, seven, (day_tells h).kind))
  is_crop seven is_code is_value (answer.Day year d (Err why)) h = absurd (omega (arith, seven, (day_tells h).kind))
  is_crop seven is_code is_value (answer.Crop c n) h =
      let of_code = is_code ∙ (crop_tells h).code in
      let of_value = is_value ∙ (crop_tells h).value in
      (λ i. answer.Crop (of_code i) (of_value i))

  module _ (other : get_or s at 0 ≢ 5) (no-crop : get_or s at 0 ≢ 7) {year d n : ℕ} (is-year : year ≡ word_at s (at + 1)) (is-d : d ≡ word_at s (at + 3))
      (is_value : n ≡ word_at s (at + 5) * 65536 + word_at s (at + 5 + 2)) where
    same : {y e : ℕ} {v : Verdict} → DayTold s at y e v → {w : Verdict} → w ≡ v → answer.Day year d w ≡ answer.Day y e v
    same told e =
        let of-year = is-year ∙ told.dated.0 in
        let of-d = is-d ∙ told.dated.1 in
        (λ i. answer.Day (of-year i) (of-d i) (e i))

    -- kind 3
    pub is_figure : get_or s at 0 ≡ 3 → (a : Answer) → StandsAt s at a → answer.Day year d (Ok (Measured n)) ≡ a
    is_figure three (answer.Station c) h = absurd (other (station_tells h).kind)
    is_figure three (answer.Day y e (Ok (Measured m))) h = same (day_tells h) (ap (λ (n : ℕ). Ok (Measured n)) (is_value ∙ (day_tells h).value))
    is_figure three (answer.Day y e (Ok (Estimated m))) h = absurd (omega (arith, three, (day_tells h).kind))
    is_figure three (answer.Day y e (Err why)) h = absurd (omega (arith, three, (day_tells h).kind))
    is_figure three (answer.Crop c m) h = absurd (no-crop (crop_tells h).kind)

    -- kind 9
    pub is_estimate : get_or s at 0 ≡ 9 → (a : Answer) → StandsAt s at a → answer.Day year d (Ok (Estimated n)) ≡ a
    is_estimate nine (answer.Station c) h = absurd (other (station_tells h).kind)
    is_estimate nine (answer.Day y e (Ok (Measured m))) h = absurd (omega (arith, nine, (day_tells h).kind))
    is_estimate nine (answer.Day y e (Ok (Estimated m))) h = same (day_tells h) (ap (λ (n : ℕ). Ok (Estimated n)) (is_value ∙ (day_tells h).value))
    is_estimate nine (answer.Day y e (Err why)) h = absurd (omega (arith, nine, (day_tells h).kind))
    is_estimate nine (answer.Crop c m) h = absurd (no-crop (crop_tells h).kind)

    -- kind 4
    pub is_refusal : get_or s at 0 ≢ 3 → get_or s at 0 ≢ 9 → {r : Refusal} → ((why : Refusal) → n ≡ number_of why → r ≡ why)
        → (a : Answer) → StandsAt s at a → answer.Day year d (Err r) ≡ a
    is_refusal no-figure no-estimate is (answer.Station c) h = absurd (other (station_tells h).kind)
    is_refusal no-figure no-estimate is (answer.Day y e (Ok (Measured m))) h = absurd (no-figure (day_tells h).kind)
    is_refusal no-figure no-estimate is (answer.Day y e (Ok (Estimated m))) h = absurd (no-estimate (day_tells h).kind)
    is_refusal no-figure no-estimate is (answer.Day y e (Err why)) h = same (day_tells h) (ap Err (is why (is_value ∙ (day_tells h).value)))
    is_refusal no-figure no-estimate is (answer.Crop c m) h = absurd (no-crop (crop_tells h).kind)

  -- a refusal's number is there
  pub some_refusal : get_or s at 0 ≡ 4 → {n : ℕ} → n ≡ word_at s (at + 5) * 65536 + word_at s (at + 5 + 2) → (r : Result Refusal UnknownRefusal)
      → RefusalOf n r → (a : Answer) → StandsAt s at a → IsOk r
  some_refusal four is_value r told (answer.Station c) h = absurd (omega (arith, four, (station_tells h).kind))
  some_refusal four is_value r told (answer.Day y e (Ok (Measured m))) h = absurd (omega (arith, four, (day_tells h).kind))
  some_refusal four is_value r told (answer.Day y e (Ok (Estimated m))) h = absurd (omega (arith, four, (day_tells h).kind))
  some_refusal four is_value r told (answer.Day y e (Err why)) h = rw (refusal_told why r (is_value ∙ (day_tells h).value) told) refl
  some_refusal four is_value r told (answer.Crop c m) h = absurd (omega (arith, four, (crop_tells h).kind))

-- the refusal that was found is the one with the number
pub refusal_is : {n : ℕ} {r : Result Refusal UnknownRefusal} {found : Refusal} → RefusalOf n r → r ≡ Ok found
    → (why : Refusal) → n ≡ number_of why → found ≡ why
refusal_is {r = r} told e why is = let f = refusal_told why r is told in cc
