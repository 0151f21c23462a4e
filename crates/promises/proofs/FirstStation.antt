-- A log that begins with a station's record, of either kind: its reading is that station, and then that of the rest, with each fault's offset moved by the
-- record's length (`first_read`). Assumes nothing.
use mathlib.Core.Path.{◌≡◌, refl, sym, ap, ◌∙◌, subst}
use mathlib.Core.Bool.{Bool, true, false, cond}
use mathlib.Core.List.{List, ◌∷◌, ◌++◌, append_assoc}
use Prim.Native.Nat.{ℕ, suc, ◌+◌}
use native.Mathlib.Omega.{arith}
use lib.ListN.{length, length-append, get_or-append}
use Rattle.day.specs.Rules.{bad_station}
use Rattle.day.specs.declared.Station.{Station}
use Rattle.records.specs.Record.{Found, whole, found_at}
use Rattle.records.specs.declared.Record.{Record}
use Rattle.records.proofs.Alike.{Alike}
use Rattle.records.proofs.Part.{Part, rest_part}
use Rattle.station_log.specs.Log.{Past, block, opened, station, fault, enters, goes_to, step_of, Reading, refused, prepend, onward, read_from}
use Rattle.station_log.proofs.Steps.{steps_enough}
use Rattle.promises.proofs.TwoParts.{moved, read_last}
use Rattle.station_log.specs.declared.Fault.TheVariants.{StationField}

-- the reading of a log that begins with a station's record of n bytes
unfoldable pub opened_by : ℕ → Past → Station → List ℕ → Reading
opened_by n q x rest = cond (bad_station x) (refused StationField 0) (prepend (station q x) (moved n (read_from (length rest + 1) rest 0 (block (opened x)))))

-- a kind byte, the fields, and what else the record has
module _ (kind : ℕ) (fields more rest : List ℕ) where
  abbrev pub log : List ℕ
  log = kind ∷ (fields ++ (more ++ rest))

  abbrev size : ℕ
  size = length (kind ∷ (fields ++ more))

  parts : (kind ∷ (fields ++ more)) ++ rest ≡ log
  parts = ap (λ (l : List ℕ). kind ∷ l) (append_assoc fields more rest)

  rest_there : Part log size rest
  rest_there = subst (λ (l : List ℕ). Part l size rest) parts (rest_part (kind ∷ (fields ++ more)) rest)

  whole_length : length log ≡ size + length rest
  whole_length = sym (ap length parts) ∙ length-append (kind ∷ (fields ++ more)) rest

  pub fields_there : Alike log 1 fields 0 (length fields)
  fields_there =
      record {
        bytes = λ i below.
            let on : 1 + i ≡ suc i = omega arith in
            let same : 0 + i ≡ i = omega arith in
            rw (on, same) (get_or-append fields (more ++ rest) 0 i below);
      }

  module _ (n : ℕ) (sized : size ≡ n) where
    rest_read : (p : Past) → read_from (length log) log n p ≡ moved n (read_from (length rest + 1) rest 0 p)
    rest_read p =
        ap (λ (at : ℕ). read_from (length log) log at p) (omega arith)
        ∙ read_last rest_there whole_length (length log) 0 p
        ∙ (λ i. moved (sized i) (steps_enough rest (length log) (length rest + 1) 0 p (omega arith) (omega (arith, whole_length)) (omega arith) i))

    pub first_read : {x : Station} → found_at log 0 ≡ whole n (Record.Station x) → (q : Past) → read_from (length log + 1) log 0 q ≡ opened_by n q x rest
    unfolding read_from opened_by
    first_read {x} is q =
        let steps : length log + 1 ≡ suc (length log) = omega arith in
        ap (λ (m : ℕ). read_from m log 0 q) steps
        ∙ ap (λ (f : Found). onward (step_of f q) 0 (read_from (length log) log)) is
        ∙ by (bad_station x)
      where
        by : (b : Bool) → onward (goes_to n (cond b (fault StationField) (enters (station q x)))) 0 (read_from (length log) log)
            ≡ cond b (refused StationField 0) (prepend (station q x) (moved n (read_from (length rest + 1) rest 0 (block (opened x)))))
        by true = refl
        by false = ap (prepend (station q x)) (rest_read (block (opened x)))
