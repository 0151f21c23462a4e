-- What is put into the two halves of a number is read back from them, and two numbers that say the same are the same (`told_apart`). Assumes
-- nothing.
use mathlib.Core.Bool.{Bool, true, false, cond}
use mathlib.Core.Path.{◌≡◌, refl, sym, ap, subst, ◌∙◌}
use Prim.Native.Nat.{ℕ, ◌+◌, ◌*◌, ◌/◌, ◌%◌, ◌<◌}
use native.Mathlib.Omega.{arith}
use borrow.Author.Tests.{eqb-true}
use lib.Dec.{eqb}
use Rattle.day.specs.Bound.{FigureOwed}
use Rattle.day.specs.Judgement.{judged, Verdict}
use Rattle.day.specs.Rules.{number_of}
use Rattle.exports.specs.Told.{Said, accepted, refused, estimated, mark_number, said, said_by, verdict_said, FigureSaid}
use Rattle.day.specs.declared.Day.{Day}
use Rattle.day.specs.declared.Earlier.{Earlier}
use Rattle.day.specs.declared.Refusal.{Refusal}
use Rattle.day.specs.declared.Refusal.TheVariants.{StationField, BadDate, Missing, OutOfRange, OutOfOrder, AboveClear}
use Rattle.day.specs.declared.Station.{Station}

pub halves_said : (k v : ℕ) → v < 4294967296 → said_by (k * 4294967296 + v) ≡ said k v
unfolding said_by
halves_said k v low =
    let high_half : (k * 4294967296 + v) / 4294967296 ≡ k = omega arith in
    let low_half : (k * 4294967296 + v) % 4294967296 ≡ v = omega arith in
    (λ i. said (high_half i) (low_half i))

-- the number and the value of what is said
abbrev number_in : Said → ℕ
number_in (accepted n) = 0
number_in (refused k v) = k
number_in (estimated n) = mark_number

abbrev value_in : Said → ℕ
value_in (accepted n) = n
value_in (refused k v) = v
value_in (estimated n) = n

said_number : (k v : ℕ) → k ≡ number_in (said k v)
said_number k v = by (eqb k 0) (eqb k mark_number) refl refl
  where
    by : (t u : Bool) → eqb k 0 ≡ t → eqb k mark_number ≡ u → k ≡ number_in (cond t (accepted v) (cond u (estimated v) (refused k v)))
    by true u e f = eqb-true k 0 e
    by false true e f = eqb-true k mark_number f
    by false false e f = refl

said_value : (k v : ℕ) → v ≡ value_in (said k v)
said_value k v = by (eqb k 0) (eqb k mark_number)
  where
    by : (t u : Bool) → v ≡ value_in (cond t (accepted v) (cond u (estimated v) (refused k v)))
    by true u = refl
    by false true = refl
    by false false = refl

-- no refusal of a day has the number 0 or the mark's
pub refusal_said : (why : Refusal) → said (number_of why) 0 ≡ refused (number_of why) 0
refusal_said StationField = refl
refusal_said BadDate = refl
refusal_said Missing = refl
refusal_said OutOfRange = refl
refusal_said OutOfOrder = refl
refusal_said AboveClear = refl

-- what is owed of a station, a day and earlier means is owed of those that they are equal to
module _ {st st' : Station} {x x' : Day} {e e' : Earlier} (station : st ≡ st') (day : x ≡ x') (earlier : e ≡ e') where
  moved : (P : Station → Day → Earlier → Type 0) → P st x e → P st' x' e'
  moved P p = subst (P st' x') earlier (subst (λ y. P st' y e) day (subst (λ y. P y x e) station p))

  -- the number that says a verdict
  pub verdict_said_lem : (v : Verdict) (r : ℕ) → v ≡ judged st x e → FigureOwed st x e v → said_by r ≡ verdict_said v
      → (said_by r ≡ verdict_said (judged st' x' e')) × FigureSaid st' x' e' r
  unfolding FigureOwed FigureSaid
  verdict_said_lem v r is owed says =
      moved (λ st x e. (said_by r ≡ verdict_said (judged st x e)) × FigureSaid st x e r)
      (says ∙ ap verdict_said is, λ answered. let f = owed answered in (f.0, says ∙ ap verdict_said f.1, f.2))

-- two returned numbers that say the same are the same
pub told_apart : (a b : ℕ) → said_by a ≡ said_by b → a ≡ b
unfolding said_by
told_apart a b e =
    let high : a / 4294967296 ≡ b / 4294967296 = said_number (a / 4294967296) _ ∙ ap number_in e ∙ sym (said_number (b / 4294967296) _) in
    let low : a % 4294967296 ≡ b % 4294967296 = said_value (a / 4294967296) _ ∙ ap value_in e ∙ sym (said_value (b / 4294967296) _) in
    omega (arith, high, low)
