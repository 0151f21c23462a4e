-- What a day's standing tells: a day that stands answered is one that no refusal holds of, and the other way round; its verdict is then its figure.
-- Assumes nothing.
use mathlib.Core.Path.{◌≡◌, refl, sym, ◌∙◌, ap, subst}
use mathlib.Core.Bool.{Bool, true, false, cond}
use mathlib.Core.List.{List, [], ◌∷◌}
use lib.Dec.{T}
use Rattle.std.specs.Prelude.{Result, Ok, Err}
use Rattle.day.specs.Judgement.{holds, Answered, first_of, in_order, standing_of, as_judged, with_mark, verdict_with, judged, figure_of}
use Rattle.day.specs.declared.Station.{Station}
use Rattle.day.specs.declared.Day.{Day}
use Rattle.day.specs.declared.Earlier.{Earlier}
use Rattle.day.specs.declared.Refusal.{Refusal}
use Rattle.day.specs.declared.Refusal.TheVariants.{StationField, BadDate, Missing, OutOfRange, OutOfOrder, AboveClear}

-- ---- none holds

abbrev is_answered : Result (Unit {0}) Refusal → Bool
is_answered (Err r) = false
is_answered (Ok done) = true

-- none of the row holds
abbrev NoneOf : List Refusal → (Refusal → Bool) → Type 0
NoneOf [] held = Unit {0}
NoneOf (r ∷ rs) held = (held r ≡ false) × NoneOf rs held

none_of : (rs : List Refusal) (held : Refusal → Bool) → first_of rs held ≡ Ok tt → NoneOf rs held
none_of [] held e = tt
none_of (r ∷ rs) held e = let both = by (held r) refl e in (both.0, none_of rs held both.1)
  where
    by : (b : Bool) → held r ≡ b → {s : Result (Unit {0}) Refusal} → cond b (Err r) s ≡ Ok tt → (held r ≡ false) × (s ≡ Ok tt)
    by true p q = absurd (subst T (sym (ap is_answered q)) tt)
    by false p q = (p, q)

none_first : (rs : List Refusal) (held : Refusal → Bool) → ((r : Refusal) → held r ≡ false) → first_of rs held ≡ Ok tt
none_first [] held h = refl
none_first (r ∷ rs) held h = ap (λ (b : Bool). cond b (Err r) (first_of rs held)) (h r) ∙ none_first rs held h

module _ (st : Station) (day : Day) (earlier : Earlier) where
  pub stands_answered : standing_of st day earlier ≡ Ok tt → Answered st day earlier
  unfolding standing_of Answered
  stands_answered e = each (none_of in_order (λ r. holds r st day earlier) e)
    where
      each : NoneOf in_order (λ r. holds r st day earlier) → (r : Refusal) → holds r st day earlier ≡ false
      each h StationField = h.0
      each h BadDate = h.1.0
      each h Missing = h.1.1.0
      each h OutOfRange = h.1.1.1.0
      each h OutOfOrder = h.1.1.1.1.0
      each h AboveClear = h.1.1.1.1.1.0

  -- what is told of the day as it is judged, by whatever has that day
  pub stands_as_judged : {s : Result (Unit {0}) Refusal} {y : Day} → s ≡ standing_of st y earlier → y ≡ as_judged day → s ≡ standing_of st (as_judged day) earlier
  stands_as_judged told same = told ∙ ap (λ (y : Day). standing_of st y earlier) same

  -- that day has the figure, and the mark is the day's own
  pub answered_figure : Answered st (as_judged day) earlier → judged st day earlier ≡ Ok (with_mark day (figure_of st (as_judged day) earlier))
  unfolding judged standing_of Answered
  answered_figure answered =
      ap (λ (s : Result (Unit {0}) Refusal). verdict_with s (with_mark day (figure_of st (as_judged day) earlier)))
      (none_first in_order (λ r. holds r st (as_judged day) earlier) (λ r. answered r))
