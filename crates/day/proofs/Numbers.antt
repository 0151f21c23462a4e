-- No two refusals have one number (`one_number`), so that what is told by the number of a refusal is that refusal (`refusal_told`). Assumes nothing.
use mathlib.Core.Path.{◌≡◌, refl, sym, ◌∙◌, ap}
use mathlib.Core.Bool.{cond}
use Prim.Native.Nat.{ℕ}
use lib.Dec.{eqb}
use Rattle.std.specs.Prelude.{Result, Ok, Err}
use Rattle.day.specs.Rules.{number_of, RefusalOf}
use Rattle.day.specs.declared.Refusal.{Refusal}
use Rattle.day.specs.declared.Refusal.TheVariants.{StationField, BadDate, Missing, OutOfRange, OutOfOrder, AboveClear}
use Rattle.day.specs.declared.UnknownRefusal.{UnknownRefusal}

why_of : ℕ → Refusal
why_of n =
    cond (eqb n 3) StationField
    (cond (eqb n 6) BadDate
    (cond (eqb n 7) Missing
    (cond (eqb n 8) OutOfRange
    (cond (eqb n 9) OutOfOrder
    AboveClear))))

given_back : (why : Refusal) → why_of (number_of why) ≡ why
unfolding why_of
given_back StationField = refl
given_back BadDate = refl
given_back Missing = refl
given_back OutOfRange = refl
given_back OutOfOrder = refl
given_back AboveClear = refl

pub one_number : (a b : Refusal) → number_of a ≡ number_of b → a ≡ b
one_number a b e = sym (given_back a) ∙ ap why_of e ∙ given_back b

pub refusal_told : {n : ℕ} (why : Refusal) (r : Result Refusal UnknownRefusal) → n ≡ number_of why → RefusalOf n r → r ≡ Ok why
refusal_told why (Ok told) e h = ap Ok (one_number told why (h ∙ e))
refusal_told why (Err none) e h = absurd (h.1 why (sym e))
