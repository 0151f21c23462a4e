-- `day::inputs::earlier_of` meets its contract. Assumes nothing.
use mathlib.Core.Path.{◌≡◌, refl, sym, ◌∙◌, ap}
use mathlib.Core.List.{List, [], ◌∷◌}
use Prim.Native.Nat.{suc, ◌+◌}
use native.Mathlib.Omega.{arith}
use lib.IntN.{ℤ, pos, ◌+ℤ◌, +ℤ_idl, +ℤ_idr}
use lib.ListN.{length}
use Rattle.std.specs.Prelude.{Option, Some, None}
use Rattle.numbers.specs.Ranges.{from◌to◌}
use Rattle.numbers.proofs.Reflection.{MachineExpression, arg, ◌+ᵐ◌, Given, none, ◌and◌, equal_in}
use Rattle.sheet.specs.Quantities as quantities
use Rattle.sheet.specs.StepSheet.{sum_of}
use Rattle.sheet.proofs.Values.{ap₃}
use Rattle.day.specs.Judgement.{with_mean, means_of, earlier_of}
use Rattle.day.specs.Parts.{count_of, tenths_of}
use Rattle.day.specs.declared.Earlier.{Earlier}
use Rattle.day.proofs.inputs.earlier_of.Goals as goal

-- one more mean, or none, before the others
count_with : (m : Option ℤ) (fs : List ℤ) → count_of m +ℤ pos (length fs) ≡ pos (length (with_mean m fs))
count_with (Some f) fs = let e : 1 + length fs ≡ suc (length fs) = omega arith in ap pos e
count_with None fs = +ℤ_idl (pos (length fs))

tenths_with : (m : Option ℤ) (fs : List ℤ) → tenths_of m +ℤ sum_of fs ≡ sum_of (with_mean m fs)
unfolding sum_of
tenths_with (Some f) fs = refl
tenths_with None fs = +ℤ_idl (sum_of fs)

abbrev sum₃ : ℤ → ℤ → ℤ → ℤ
sum₃ a b c = a +ℤ (b +ℤ c)

number_is : (earlier : Earlier) → sum₃ (count_of earlier.one) (count_of earlier.two) (count_of earlier.three) ≡ pos (length (means_of earlier))
unfolding means_of
number_is earlier =
    let three = with_mean earlier.three [] in
    ap (λ (x : ℤ). sum₃ (count_of earlier.one) (count_of earlier.two) x) (sym (+ℤ_idr (count_of earlier.three)) ∙ count_with earlier.three [])
    ∙ ap (λ (x : ℤ). count_of earlier.one +ℤ x) (count_with earlier.two three)
    ∙ count_with earlier.one (with_mean earlier.two three)

total_is : (earlier : Earlier) → sum₃ (tenths_of earlier.one) (tenths_of earlier.two) (tenths_of earlier.three) ≡ sum_of (means_of earlier)
unfolding means_of sum_of
total_is earlier =
    let three = with_mean earlier.three [] in
    ap (λ (x : ℤ). sum₃ (tenths_of earlier.one) (tenths_of earlier.two) x) (sym (+ℤ_idr (tenths_of earlier.three)) ∙ tenths_with earlier.three [])
    ∙ ap (λ (x : ℤ). tenths_of earlier.one +ℤ x) (tenths_with earlier.two three)
    ∙ tenths_with earlier.one (with_mean earlier.two three)

abbrev all : MachineExpression
all = arg 0 +ᵐ (arg 1 +ᵐ arg 2)

pub returns : goal.returns
unfolding earlier_of
returns c =
    let counted : Given ((from 0 to 1) ∷ (from 0 to 1) ∷ (from 0 to 1) ∷ []) (c.count_of.result ∷ c.count_of-2.result ∷ c.count_of-3.result ∷ []) =
    c.count_of.ensures.1 and c.count_of-2.ensures.1 and c.count_of-3.ensures.1 and none
    in
    let totalled : Given (quantities.temperature ∷ quantities.temperature ∷ quantities.temperature ∷ []) (c.tenths_of.result ∷ c.tenths_of-2.result ∷ c.tenths_of-3.result ∷ []) =
    c.tenths_of.ensures.1 and c.tenths_of-2.ensures.1 and c.tenths_of-3.ensures.1 and none
    in
    let k = equal_in counted all quantities.earlier_count tt in
    let z = equal_in totalled all quantities.earlier_sum tt in
    let k-is = k.0 ∙ ap₃ sum₃ c.count_of.ensures.0 c.count_of-2.ensures.0 c.count_of-3.ensures.0 ∙ number_is c.args.earlier in
    let z-is = z.0 ∙ ap₃ sum₃ c.tenths_of.ensures.0 c.tenths_of-2.ensures.0 c.tenths_of-3.ensures.0 ∙ total_is c.args.earlier in
    ((λ i. record { k = k-is i; z = z-is i }), record { k = k.1; z = z.1 })
