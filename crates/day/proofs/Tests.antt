-- What is known of a number that the machine reads back from sixteen bits, and of one that passed a test. Assumes nothing.
use mathlib.Core.Path.{◌≡◌, refl, ◌∙◌, subst}
use mathlib.Core.Bool.{Bool, true, false, not, cond}
use mathlib.Core.List.{List, [], ◌∷◌}
use Prim.Native.Nat.{ℕ, ◌≤◌, zero-le}
use native.Mathlib.Omega.{arith}
use lib.IntN.{ℤ, pos, negsuc}
use lib.Dec.{T}
use mir.Syntax.{w16}
use mir.Val.{SFits, to_z, of_z}
use mir.Facts.{to_z-of_z}
use Rattle.numbers.specs.Ranges.{Range, InRange, in_range, from◌to◌}
use Rattle.numbers.proofs.RangeTests.{test_in_range}
use Rattle.numbers.proofs.Reflection.{read_back}
use Rattle.sheet.specs.Quantities as quantities
use Rattle.sheet.proofs.Values.{said, given_back, returned}
use Rattle.day.specs.Rules.{any_of}

-- what sixteen bits hold
pub in_word : (z : ℤ) → SFits w16 z → InRange quantities.signed_word z
in_word (pos n) h = record { bounds = omega (arith, h.sfits) }
in_word (negsuc n) h = record { bounds = omega (arith, h.sfits) }

abbrev pub read16 : ℤ → ℤ
read16 z = to_z w16 (of_z w16 z)

-- a number of sixteen bits that was widened, read back; and one without sign
pub widened : {x z : ℤ} → SFits w16 z → x ≡ read16 z → (read_back x ≡ z) × InRange quantities.signed_word (read_back x)
widened {x} {z} f p =
    let e : x ≡ z = p ∙ to_z-of_z f in
    returned (said e (in_word z f)) tt

pub unsigned : {x : ℤ} {n : ℕ} → n ≤ 65535 → x ≡ pos n → read_back x ≡ pos n
unsigned h e = given_back {r = from 0 to 65535} (said e (record { bounds = (zero-le, h) })) tt

-- a test in a row that fails leaves it to the next
pub first_there : {A : Type 0} (x : A) {y rest : A} {b : Bool} → b ≡ false → y ≡ rest → y ≡ cond b x rest
first_there x e p = rw e p

-- ---- a day that passed the tests

-- no test of the row held: each of them is false
abbrev pub AllFalse : List Bool → Type 0
AllFalse [] = Unit {0}
AllFalse (b ∷ bs) = (b ≡ false) × AllFalse bs

pub all_false : (bs : List Bool) → any_of bs ≡ false → AllFalse bs
all_false [] e = tt
all_false (true ∷ bs) e = absurd (subst T e tt)
all_false (false ∷ bs) e = (refl, all_false bs e)

pub passed : (r : Range) {z : ℤ} → not (in_range r z) ≡ false → InRange r z
passed r {z} e = test_in_range r z (true_of (in_range r z) e)
  where
    true_of : (b : Bool) → not b ≡ false → T b
    true_of true e = tt
    true_of false e = absurd (subst T e tt)
