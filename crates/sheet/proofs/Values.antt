-- A value that is in a range: what the machine reads back of it, and expressions over what a call gave. Assumes nothing.
use mathlib.Core.Path.{◌≡◌, sym, ap, ◌∙◌, subst}
use mathlib.Core.Bool.{◌&&◌}
use mathlib.Core.List.{List, ◌∷◌}
use lib.Dec.{T}
use lib.IntN.{ℤ}
use mir.Facts.{to_z-of_z}
use Rattle.numbers.specs.Ranges.{Range, InRange}
use Rattle.numbers.proofs.RangeArithmetic.{fits_i64, inside, range_fits}
use Rattle.numbers.proofs.Reflection.{MachineExpression, Given, ◌and◌, read_back, machine, result, meaning, range, safe, equal_in, called}

-- a number in a range of i64 is read back as it was
pub read : {r : Range} {z : ℤ} → InRange r z → T (fits_i64 r) → read_back z ≡ z
read {r} {z} p t = to_z-of_z (range_fits r z t p.bounds)

pub keep : {r : Range} {z : ℤ} → InRange r z → T (fits_i64 r) → InRange r (read_back z)
keep {r} p t = subst (InRange r) (sym (read p t)) p

pub ap₃ : (f : ℤ → ℤ → ℤ → ℤ) {x x' y y' z z' : ℤ} → x ≡ x' → y ≡ y' → z ≡ z' → f x y z ≡ f x' y' z'
ap₃ f p q r = λ i. f (p i) (q i) (r i)

-- a value that is a meaning, and the meaning's range: what a contract of this crate ensures
pub said : {r : Range} {x z : ℤ} → x ≡ z → InRange r z → (x ≡ z) × InRange r x
said {r} e p = (e, subst (InRange r) (sym e) p)

-- what the machine reads back of a call's result
pub given_back : {r : Range} {x z : ℤ} → (x ≡ z) × InRange r x → T (fits_i64 r) → read_back x ≡ z
given_back p t = read p.1 t ∙ p.0

pub returned : {r : Range} {x z : ℤ} → (x ≡ z) × InRange r x → T (fits_i64 r) → (read_back x ≡ z) × InRange r (read_back x)
returned p t = (given_back p t, keep p.1 t)

-- expressions whose argument 0 is the result x of a call, which is z: the next call, and the value
module _ {rs : List Range} {zs : List ℤ} (g : Given rs zs) {r : Range} {x z : ℤ} (p : (x ≡ z) × InRange r x) where
  pub called_of : (e : MachineExpression) (s : Range) {y : ℤ} → y ≡ result e (x ∷ zs) →
      T (safe e (r ∷ rs) && inside (range e (r ∷ rs)) s) → (y ≡ meaning e (z ∷ zs)) × InRange s y
  called_of e s q t =
      let h = called (p.1 and g) e s q t in
      (h.0 ∙ ap (λ (v : ℤ). meaning e (v ∷ zs)) p.0, h.1)

  pub equal_of : (e : MachineExpression) (s : Range) →
      T (safe e (r ∷ rs) && inside (range e (r ∷ rs)) s) → (machine e (x ∷ zs) ≡ meaning e (z ∷ zs)) × InRange s (machine e (x ∷ zs))
  equal_of e s t =
      let h = equal_in (p.1 and g) e s t in
      (h.0 ∙ ap (λ (v : ℤ). meaning e (v ∷ zs)) p.0, h.1)
