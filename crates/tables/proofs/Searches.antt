-- The first number at which a test passes, `first` of Values.antt: it passes there (`first_passes`) and nowhere
-- before (`none_before`). Assumes nothing.
use mathlib.Core.Path.{◌≡◌, refl, sym, ◌∙◌, ap, subst}
use mathlib.Core.Logic.{⊎_elim}
use mathlib.Core.Bool.{Bool, true, false, cond}
use Prim.Native.Nat.{ℕ, zero, suc, ◌+◌, ◌≤◌, ◌<◌}
use native.Mathlib.Nat.{eq-or-lt_of_le}
use native.Mathlib.Omega.{arith}
use lib.Dec.{T}
use Rattle.tables.specs.Values.{first}

not_below : (a b : ℕ) → ¬ (a < b) → b ≤ a
not_below a b h = omega arith

module _ (f : ℕ → Bool) where
  passes_by : (k r x : ℕ) (b : Bool) → f k ≡ b → k ≤ r → T (f r) → (suc k ≤ r → T (f x)) → T (f (cond b k x))
  passes_by k r x true e l t ih = subst T (sym e) tt
  passes_by k r x false e l t ih = ⊎_elim (λ (q : k ≡ r). absurd (subst T (ap f (sym q) ∙ e) t)) ih (eq-or-lt_of_le l)

  passes_from : (n k r : ℕ) → k ≤ r → r < k + n → T (f r) → T (f (first f n k))
  unfolding first
  passes_from zero k r l h t = absurd (omega arith)
  passes_from (suc n) k r l h t = passes_by k r (first f n (suc k)) (f k) refl l t (λ (g : suc k ≤ r). passes_from n (suc k) r g (omega arith) t)

  none_by : (k j x : ℕ) (b : Bool) → f k ≡ b → k ≤ j → j < cond b k x → (suc k ≤ j → j < x → ¬ T (f j)) → ¬ T (f j)
  none_by k j x true e l h ih = absurd (omega arith)
  none_by k j x false e l h ih =
      λ t. ⊎_elim (λ (q : k ≡ j). subst T (ap f (sym q) ∙ e) t) (λ (g : k < j). ih g h t) (eq-or-lt_of_le l)

  none_from : (n k j : ℕ) → k ≤ j → j < first f n k → ¬ T (f j)
  unfolding first
  none_from zero k j l h = absurd (omega arith)
  none_from (suc n) k j l h = none_by k j (first f n (suc k)) (f k) refl l h (none_from n (suc k) j)

  -- ---- the search from 0 on

  pub none_before : (n j : ℕ) → j < first f n 0 → ¬ T (f j)
  none_before n j h = none_from n 0 j (omega arith) h

  -- where the test passes at some r below n
  module _ (n r : ℕ) (below : r < n) (passes : T (f r)) where
    pub first_passes : T (f (first f n 0))
    first_passes = passes_from n 0 r (omega arith) (omega arith) passes

    pub first_at_most : first f n 0 ≤ r
    first_at_most = not_below r (first f n 0) (λ (h : r < first f n 0). none_before n r h passes)

    pub first_at_least : (l : ℕ) → ((j : ℕ) → j < l → ¬ T (f j)) → l ≤ first f n 0
    first_at_least l none = not_below (first f n 0) l (λ (h : first f n 0 < l). none (first f n 0) h first_passes)

    pub first_is : ((j : ℕ) → j < r → ¬ T (f j)) → first f n 0 ≡ r
    first_is none = omega (arith, first_at_most, first_at_least r none)
