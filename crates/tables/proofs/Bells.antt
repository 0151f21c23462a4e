-- The values of base + scale · exp(-(factor · (d - centre))²), for any such numbers: `bell_by_test`. Assumes nothing.
use mathlib.Core.Path.{◌≡◌, sym, ◌∙◌, ap, ap₂}
use mathlib.Core.Logic.Or
use mathlib.Core.Quot.{Quot-set}
use Prim.Native.Nat.{ℕ, ◌*◌, ◌-◌, ◌^◌, ◌≤◌}
use native.Mathlib.Nat.{le_total}
use native.Mathlib.Omega.{arith}
use lib.Dec.{T}
use Rattle.ratios.specs.Solver.{◌:-◌, ◌:*◌, ◌:^◌, ◌:=◌}
use Rattle.numbers.specs.Ranges.{Range}
use Rattle.numbers.specs.Fractions.{ℚ, ◌*ℚ◌, ◌-ℚ◌, ◌^ℚ◌}
use Rattle.numbers.proofs.FractionSolver.{ring_ℚ}
use Rattle.numbers.proofs.Order.{≤ℚ_refl}
use Rattle.tables.specs.Series.{exp_term, NearestOfSeries}
use Rattle.tables.specs.Tables.{billionth, bell_formula}
use Rattle.tables.specs.Values.{apart, Bell, bell_sums, bell_curve, curve_at}
use Rattle.numbers.proofs.StrictOrder.{whole, whole_mul, whole_sub}
use Rattle.numbers.proofs.FractionPowers.{whole_power}
use Rattle.numbers.proofs.Table.{up_to}
use Rattle.tables.proofs.Terms.{exp_sums}
use Rattle.tables.proofs.SumTests.{Encloses}
use Rattle.tables.proofs.Curves.{DayValues, day_test, curve_values}

-- how far apart, squared: (a - b)², whichever is the larger
apart_squared : (a b : ℕ) → whole (apart a b) ^ℚ 2 ≡ (whole a -ℚ whole b) ^ℚ 2
apart_squared a b = Or.elim (Quot-set (whole (apart a b) ^ℚ 2) ((whole a -ℚ whole b) ^ℚ 2)) (le_total a b) below above
  where
    below : a ≤ b → whole (apart a b) ^ℚ 2 ≡ (whole a -ℚ whole b) ^ℚ 2
    below h =
        let e : apart a b ≡ b - a = omega arith in
        ap (λ (n : ℕ). whole n ^ℚ 2) e
        ∙ ap (λ (z : ℚ). z ^ℚ 2) (whole_sub h)
        ∙ ring_ℚ 2 (λ a b. (b :- a) :^ 2 := (a :- b) :^ 2) tt (whole a) (whole b)

    above : b ≤ a → whole (apart a b) ^ℚ 2 ≡ (whole a -ℚ whole b) ^ℚ 2
    above h =
        let e : apart a b ≡ a - b = omega arith in
        ap (λ (n : ℕ). whole n ^ℚ 2) e ∙ ap (λ (z : ℚ). z ^ℚ 2) (whole_sub h)

-- den² (factor (d - centre))² = (num |d - centre|)²
square_is : (factor : ℚ) (num den centre d : ℕ) → whole den *ℚ factor ≡ whole num →
    whole (den ^ 2) *ℚ (factor *ℚ (whole d -ℚ whole centre)) ^ℚ 2 ≡ whole ((num * apart d centre) ^ 2)
square_is factor num den centre d h =
    ap (λ (z : ℚ). z *ℚ (factor *ℚ (whole d -ℚ whole centre)) ^ℚ 2) (whole_power den 2)
    ∙ ring_ℚ 3 (λ v f x. v :^ 2 :* (f :* x) :^ 2 := (v :* f) :^ 2 :* x :^ 2) tt (whole den) factor (whole d -ℚ whole centre)
    ∙ ap₂ (λ (y z : ℚ). y ^ℚ 2 *ℚ z) h (sym (apart_squared d centre))
    ∙ ring_ℚ 2 (λ n a. n :^ 2 :* a :^ 2 := (n :* a) :^ 2) tt (whole num) (whole (apart d centre))
    ∙ ap (λ (z : ℚ). z ^ℚ 2) (sym (whole_mul num (apart d centre)))
    ∙ sym (whole_power (num * apart d centre) 2)

-- the rule's factor and centre are those of the bell; both bounds are the series itself
bell_encloses : (factor : ℚ) (centre : ℕ) (b : Bell) → whole b.den *ℚ factor ≡ whole b.num → b.centre ≡ centre → (d : ℕ) →
    Encloses (bell_sums b d) (exp_term ((factor *ℚ (whole d -ℚ whole centre)) ^ℚ 2))
unfolding bell_sums
bell_encloses factor centre b h e d =
    let x : ℚ = (factor *ℚ (whole d -ℚ whole centre)) ^ℚ 2 in
    let square = square_is factor b.num b.den centre d h ∙ ap (λ (k : ℕ). whole ((b.num * apart d k) ^ 2)) (sym e) in
    let sums = exp_sums x ((b.num * apart d b.centre) ^ 2) (b.den ^ 2) square in
    record {
      least = exp_term x;
      most = exp_term x;
      low_sums = sums;
      high_sums = sums;
      at_least = λ k. ≤ℚ_refl (exp_term x k);
      at_most = λ k. ≤ℚ_refl (exp_term x k);
    }

-- the rule's base and scale are those of the bell, which has them in billionths
pub bell_by_test : (range : Range) (b : Bell) (base scale factor : ℚ) (centre : ℕ) →
    whole b.base *ℚ billionth ≡ base → whole b.scale *ℚ billionth ≡ scale → whole b.den *ℚ factor ≡ whole b.num → b.centre ≡ centre →
    T (up_to (day_test range (bell_curve b)) 366) →
    DayValues (curve_at (bell_curve b)) (λ d r. NearestOfSeries billionth r (bell_formula base scale factor centre d)) range
unfolding bell_formula
bell_by_test range b base scale factor centre eb es ef ec =
    curve_values range (bell_curve b) eb es (λ d r. NearestOfSeries billionth r (bell_formula base scale factor centre d))
    (λ d r nearest. nearest _ (bell_encloses factor centre b ef ec d))
