-- A figure with its mark or without it: what holds of both holds of the one that the day has (`either_way`). Assumes nothing.
use mathlib.Core.Bool.{Bool, true, false, cond}
use Prim.Native.Nat.{ℕ}
use Rattle.day.specs.Judgement.{lacks_dew_point, with_mark}
use Rattle.day.specs.declared.Day.{Day}
use Rattle.day.specs.declared.Figure.{Figure}
use Rattle.day.specs.declared.Figure.TheVariants.{Measured, Estimated}

pub either_way : (Holds : Figure → Type 0) (x : Day) {n : ℕ} → Holds (Measured n) → Holds (Estimated n) → Holds (with_mark x n)
unfolding with_mark
either_way Holds x {n} plain marked = by (lacks_dew_point x)
  where
    by : (lacks : Bool) → Holds (cond lacks (Estimated n) (Measured n))
    by true = marked
    by false = plain
