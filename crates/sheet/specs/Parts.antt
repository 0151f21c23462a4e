-- Two parts of the step sheet that the code works out from plain numbers: what a day's heat and its figure are made of. Assumes nothing.
use Rattle.std.specs.Prelude.{ℤ}
use Rattle.sheet.specs.StepSheet.{e, D, M, g, w1, w2, K, B, r, emittance, Rb, A, Figure}

-- the radiation that goes out, of the maximum, the minimum, the dew point, a1, the radiation and the clear-day radiation
abbrev pub outgoing : ℤ → ℤ → ℤ → ℤ → ℤ → ℤ → ℤ
outgoing maximum minimum dewpoint a1 s Q = Rb (emittance a1 (r (e dewpoint))) (B maximum minimum) (K s Q)

-- the heat and the drying weighed, and the figure of the amount
abbrev pub weighed : ℤ → ℤ → ℤ → ℤ → ℤ
weighed m p H T = Figure (A (w1 (D m) (g p (M m))) (w2 (D m) (g p (M m))) H T) (M m)
