-- No answered day's figure is above 8 inches, so that whoever writes one knows how long it can be. The theorem is `figure_most`;
-- that every figure is in the sheet's own range (`figure_in_range`) follows from it. Assumes nothing.
use mathlib.Core.Path.{◌≡◌, refl}
use Prim.Native.Nat.{ℕ}
use native.Mathlib.Omega.{arith}
use Rattle.std.specs.Prelude.{Result, Ok, Err}
use Rattle.equation.proofs.FigureLimit as sheet-limit
use Rattle.day.specs.Judgement.{readings_of, entries_of, clear_of, means_of, earlier_of, figure_of, standing_of, as_judged, with_mark, verdict_with, judged, Verdict}
use Rattle.day.specs.Bound.{SignedConstants, FigureAtMost, FigureInRange}
use Rattle.day.specs.declared.Station.{Station}
use Rattle.day.specs.declared.Day.{Day}
use Rattle.day.specs.declared.Earlier.{Earlier}
use Rattle.day.specs.declared.Refusal.{Refusal}
use Rattle.day.specs.declared.Figure.TheVariants.{Measured, Estimated}
use Rattle.day.proofs.Marks.{either_way}
use Rattle.day.proofs.Standings.{stands_answered}
use Rattle.day.proofs.DayBound.{constants_of, accepted}

-- in ten-thousandths of an inch
abbrev pub most_figure : ℕ
most_figure = 80_000

pub figure_most : (st : Station) (x : Day) (earlier : Earlier) → SignedConstants st → FigureAtMost most_figure (judged st x earlier)
unfolding judged figure_of earlier_of clear_of
figure_most st x earlier constants = by (standing_of st (as_judged x) earlier) refl
  where
    y : Day
    y = as_judged x

    by : (s : Result (Unit {0}) Refusal) → standing_of st (as_judged x) earlier ≡ s → FigureAtMost most_figure (verdict_with s (with_mark x (figure_of st (as_judged x) earlier)))
    by (Err r) p = tt
    by (Ok done) p =
        let most =
        sheet-limit.figure_most (readings_of y) (entries_of st y) (means_of earlier) (constants_of st y)
        (accepted st y earlier constants (stands_answered st y earlier p)) in
        either_way (λ f. FigureAtMost most_figure (Ok f)) x most most

wider : (v : Verdict) → FigureAtMost most_figure v → FigureInRange v
wider (Ok (Measured n)) h = omega arith
wider (Ok (Estimated n)) h = omega arith
wider (Err r) h = tt

pub figure_in_range : (st : Station) (x : Day) (earlier : Earlier) → SignedConstants st → FigureInRange (judged st x earlier)
figure_in_range st x earlier constants = wider (judged st x earlier) (figure_most st x earlier constants)
