-- `day::judge::judge` meets its contract: what refuses the day, or else its figure, which is within the bound and in its range. Assumes nothing.
use mathlib.Core.Path.{◌≡◌, sym, ◌∙◌, ap, subst}
use native.Mathlib.Omega.{arith}
use mir.Syntax.{w16}
use mir.Val.{SFits}
use Rattle.std.proofs.Common.{rules}
use Rattle.std.specs.Prelude.{Result, Ok, Err}
use Rattle.day.specs.Judgement.{figure_of, standing_of, as_judged, with_mark, verdict_with, judged, Verdict}
use Rattle.day.specs.Bound.{SignedConstants, FigureOwed, JudgesWithinBound, FigureInRange}
use Rattle.day.specs.declared.Station.{Station}
use Rattle.day.specs.declared.Day.{Day}
use Rattle.day.specs.declared.Earlier.{Earlier}
use Rattle.day.specs.declared.Refusal.{Refusal}
use Rattle.day.proofs.Tests.{in_word}
use Rattle.day.proofs.Standings.{stands_answered, stands_as_judged}
use Rattle.day.proofs.DayBound.{judged_within_bound}
use Rattle.day.proofs.FigureLimit.{figure_in_range}
use Rattle.day.proofs.judge.judge.Goals as goal

constants : (st : Station) → SFits w16 st.c1 × SFits w16 st.c2 × SFits w16 st.c3 × SFits w16 st.c4 × SFits w16 st.c5 → SignedConstants st
constants st h =
    record { c1 = in_word st.c1 h.0; c2 = in_word st.c2 h.1; c3 = in_word st.c3 h.2; c4 = in_word st.c4 h.3; c5 = in_word st.c5 h.4 }

-- what is judged has the bound, and no figure is above the largest
owed : (st : Station) (day : Day) (earlier : Earlier) → SignedConstants st → {v : Verdict} → v ≡ judged st day earlier → FigureOwed st day earlier v
unfolding JudgesWithinBound
owed st day earlier constants e = subst (FigureOwed st day earlier) (sym e) (judged_within_bound st day earlier constants)

-- what the standing says of the day is its verdict
told : (st : Station) (day : Day) (earlier : Earlier) {s : Result (Unit {0}) Refusal} → s ≡ standing_of st (as_judged day) earlier
    → verdict_with s (with_mark day (figure_of st (as_judged day) earlier)) ≡ judged st day earlier
unfolding judged
told st day earlier e = ap (λ (s : Result (Unit {0}) Refusal). verdict_with s (with_mark day (figure_of st (as_judged day) earlier))) e

in_range : (st : Station) (day : Day) (earlier : Earlier) → SignedConstants st → {v : Verdict} → v ≡ judged st day earlier → FigureInRange v
in_range st day earlier constants e = subst FigureInRange (sym e) (figure_in_range st day earlier constants)

pub returns-in_err-standing : goal.returns-in_err-standing
returns-in_err-standing c =
    let same : c.from_residual.result ≡ Err c.in_err-standing.field-0.0 = search rules in
    let signed = constants c.args.station (omega arith) in
    let e : c.from_residual.result ≡ judged c.args.station c.args.day c.args.earlier =
    same
    ∙ told c.args.station c.args.day c.args.earlier
    (sym c.in_err-standing.was ∙ stands_as_judged c.args.station c.args.day c.args.earlier c.standing.ensures c.as_judged-x.ensures)
    in
    record {
      value = e;
      figure_owed = owed c.args.station c.args.day c.args.earlier signed e;
      figure_in_range = in_range c.args.station c.args.day c.args.earlier signed e;
    }

pub figure-requires : goal.figure-requires
figure-requires c = stands_answered c.args.station c.as_judged-x.result c.args.earlier (sym c.standing.ensures ∙ c.in_ok-standing.was)

pub returns : goal.returns
returns c =
    let signed = constants c.args.station (omega arith) in
    let e : Ok c.with_mark.result ≡ judged c.args.station c.args.day c.args.earlier =
    ap Ok
    (c.with_mark.ensures
    ∙ ap (with_mark c.args.day)
    (c.figure.ensures ∙ ap (λ (y : Day). figure_of c.args.station y c.args.earlier) c.as_judged-x.ensures))
    ∙ told c.args.station c.args.day c.args.earlier
    (sym c.in_ok-standing.was ∙ stands_as_judged c.args.station c.args.day c.args.earlier c.standing.ensures c.as_judged-x.ensures)
    in
    record {
      value = e;
      figure_owed = owed c.args.station c.args.day c.args.earlier signed e;
      figure_in_range = in_range c.args.station c.args.day c.args.earlier signed e;
    }
