-- `text::answer_walk::put_lines` meets its contract. Assumes nothing.
use Rattle.std.specs.Prelude.{Some, None}
use mathlib.Core.Path.{refl, ◌∙◌, subst}
use mathlib.Core.List.{[]}
use Prim.Native.Nat.{ℕ}
use native.Mathlib.Omega.{arith}
use Rattle.text.specs.Report.{lines_of}
use Rattle.text.specs.Walk.{Stands}
use Rattle.text.proofs.Behind.{given_of, stands_up_to}
use Rattle.text.proofs.Going.{inside}
use Rattle.text.proofs.Walked.{none_walked, stands, line_room_lem, one_walked, end_room, all_walked}
use Rattle.text.proofs.answer_walk.put_lines.Goals as goal

pub loop-at-init : goal.loop-at-init
loop-at-init g c =
    let asked = c.requires in
    let laws = g.met.P.Page.laws in
    let none = laws.front c.args.page.now [] (lines_of asked.0) asked.3 in
    rw (c.into_iter-at-iterator.ensures.into_iter_gives, c.each-at-items.ensures.bytes, c.each-at-items.ensures.at) ((asked.0, asked.1), tt, refl, omega arith, λ all h ordered. none_walked laws none h ordered)

pub put_line-requires : goal.put_line-requires
put_line-requires g c =
    let asked = c.requires in
    let laws = g.met.P.Page.laws in
    let inv = c.loop-at.invariant in
    let w = inv.4 asked.0 asked.1 asked.2 in
    let step = given_of c.loop-at.at-iterator.at c.next.new.self.at (Some (c.in-Some.at, c.in-Some.a)) inv.2 c.in-Some.ensures.steps.1 in
    (w.seen, rw step.0 (stands_up_to c.args.answers.bytes.now c.loop-at.block w.seen (stands laws w) inv.3), line_room_lem laws w step.1 step.2 asked.3)

pub loop-at-preserved : goal.loop-at-preserved
loop-at-preserved g c =
    let asked = c.requires in
    let laws = g.met.P.Page.laws in
    let inv = c.loop-at.invariant in
    let step = given_of c.loop-at.at-iterator.at c.next.new.self.at (Some (c.in-Some.at, c.in-Some.a)) inv.2 c.in-Some.ensures.steps.1 in (
      c.in-Some.ensures.goes.keeps,
      tt,
      c.in-Some.ensures.steps.0 ∙ inv.2,
      rw step.3 (inside laws (inv.4 asked.0 asked.1 asked.2).going step.1 step.2),
      λ all h ordered.
          let w = inv.4 all h ordered in
          rw (c.open_after-block.ensures, c.size.ensures, step.0, step.3) (
          one_walked laws w step.1 step.2 (c.put_line.ensures w.seen (rw step.0 (stands_up_to c.args.answers.bytes.now c.loop-at.block w.seen (stands laws w) inv.3)))),
    )

-- ---- behind the last answer

pub put_about-requires : goal.put_about-requires
put_about-requires g c =
    let asked = c.requires in
    let laws = g.met.P.Page.laws in
    let inv = c.loop-at.invariant in
    let w = inv.4 asked.0 asked.1 asked.2 in
    let end = given_of c.loop-at.at-iterator.at c.next.new.self.at None inv.2 c.in-None.ensures.steps.1 in (
      w.seen,
      subst (λ (at : ℕ). Stands c.args.answers.bytes.now at c.loop-at.block w.seen) end.0 (stands laws w),
      end_room laws w (omega (arith, end.0)) asked.3,
    )

pub returns : goal.returns
returns g c = λ all h ordered.
    let laws = g.met.P.Page.laws in
    let inv = c.loop-at.invariant in
    let w = inv.4 all h ordered in
    let end = given_of c.loop-at.at-iterator.at c.next.new.self.at None inv.2 c.in-None.ensures.steps.1 in
    all_walked laws w (omega (arith, end.0))
    (c.put_about.ensures w.seen (subst (λ (at : ℕ). Stands c.args.answers.bytes.now at c.loop-at.block w.seen) end.0 (stands laws w)))
