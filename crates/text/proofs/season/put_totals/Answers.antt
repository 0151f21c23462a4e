-- `text::season::put_totals` meets its contract. Assumes nothing.
use Rattle.std.specs.Prelude.{Option, Some, None}
use mathlib.Core.Path.{◌≡◌, refl, sym, ap, ◌∙◌, subst}
use mathlib.Core.List.{List, [], ◌∷◌, ◌++◌}
use Prim.Native.Nat.{ℕ, ◌+◌, ◌≤◌, ◌<◌}
use native.Mathlib.Omega.{arith}
use lib.ListN.{length}
use Rattle.answers.specs.Answers.{answer_bytes}
use Rattle.answers.specs.ReadBack.{StandsAt}
use Rattle.answers.specs.declared.Answer.{Answer}
use Rattle.answers.proofs.Roles.{some_bytes}
use Rattle.day.specs.declared.Code.{Code}
use Rattle.totals.specs.Tally.{begun, after, ended, InMonthOrder}
use Rattle.totals.specs.Totals.{counted_of}
use Rattle.totals.specs.declared.tally.Counted.{Counted}
use Rattle.totals.specs.declared.tally.Tally.{Tally}
use Rattle.text.specs.Page.{PageLaws}
use Rattle.text.specs.Report.{month_text, season_text, about_block}
use Rattle.text.proofs.Behind.{given_of}
use Rattle.text.proofs.Going.{Going, none_gone, inside, room, one_more, room_last, all_laid}
use Rattle.text.proofs.InTurn.{told, about_in_turn}
use Rattle.text.proofs.season.put_totals.Goals as goal

-- the block's answers up to an index have been gone through: `kept` is what is kept of them
module _ {P : Type 0} {Room : P → List ℕ → Type 0} {Laid : P → List ℕ → P → Type 0} (laws : PageLaws Room Laid) {s : List ℕ} {end : ℕ} {start : P} {at : ℕ} {page : P}
    (code : Code) (kept : Tally) (own : List Answer) (g : Going Laid s end start at page (told code kept) (told code begun own)) where
  abbrev month : List ℕ
  month = month_text code kept.year kept.month kept.total

  abbrev season : List ℕ
  season = season_text code kept.season

  -- the answer that stands there, and what of it is counted
  module _ (h : at < end) {a : Answer} (is : (b : Answer) → StandsAt s at b → a ≡ b) {counted : Option Counted} (e : counted ≡ counted_of a) where
    prints : (rest : List Answer) → told code kept (a ∷ rest) ≡ ended (month_text code) kept counted ++ told code (after kept counted) rest
    prints rest = ap (λ (c : Option Counted). ended (month_text code) kept c ++ told code (after kept c) rest) (sym e)

    turn_room : Room start (told code begun own) → Room page (ended (month_text code) kept counted)
    turn_room = room laws g h is (ended (month_text code) kept counted) (told code (after kept counted)) prints

    goes_on : {between : P} → Laid page (ended (month_text code) kept counted) between
        → Going Laid s end start (at + length (answer_bytes a)) between (told code (after kept counted)) (told code begun own)
    goes_on w = (one_more laws g h is (ended (month_text code) kept counted) (told code (after kept counted)) prints w).0

  -- behind the last
  module _ (h : end ≤ at) where
    last_room : Room start (told code begun own) → Room page (month ++ season)
    last_room = room_last laws g h

    ends : {between behind : P} → Laid page month between → Laid between season behind → InMonthOrder 0 own → Laid start (about_block code own) behind
    ends {between} {behind} v w ordered =
        subst (λ (lines : List ℕ). Laid start lines behind) (about_in_turn code own ordered)
        (all_laid laws g h (laws.then page between behind month season v w))

-- the room for the lines as they are gone through
in_turn : {P : Type 0} (Room : P → List ℕ → Type 0) {start : P} (code : Code) (own : List Answer) → InMonthOrder 0 own → Room start (about_block code own)
    → Room start (told code begun own)
in_turn Room {start} code own ordered = subst (Room start) (sym (about_in_turn code own ordered))

pub loop-a-init : goal.loop-a-init
loop-a-init g c =
    let asked = c.requires in
    let laws = g.met.P.Page.laws in
    let none = laws.front c.args.page.now [] (about_block c.args.code asked.0) asked.3 in
    rw (c.start-totals.ensures, c.into_iter-a-iterator.ensures.into_iter_gives, c.each-a-items.ensures.bytes, c.each-a-items.ensures.at) (
      (asked.0, asked.1),
      tt,
      refl,
      omega arith,
      ((omega arith, omega arith), (omega arith, omega arith)),
      λ own h. none_gone laws none h,
    )

pub put_ended-requires : goal.put_ended-requires
put_ended-requires g c =
    let asked = c.requires in
    let inv = c.loop-a.invariant in
    let step = given_of c.loop-a.a-iterator.at c.next.new.self.at (Some (c.in-Some.field-0-0, c.in-Some.a)) inv.2 c.in-Some.ensures.steps.1 in
    turn_room g.met.P.Page.laws c.args.code c.loop-a.totals asked.0 (inv.5 asked.0 asked.1) step.1 step.2 c.counted_of-counted.ensures
    (in_turn g.P.Page.Room c.args.code asked.0 asked.2 asked.3)

pub loop-a-preserved : goal.loop-a-preserved
loop-a-preserved g c =
    let asked = c.requires in
    let inv = c.loop-a.invariant in
    let step = given_of c.loop-a.a-iterator.at c.next.new.self.at (Some (c.in-Some.field-0-0, c.in-Some.a)) inv.2 c.in-Some.ensures.steps.1 in
    let laws = g.met.P.Page.laws in
    let w = c.tallied-totals.ensures.by_index c.loop-a.a-iterator.at inv.4 in
    let some = some_bytes c.in-Some.a in
    let same = c.in-Some.ensures.steps.0 ∙ inv.2 in
    let next = step.3 in (
      c.in-Some.ensures.goes.keeps,
      tt,
      same,
      rw next (inside laws (inv.5 asked.0 asked.1) step.1 step.2),
      ((omega (arith, some, w.0.0), omega (arith, some, w.0.1)), (omega (arith, some, w.1.0), omega (arith, some, w.1.1))),
      λ own h. rw (c.tallied-totals.ensures.value, next) (
          goes_on laws c.args.code c.loop-a.totals own (inv.5 own h) step.1 step.2 c.counted_of-counted.ensures c.put_ended.ensures),
    )

-- ---- behind the last answer: the line of the last month, and the season line

pub put_month-requires : goal.put_month-requires
put_month-requires g c =
    let asked = c.requires in
    let inv = c.loop-a.invariant in
    let t = c.loop-a.totals in
    let end = given_of c.loop-a.a-iterator.at c.next.new.self.at None inv.2 c.in-None.ensures.steps.1 in
    let laws = g.met.P.Page.laws in
    laws.front c.loop-a.page (month_text c.args.code t.year t.month t.total) (season_text c.args.code t.season)
    (last_room laws c.args.code t asked.0 (inv.5 asked.0 asked.1) (omega (arith, end.0)) (in_turn g.P.Page.Room c.args.code asked.0 asked.2 asked.3))

pub put-requires : goal.put-requires
put-requires g c =
    let asked = c.requires in
    let inv = c.loop-a.invariant in
    let t = c.loop-a.totals in
    let end = given_of c.loop-a.a-iterator.at c.next.new.self.at None inv.2 c.in-None.ensures.steps.1 in
    let laws = g.met.P.Page.laws in
    laws.behind c.loop-a.page c.put_month.new.page (month_text c.args.code t.year t.month t.total) (season_text c.args.code t.season)
    (last_room laws c.args.code t asked.0 (inv.5 asked.0 asked.1) (omega (arith, end.0)) (in_turn g.P.Page.Room c.args.code asked.0 asked.2 asked.3))
    c.put_month.ensures

pub returns : goal.returns
returns g c = λ own h ordered.
    let inv = c.loop-a.invariant in
    let end = given_of c.loop-a.a-iterator.at c.next.new.self.at None inv.2 c.in-None.ensures.steps.1 in
    ends g.met.P.Page.laws c.args.code c.loop-a.totals own (inv.5 own h) (omega (arith, end.0)) c.put_month.ensures c.put.ensures ordered
