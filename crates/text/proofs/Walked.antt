-- The walk over a log's answers that has come to an index: its page (`Going`), and what the open block has had. What the next answer makes of it
-- (`one_walked`), the room that there is for its line (`line_room_lem`), and the end (`end_room`, `all_walked`). Assumes nothing.
use Rattle.std.specs.Prelude.{Option, None}
use mathlib.Core.Path.{◌≡◌, sym, subst}
use mathlib.Core.List.{List, []}
use Prim.Native.Nat.{ℕ, ◌+◌, ◌≤◌, ◌<◌}
use lib.ListN.{length}
use Rattle.answers.specs.Answers.{role_of, answer_bytes}
use Rattle.answers.specs.ReadBack.{StandsAt}
use Rattle.answers.specs.declared.Answer.{Answer}
use Rattle.text.specs.Page.{PageLaws}
use Rattle.text.specs.Report.{own, lines_of}
use Rattle.text.specs.Walk.{Holds, Ordered, Stands, open_after, about_open, printed}
use Rattle.text.proofs.Blocks.{seen_after, lines_from, prints, prints_last, InBlock, block_stands, next_in_block}
use Rattle.text.specs.declared.answer_walk.Block.{Block}
use Rattle.text.proofs.Going.{Going, none_gone, stands_as, room, one_more, room_last, all_laid}

pub record Walked {P : Type 0} (Laid : P → List ℕ → P → Type 0) (s : List ℕ) (n : ℕ) (start : P) (at : ℕ) (page : P) (block : Option Block) (all : List Answer)
    : Type 0 where
  pub seen : List Answer
  pub going : Going Laid s n start at page (lines_from block seen) (lines_of all)
  pub in_block : InBlock s at block seen (own going.left)
  pub ordered : Ordered going.left

module _ {P : Type 0} {Room : P → List ℕ → Type 0} {Laid : P → List ℕ → P → Type 0} (laws : PageLaws Room Laid) {s : List ℕ} {n : ℕ} {start : P} {all : List Answer} where
  pub none_walked : Room start [] → Holds s 0 n all → Ordered all → Walked Laid s n start 0 start None all
  unfolding none_gone
  none_walked fits h ordered = record { seen = []; going = none_gone laws fits h; in_block = tt; ordered = ordered }

  module _ {at : ℕ} {page : P} {block : Option Block} (w : Walked Laid s n start at page block all) where
    pub stands : Stands s at block w.seen
    stands = block_stands s at block w.seen (own w.going.left) w.in_block

    module _ (h : at < n) {r : Answer} (is : (b : Answer) → StandsAt s at b → r ≡ b) where
      abbrev next : ℕ
      next = at + length (answer_bytes r)

      -- what it prints, and what those behind it print
      abbrev line : List ℕ
      line = printed block w.seen (role_of r) r

      abbrev onward : List Answer → List ℕ
      onward = lines_from (open_after block (role_of r) next) (seen_after w.seen (role_of r) r)

      pub line_room_lem : Room start (lines_of all) → Room page line
      line_room_lem = room laws w.going h is line onward (prints block w.seen r next)

      pub one_walked : {after : P} → Laid page line after → Walked Laid s n start next after (open_after block (role_of r) next) all
      one_walked laid =
          let more = one_more laws w.going h is line onward (prints block w.seen r next) laid in
          let ordered = subst Ordered more.1 w.ordered in
          record {
            seen = seen_after w.seen (role_of r) r;
            going = more.0;
            in_block =
                next_in_block s at w.seen r (stands_as laws w.going h is) block more.0.left ordered.0
                (subst (λ (l : List Answer). InBlock s at block w.seen (own l)) more.1 w.in_block);
            ordered = ordered.1;
          }

    -- behind the last answer
    module _ (h : n ≤ at) where
      pub end_room : Room start (lines_of all) → Room page (about_open block w.seen)
      end_room fits = subst (Room page) (prints_last block w.seen) (room_last laws w.going h fits)

      pub all_walked : {after : P} → Laid page (about_open block w.seen) after → Laid start (lines_of all) after
      all_walked {after} laid = all_laid laws w.going h (subst (λ (l : List ℕ). Laid page l after) (sym (prints_last block w.seen)) laid)
