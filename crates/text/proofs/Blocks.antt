-- What the answers of a log print, one after another: the first answer's line, and then what those behind it print (`prints`); a block's own answers
-- (`own_front`), and how they stand and are ordered from one to the next (`InBlock`, `next_in_block`). Assumes nothing.
use mathlib.Core.Path.{◌≡◌, refl, sym, ap, ◌∙◌}
use Rattle.std.specs.Prelude.{Option, Some, None}
use mathlib.Core.List.{List, [], ◌∷◌, ◌++◌, append_assoc, append-nil}
use Prim.Native.Nat.{ℕ, ◌+◌}
use native.Mathlib.Omega.{arith}
use lib.ListN.{length, drop, length-append}
use lib.Seq.{drop_at, drop-drop}
use Rattle.answers.specs.Answers.{Role, opens, of_day, beside, role_of, answer_bytes, bytes_of}
use Rattle.answers.specs.ReadBack.{StandsAt}
use Rattle.answers.specs.declared.Answer.{Answer}
use Rattle.answers.proofs.Bytes.{bytes_append}
use Rattle.totals.specs.Tally.{reached, InMonthOrder}
use Rattle.totals.specs.Totals.{counted_of}
use Rattle.text.specs.Report.{about_block, own_from, own, block_lines, lines_of, answer_lines}
use Rattle.text.specs.Walk.{Holds, BlockOrdered, Stands, open_after, about_open, line_in, printed}
use Rattle.text.specs.declared.answer_walk.Block.{Block}

abbrev pub seen_after : List Answer → Role → Answer → List Answer
seen_after seen (opens code) a = []
seen_after seen (of_day year d verdict) a = seen ++ a ∷ []
seen_after seen beside a = seen ++ a ∷ []

-- what the block that is open has yet to print, with its answers `more`; and what all the answers from there on print
abbrev pub open_lines : Option Block → List Answer → List Answer → List ℕ
open_lines None seen more = []
open_lines (Some b) seen more = answer_lines b.code more ++ about_block b.code (seen ++ more)

abbrev pub lines_from : Option Block → List Answer → List Answer → List ℕ
lines_from block seen left = open_lines block seen (own left) ++ lines_of left

-- what the open block prints where it ends, and with an answer more
block_ends : (block : Option Block) (seen : List Answer) → open_lines block seen [] ≡ about_open block seen
block_ends None seen = refl
block_ends (Some b) seen = ap (about_block b.code) (append-nil seen)

line_first : (block : Option Block) (seen : List Answer) (a : Answer) (more : List Answer) (later : List ℕ)
    → open_lines block seen (a ∷ more) ++ later ≡ line_in block a ++ (open_lines block (seen ++ a ∷ []) more ++ later)
line_first None seen a more later = refl
line_first (Some b) seen a more later = simp append_assoc

pub prints : (block : Option Block) (seen : List Answer) (a : Answer) (next : ℕ) (l : List Answer)
    → lines_from block seen (a ∷ l) ≡ printed block seen (role_of a) a ++ lines_from (open_after block (role_of a) next) (seen_after seen (role_of a) a) l
prints block seen a next l = by (role_of a)
  where
    by : (r : Role) → open_lines block seen (own_from r a (own l)) ++ (block_lines r l ++ lines_of l)
        ≡ printed block seen r a ++ lines_from (open_after block r next) (seen_after seen r a) l
    by (opens code) = ap (λ (t : List ℕ). t ++ (block_lines (opens code) l ++ lines_of l)) (block_ends block seen)
    by (of_day year d v) = line_first block seen a (own l) (lines_of l)
    by beside = line_first block seen a (own l) (lines_of l)

-- behind the last answer
pub prints_last : (block : Option Block) (seen : List Answer) → lines_from block seen [] ≡ about_open block seen
prints_last block seen = append-nil (open_lines block seen []) ∙ block_ends block seen

-- ---- the block's own answers

-- they are the first of those behind its station
pub own_front : (l : List Answer) → (beyond : List Answer) × (l ≡ own l ++ beyond)
own_front [] = ([], refl)
own_front (a ∷ l) = by (role_of a) (own_front l)
  where
    by : (r : Role) → ((beyond : List Answer) × (l ≡ own l ++ beyond)) → (beyond : List Answer) × (a ∷ l ≡ own_from r a (own l) ++ beyond)
    by (opens code) more = (a ∷ l, refl)
    by (of_day year d v) more = (more.0, ap (λ (r : List Answer). a ∷ r) more.1)
    by beside more = (more.0, ap (λ (r : List Answer). a ∷ r) more.1)

-- ---- the block that is open

-- what it has had up to the index `at`, and that it is in date order with what it has yet to have, the answers `more`
abbrev pub InBlock : List ℕ → ℕ → Option Block → List Answer → List Answer → Type 0
InBlock s at None seen more = Unit {0}
InBlock s at (Some b) seen more = Holds s b.from at seen × InMonthOrder 0 (seen ++ more)

front_ordered : (k : ℕ) (l rest : List Answer) → InMonthOrder k (l ++ rest) → InMonthOrder k l
front_ordered k [] rest h = tt
front_ordered k (a ∷ l) rest h = (h.0, front_ordered (reached k (counted_of a)) l rest h.1)

pub block_stands : (s : List ℕ) (at : ℕ) (block : Option Block) (seen more : List Answer) → InBlock s at block seen more → Stands s at block seen
block_stands s at None seen more w = tt
block_stands s at (Some b) seen more w = (w.0, front_ordered 0 seen more w.1)

-- an answer more stands behind those that the block has had
held_more : {s : List ℕ} {from at : ℕ} {seen : List Answer} (a : Answer) → Holds s from at seen → StandsAt s at a → Holds s from (at + length (answer_bytes a)) (seen ++ a ∷ [])
held_more {s} {from} {at} {seen} a h there =
    record {
      size = omega (arith, h.size, ap length both, length-append (bytes_of seen) (answer_bytes a));
      rest = there.rest;
      bytes =
          h.bytes ∙ ap (λ (l : List ℕ). bytes_of seen ++ l) (sym (drop_at (bytes_of seen) h.rest (length (bytes_of seen)) refl)
          ∙ ap (drop (length (bytes_of seen))) (sym h.bytes) ∙ drop-drop (length (bytes_of seen)) from s ∙ ap (λ (k : ℕ). drop k s) h.size ∙ there.bytes)
          ∙ sym (append_assoc (bytes_of seen) (answer_bytes a) there.rest) ∙ ap (λ (l : List ℕ). l ++ there.rest) (sym both);
    }
  where
    both : bytes_of (seen ++ a ∷ []) ≡ bytes_of seen ++ answer_bytes a
    both = bytes_append seen (a ∷ []) ∙ ap (λ (l : List ℕ). bytes_of seen ++ l) (append-nil (answer_bytes a))

module _ (s : List ℕ) (at : ℕ) (seen : List Answer) (a : Answer) (there : StandsAt s at a) where
  abbrev behind : ℕ
  behind = at + length (answer_bytes a)

  block_more : (block : Option Block) (more : List Answer) → InBlock s at block seen (a ∷ more) → InBlock s behind block (seen ++ a ∷ []) more
  block_more None more w = tt
  block_more (Some b) more w = (held_more a w.0 there, rw append_assoc w.1)

  pub next_in_block : (block : Option Block) (left : List Answer) → BlockOrdered (role_of a) left → InBlock s at block seen (own (a ∷ left))
      → InBlock s behind (open_after block (role_of a) behind) (seen_after seen (role_of a) a) (own left)
  next_in_block block left = by (role_of a)
    where
      by : (r : Role) → BlockOrdered r left → InBlock s at block seen (own_from r a (own left)) → InBlock s behind (open_after block r behind) (seen_after seen r a) (own left)
      by (opens code) ordered w = (record { size = omega arith; rest = drop behind s; bytes = refl }, ordered)
      by (of_day year d v) ordered w = block_more block (own left) w
      by beside ordered w = block_more block (own left) w
