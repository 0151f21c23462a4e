-- The answers that stand from an index on, those behind the first of them, and those in a part of the bytes. Assumes nothing.
use mathlib.Core.Path.{◌≡◌, refl, sym, ap, ◌∙◌, subst}
use Rattle.std.specs.Prelude.{Option, Some, None}
use mathlib.Core.List.{List, [], ◌∷◌, ◌++◌, append_assoc, append-nil}
use Prim.Native.Nat.{ℕ, ◌+◌, ◌≤◌, ◌<◌}
use native.Mathlib.Omega.{arith}
use lib.ListN.{length, drop, take, length-append, length-drop}
use lib.Seq.{drop_at, drop-drop, length-take-le}
use Rattle.std.proofs.lemmas.List.{drop-take}
use Rattle.std.proofs.Math.Seq.{take-append_seam}
use Rattle.answers.specs.Answers.{answer_bytes, bytes_of}
use Rattle.answers.specs.ReadBack.{StandsAt}
use Rattle.answers.specs.declared.Answer.{Answer}
use Rattle.answers.proofs.Roles.{some_bytes}
use Rattle.text.specs.Each.{AnswersFrom, Gives}
use Rattle.text.specs.Walk.{Holds, Stands}
use Rattle.text.specs.declared.answer_walk.Block.{Block}

-- the first of them, and those behind it
record First (s : List ℕ) (at : ℕ) : Type 0 where
  next : Answer
  later : List Answer
  stands : StandsAt s at next
  behind : Holds s (at + length (answer_bytes next)) (length s) later

module _ {s : List ℕ} {at : ℕ} where
  first : AnswersFrom s at → (at ≡ length s → ⊥) → First s at
  first (l, h) more = by l h
    where
      by : (l : List Answer) → Holds s at (length s) l → First s at
      by [] h = absurd (more (omega (arith, h.size)))
      by (a ∷ l) h =
          let stands : StandsAt s at a = record { rest = bytes_of l ++ h.rest; bytes = h.bytes ∙ append_assoc (answer_bytes a) (bytes_of l) h.rest } in
          record {
            next = a;
            later = l;
            stands = stands;
            behind =
                record {
                  size = omega (arith, h.size, length-append (answer_bytes a) (bytes_of l));
                  rest = h.rest;
                  bytes =
                      sym (drop-drop (length (answer_bytes a)) at s) ∙ ap (drop (length (answer_bytes a))) stands.bytes
                      ∙ drop_at (answer_bytes a) (bytes_of l ++ h.rest) (length (answer_bytes a)) refl;
                };
          }

  module _ (from : AnswersFrom s at) (more : at ≡ length s → ⊥) where
    pub first_stands : (a : Answer) × StandsAt s at a
    first_stands = let f = first from more in (f.next, f.stands)

    -- an answer that is the one that stands there: others stand behind it
    module _ {a : Answer} (is : (b : Answer) → StandsAt s at b → a ≡ b) where
      pub behind_it : AnswersFrom s (at + length (answer_bytes a))
      behind_it =
          let f = first from more in
          (f.later, subst (λ (b : Answer). Holds s (at + length (answer_bytes b)) (length s) f.later) (sym (is f.next f.stands)) f.behind)

      pub goes_on : (at + length (answer_bytes a) ≤ length s) × (at < at + length (answer_bytes a))
      goes_on = let h = behind_it.1.size in (omega (arith, h), omega (arith, some_bytes a))

-- what the iterator gives, of the bytes that it goes through by another name
pub given_of : {s t : List ℕ} (at next : ℕ) (r : Option (ℕ × Answer)) → s ≡ t → Gives s at r next → Gives t at r next
given_of at next r same = subst (λ (l : List ℕ). Gives l at r next) same

-- ---- parts of the bytes

module _ {s : List ℕ} {from : ℕ} {l : List Answer} where
  -- those up to an index, which is one of the bytes, and those behind another
  pub held_up_to : {at : ℕ} → Holds s from at l → at ≤ length s → Holds (take at s) from (length (take at s)) l
  held_up_to {at} h inside =
      record {
        size = h.size ∙ sym (length-take-le at s inside);
        rest = [];
        bytes =
            ap (λ (k : ℕ). drop from (take k s)) (sym h.size) ∙ drop-take from (length (bytes_of l)) s ∙ ap (take (length (bytes_of l))) h.bytes
            ∙ take-append_seam (bytes_of l) h.rest ∙ sym (append-nil (bytes_of l));
      }

  pub held_inside : {at : ℕ} → Holds s from at l → from ≤ length s → at ≤ length s
  held_inside h before = omega (arith, h.size, ap length h.bytes, length-drop from s, length-append (bytes_of l) h.rest)

  pub held_from : Holds s from (length s) l → Holds (drop from s) 0 (length (drop from s)) l
  held_from h = record { size = omega (arith, h.size, length-drop from s); rest = h.rest; bytes = h.bytes }

pub stands_up_to : (s : List ℕ) {at : ℕ} (block : Option Block) (seen : List Answer) → Stands s at block seen → at ≤ length s
    → Stands (take at s) (length (take at s)) block seen
stands_up_to s None seen w inside = tt
stands_up_to s (Some b) seen w inside = (held_up_to w.0 inside, w.1)
