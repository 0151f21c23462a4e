-- The walk over the answers of a log that has come to an index: what the next answer makes of it (`one_more`), and what it is at the end
-- (`all_laid`). Of what an answer prints it is known that all the answers left print its own line and then what those behind it print. None of these laws
-- names a kind of answer, and none what a page is. Assumes nothing.
use mathlib.Core.Path.{◌≡◌, refl, sym, ap, ◌∙◌, subst}
use mathlib.Core.List.{List, [], ◌∷◌, ◌++◌, append_assoc}
use Prim.Native.Nat.{ℕ, ◌+◌, ◌≤◌, ◌<◌}
use native.Mathlib.Omega.{arith}
use lib.ListN.{length, drop, length-append}
use lib.Seq.{drop_at, drop-drop}
use Rattle.answers.specs.Answers.{answer_bytes, bytes_of}
use Rattle.answers.specs.ReadBack.{StandsAt}
use Rattle.answers.specs.declared.Answer.{Answer}
use Rattle.answers.proofs.Roles.{some_bytes}
use Rattle.text.specs.Page.{PageLaws}
use Rattle.text.specs.Walk.{Holds}

-- Of the lines `all`, those `done` are laid on the page that was `start`; the answers `left`, from the index `at` on, print the others.
pub record Going {P : Type 0} (Laid : P → List ℕ → P → Type 0) (s : List ℕ) (n : ℕ) (start : P) (at : ℕ) (page : P) (print : List Answer → List ℕ) (all : List ℕ)
    : Type 0 where
  pub done : List ℕ
  pub left : List Answer
  pub rest : List ℕ
  pub lines : all ≡ done ++ print left
  pub stands : drop at s ≡ bytes_of left ++ rest
  pub size : at + length (bytes_of left) ≡ n
  pub laid : Laid start done page

module _ {P : Type 0} {Room : P → List ℕ → Type 0} {Laid : P → List ℕ → P → Type 0} (laws : PageLaws Room Laid) {s : List ℕ} {n : ℕ} {start : P} where
  unfoldable pub none_gone : {from : ℕ} {print : List Answer → List ℕ} {answers : List Answer} → Room start [] → Holds s from n answers
      → Going Laid s n start from start print (print answers)
  none_gone {print = print} {answers = answers} fits h =
      record {
        done = [];
        left = answers;
        rest = h.rest;
        lines = refl;
        stands = h.bytes;
        size = h.size;
        laid = laws.none start fits;
      }

  module _ {at : ℕ} {page : P} {print : List Answer → List ℕ} {all : List ℕ} (g : Going Laid s n start at page print all) where
    -- where there is room for all the lines, there is for the next of them
    part_room : (line others : List ℕ) → all ≡ g.done ++ (line ++ others) → Room start all → Room page line
    part_room line others e fits = laws.front page line others (laws.behind start page g.done (line ++ others) (subst (Room start) e fits) g.laid)

    -- the next answer, with those behind it
    record Next : Type 0 where
      next : Answer
      later : List Answer
      is : g.left ≡ next ∷ later

    there : at < n → Next
    there h = by g.left refl
      where
        by : (l : List Answer) → g.left ≡ l → Next
        by [] e = absurd (omega (arith, g.size, ap (λ (l : List Answer). length (bytes_of l)) e))
        by (a ∷ l) e = record { next = a; later = l; is = e }

    module _ (h : at < n) where
      abbrev a : Answer
      a = (there h).next

      abbrev later : List Answer
      later = (there h).later

      stands_next : drop at s ≡ answer_bytes a ++ (bytes_of later ++ g.rest)
      stands_next = g.stands ∙ ap (λ (l : List Answer). bytes_of l ++ g.rest) (there h).is ∙ append_assoc (answer_bytes a) (bytes_of later) g.rest

      size_next : at + (length (answer_bytes a) + length (bytes_of later)) ≡ n
      size_next =
          ap (λ (k : ℕ). at + k) (sym (ap (λ (l : List Answer). length (bytes_of l)) (there h).is ∙ length-append (answer_bytes a) (bytes_of later))) ∙ g.size

      standing : StandsAt s at a
      standing = record { rest = bytes_of later ++ g.rest; bytes = stands_next }

      -- an answer that is the one that stands there, its line, and what those behind it print
      module _ {r : Answer} (is : (b : Answer) → StandsAt s at b → r ≡ b) where
        same : a ≡ r
        same = sym (is a standing)

        pub stands_as : StandsAt s at r
        stands_as = subst (StandsAt s at) same standing

        pub inside : at + length (answer_bytes r) ≤ n
        inside = omega (arith, size_next, ap (λ (b : Answer). length (answer_bytes b)) same)

        module _ (line : List ℕ) (onward : List Answer → List ℕ) (prints : (l : List Answer) → print (r ∷ l) ≡ line ++ onward l) where
          lines_next : all ≡ g.done ++ (line ++ onward later)
          lines_next = g.lines ∙ ap (λ (l : List Answer). g.done ++ print l) ((there h).is ∙ ap (λ (b : Answer). b ∷ later) same) ∙ ap (λ (l : List ℕ). g.done ++ l) (prints later)

          pub room : Room start all → Room page line
          room fits = part_room line (onward later) lines_next fits

          pub one_more : {after : P} → Laid page line after
              → (more : Going Laid s n start (at + length (answer_bytes r)) after onward all) × (g.left ≡ r ∷ more.left)
          one_more {after} w = (
            record {
              done = g.done ++ line;
              left = later;
              rest = g.rest;
              lines = lines_next ∙ sym (append_assoc g.done line (onward later));
              stands =
                  ap (λ (b : Answer). drop (at + length (answer_bytes b)) s) (sym same)
                  ∙ sym (drop-drop (length (answer_bytes a)) at s) ∙ ap (drop (length (answer_bytes a))) stands_next
                  ∙ drop_at (answer_bytes a) (bytes_of later ++ g.rest) (length (answer_bytes a)) refl;
              size = omega (arith, size_next, ap (λ (b : Answer). length (answer_bytes b)) same);
              laid = laws.then start page after g.done line g.laid w;
            },
            (there h).is ∙ ap (λ (b : Answer). b ∷ later) same,
          )

    -- no answer is left: with what is printed then, all the lines are laid
    module _ (h : n ≤ at) where
      lines_last : all ≡ g.done ++ print []
      lines_last = g.lines ∙ ap (λ (l : List Answer). g.done ++ print l) (by g.left g.size)
        where
          by : (l : List Answer) → at + length (bytes_of l) ≡ n → l ≡ []
          by [] e = refl
          by (b ∷ l) e = absurd (omega (arith, e, h, some_bytes b, length-append (answer_bytes b) (bytes_of l)))

      pub room_last : Room start all → Room page (print [])
      room_last fits = laws.behind start page g.done (print []) (subst (Room start) lines_last fits) g.laid

      pub all_laid : {after : P} → Laid page (print []) after → Laid start all after
      all_laid {after} w = subst (λ (l : List ℕ). Laid start l after) (sym lines_last) (laws.then start page after g.done (print []) g.laid w)
