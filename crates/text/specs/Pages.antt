-- A pen and a count are pages. Assumes nothing.
use mathlib.Core.Path.{◌≡◌, refl, sym, ◌∙◌}
use mathlib.Core.List.{List, [], ◌++◌, append-nil}
use Prim.Native.Nat.{ℕ, ◌+◌, ◌≤◌}
use native.Mathlib.Nat.{add-zero}
use native.Mathlib.Omega.{arith}
use lib.ListN.{length, take, drop, length-append, take-append-drop}
use Rattle.answers.specs.Overwriting.{laid_over}
use Rattle.lines.specs.Pen.{Fits, Wrote}
use Rattle.lines.proofs.Pens as pens
use Rattle.lines.specs.declared.pen.Pen.{Pen}
use Rattle.text.specs.Page.{PageLaws}
use Rattle.text.specs.Walk.{longest_report}
use Rattle.text.specs.declared.page.Count.{Count}

nothing_laid : (before : List ℕ) (at : ℕ) → before ≡ laid_over before at []
unfolding laid_over
nothing_laid before at = sym (take-append-drop at before) ∙ (λ i. sym (append-nil (take at before)) i ++ drop (sym (add-zero at) i) before)

nothing_wrote : (p : Pen) → Fits p [] → Wrote p [] p
nothing_wrote p f =
    let room = f.room in
    record { same_lent = refl; written = record { room = omega arith; behind = omega arith; bytes = nothing_laid p.text.now p.at } }

pub pen_laws : PageLaws Fits Wrote
pen_laws =
    record {
      none = nothing_wrote;
      then = λ p q r xs ys v w. pens.then v w;
      front = λ p xs ys f. pens.front ys f;
      behind = λ p q xs ys f w. pens.behind f w;
    }

pub count_laws : PageLaws {P = Count} (λ count text. count.bytes + length text ≤ longest_report) (λ count text more. more.bytes ≡ count.bytes + length text)
count_laws =
    record {
      none = λ p h. omega arith;
      then = λ p q r xs ys v w. omega (arith, length-append xs ys);
      front = λ p xs ys h. omega (arith, length-append xs ys);
      behind = λ p q xs ys h v. omega (arith, length-append xs ys);
    }
