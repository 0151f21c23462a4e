-- A text that a pen writes behind another: where both fit, the first fits (`front`) and the second behind it (`behind`), and both stand there (`then`).
-- Assumes nothing.
use mathlib.Core.Path.{◌≡◌, ◌∙◌}
use mathlib.Core.List.{List, ◌++◌}
use Prim.Native.Nat.{ℕ}
use native.Mathlib.Omega.{arith}
use lib.ListN.{length, length-append}
use Rattle.lines.specs.Pen.{Fits, Wrote}
use Rattle.lines.specs.declared.pen.Pen.{Pen}
use Rattle.lines.proofs.Written as written

pub front : {p : Pen} {xs : List ℕ} (ys : List ℕ) → Fits p (xs ++ ys) → Fits p xs
front {p} {xs} ys f = let h = f.room in record { room = omega (arith, length-append xs ys) }

pub behind : {p q : Pen} {xs ys : List ℕ} → Fits p (xs ++ ys) → Wrote p xs q → Fits q ys
behind {p} {q} {xs} {ys} f w =
    let h = f.room in
    let same : length q.text.now ≡ length p.text.now = written.same_length w.written in
    let next = w.written.behind in
    record { room = omega (arith, length-append xs ys) }

pub then : {p q r : Pen} {xs ys : List ℕ} → Wrote p xs q → Wrote q ys r → Wrote p (xs ++ ys) r
then v w = record { same_lent = w.same_lent ∙ v.same_lent; written = written.then v.written w.written }
