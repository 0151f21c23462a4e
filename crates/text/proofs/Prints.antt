-- From a text that is written from the front, or found too long, to what is owed for it. Assumes nothing.
use mathlib.Core.Path.{◌≡◌, refl, sym, ap, ◌∙◌}
use mathlib.Core.Bool.{Bool, cond}
use Rattle.std.specs.Prelude.{Result, Ok, Err, IsOk}
use mathlib.Core.List.{List, [], ◌∷◌, ◌++◌}
use Prim.Native.Nat.{ℕ, ◌+◌, ◌≤◌, ◌<◌}
use native.Mathlib.Omega.{arith}
use borrow.Author.Tests.{lt-ltb, le-ltb}
use lib.Dec.{ltb}
use lib.ListN.{length, drop, length-append, length-drop}
use Rattle.std.proofs.lemmas.Bool.{cond_both}
use Rattle.answers.proofs.Overwriting.{laid_front}
use Rattle.text.specs.Report.{Prints, printed_in, text_over}
use Rattle.lines.specs.Written.{Written, AtFront}
use Rattle.text.specs.declared.TooShort.{TooShort}

-- what is told where a buffer needs so many bytes
abbrev needs : ℕ → Result ℕ TooShort
needs n = Err (record { needed = n })

-- what is told, and what is left of the buffer, by whether the buffer is too short
module _ (text before : List ℕ) where
  abbrev told_by : Bool → Result ℕ TooShort
  told_by short = cond short (Err (record { needed = length text })) (Ok (length text))

  abbrev left_by : Bool → List ℕ
  left_by short = cond short before (text ++ drop (length text) before)

module _ {text before : List ℕ} {n : ℕ} where
  pub too_short : {after : List ℕ} → n ≡ length text → length after < n → after ≡ before → Prints text before (Err (record { needed = n })) after
  too_short e h same =
      let test = lt-ltb (length before) (length text) (omega (arith, e, h, ap length same)) in
      record { told = ap needs e ∙ ap (told_by text before) (sym test); bytes = same ∙ ap (left_by text before) (sym test) }

  pub written_whole : {after : List ℕ} → Written before 0 text after n → Prints text before (Ok n) after
  written_whole w =
      let test = le-ltb (length before) (length text) (omega (arith, w.room)) in
      record {
        told = ap Ok (omega (arith, w.behind)) ∙ ap (told_by text before) (sym test);
        bytes = w.bytes ∙ laid_front before text ∙ ap (left_by text before) (sym test);
      }

-- a buffer of just the length is long enough, and one of a byte less is not
pub just_enough : (text : List ℕ) → printed_in (length text) text ≡ Ok (length text)
just_enough text = ap (told_by text text) (le-ltb (length text) (length text) (omega arith))

pub one_less : (text : List ℕ) (size : ℕ) → size + 1 ≡ length text → printed_in size text ≡ Err (record { needed = length text })
one_less text size e = ap (told_by text text) (lt-ltb size (length text) (omega (arith, e)))

-- the text stands at the front and later bytes are as they were; so is every byte of a buffer that is too short
pub laid : (text_over (9 ∷ 9 ∷ 9 ∷ []) (65 ∷ 66 ∷ []) ≡ 65 ∷ 66 ∷ 9 ∷ []) × (text_over (9 ∷ []) (65 ∷ 66 ∷ []) ≡ 9 ∷ [])
laid = (refl, refl)

-- ---- the number that is returned

abbrev pub size_in : Result ℕ TooShort → ℕ
size_in (Ok n) = n
size_in (Err short) = short.needed

-- written or needed, it is the text's length
pub printed_size : {text before after : List ℕ} {r : Result ℕ TooShort} → Prints text before r after → size_in r ≡ length text
printed_size {text} {before} p =
    ap size_in p.told ∙ cond_both (ltb (length before) (length text)) _ _ (λ r. size_in r ≡ length text) (λ e. refl) (λ e. refl)

-- ---- a buffer that is long enough

module _ {text before after : List ℕ} (fits : length text ≤ length before) where
  pub never_short : {r : Result ℕ TooShort} → Prints text before r after → IsOk r
  never_short p = rw (p.told, le-ltb (length before) (length text) fits) refl

  pub stands_in_front : {n : ℕ} → Prints text before (Ok n) after → AtFront before text after n
  stands_in_front p =
      let test = le-ltb (length before) (length text) fits in
      let is = p.told ∙ ap (told_by text before) test in
      let bytes = p.bytes ∙ ap (left_by text before) test in
      record {
        size = cc;
        bytes = bytes;
        long = omega (arith, ap length bytes, length-append text (drop (length text) before), length-drop (length text) before);
      }
