-- A fact of every entry of a table, by one test that antt computes over the list of its entries; and of every number from 1 to n, by one test that
-- it computes over these. Assumes nothing.
use mathlib.Core.Path.{◌≡◌, sym, subst}
use mathlib.Core.Logic.{⊎_elim}
use mathlib.Core.Bool.{Bool, true, ◌&&◌}
use mathlib.Core.List.{List, [], ◌∷◌}
use Prim.Native.Nat.{ℕ, zero, suc, ◌+◌, ◌≤◌, ◌<◌}
use native.Mathlib.Nat.{not-suc-le-zero, eq-or-lt_of_le, le_of_suc-le-suc}
use native.Mathlib.Omega.{arith}
use lib.Dec.{T}
use lib.ListN.{length, get_or}
use Rattle.numbers.proofs.RangeArithmetic.{both}

-- the test f passes at each entry and its index, counted from i
abbrev pub every : (ℕ → ℕ → Bool) → ℕ → List ℕ → Bool
every f i [] = true
every f i (x ∷ xs) = f i x && every f (suc i) xs

-- the entry at the place k has the index d = i + k
pub entry_passes : (f : ℕ → ℕ → Bool) (i : ℕ) (xs : List ℕ) → T (every f i xs) →
    (k d : ℕ) → i + k ≡ d → k < length xs → T (f d (get_or xs k 0))
entry_passes f i [] t k d e h = absurd (not-suc-le-zero h)
entry_passes f i (x ∷ xs) t zero d e h =
    let same : i ≡ d = omega arith in
    subst (λ (j : ℕ). T (f j x)) same (both (f i x) (every f (suc i) xs) t).0
entry_passes f i (x ∷ xs) t (suc k) d e h =
    entry_passes f (suc i) xs (both (f i x) (every f (suc i) xs) t).1 k d (omega arith) (omega arith)

-- the test f passes at each number from 1 to n
abbrev pub up_to : (ℕ → Bool) → ℕ → Bool
up_to f zero = true
up_to f (suc n) = f (suc n) && up_to f n

pub number_passes : (f : ℕ → Bool) (n : ℕ) → T (up_to f n) → (d : ℕ) → 1 ≤ d → d ≤ n → T (f d)
number_passes f zero t d l h = absurd (omega arith)
number_passes f (suc n) t d l h =
    ⊎_elim (λ (e : d ≡ suc n). subst (λ (k : ℕ). T (f k)) (sym e) (both (f (suc n)) (up_to f n) t).0)
    (λ (k : d < suc n). number_passes f n (both (f (suc n)) (up_to f n) t).1 d l (le_of_suc-le-suc k)) (eq-or-lt_of_le h)
