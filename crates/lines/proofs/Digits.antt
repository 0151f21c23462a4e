-- A number's digits: the last one and those before it (`digits_more`, `padded_more`), and how many there are at most. Assumes nothing.
use mathlib.Core.Path.{◌≡◌, refl, sym, ap, ◌∙◌}
use mathlib.Core.List.{List, [], ◌∷◌, ◌++◌, append_assoc}
use Prim.Native.Nat.{ℕ, zero, suc, ◌+◌, ◌-◌, ◌/◌, ◌%◌, ◌^◌, ◌≤◌, ◌<◌}
use mathlib.Core.Logic.{◌⊎◌, inl, inr, ⊎_elim}
use native.Mathlib.Nat.{eq-zero-or-pos, pow-suc}
use native.Mathlib.Numerals.{add-one}
use native.Mathlib.Omega.{arith}
use lib.ListN.{length, replicate, length-append, length-replicate, replicate-append-replicate}
use Rattle.lines.specs.Text.{point, digit, leading, digits, padded, inches}

one_or_more : (n : ℕ) → (n < 10) ⊎ (10 ≤ n)
one_or_more n = ⊎_elim (λ (e : n / 10 ≡ 0). inl (omega arith)) (λ (p : 0 < n / 10). inr (omega arith)) (eq-zero-or-pos (n / 10))

-- a larger bound changes nothing
enough : (m k n : ℕ) → n ≤ m → n ≤ k → leading m n ≡ leading k n
unfolding leading
enough zero zero zero p q = refl
enough zero (suc k) zero p q = refl
enough (suc m) zero zero p q = refl
enough (suc m) (suc k) zero p q = refl
enough zero k (suc n) p q = absurd (omega arith)
enough (suc m) zero (suc n) p q = absurd (omega arith)
enough (suc m) (suc k) (suc n) p q =
    ap (λ (l : List ℕ). l ++ digit (suc n % 10) ∷ []) (enough m k (suc n / 10) (omega arith) (omega arith))

-- those of a number above 0 are its digits
leading_digits : (m n : ℕ) → 0 < n → n ≤ m → leading m n ≡ digits n
unfolding leading digits
leading_digits zero n p q = absurd (omega arith)
leading_digits (suc m) zero p q = absurd (omega arith)
leading_digits (suc m) (suc n) p q =
    ap (λ (l : List ℕ). l ++ digit (suc n % 10) ∷ []) (enough m (suc n) (suc n / 10) (omega arith) (omega arith))

none : (m : ℕ) → leading m 0 ≡ []
unfolding leading
none zero = refl
none (suc m) = refl

-- one digit
pub digits_one : (n : ℕ) → n < 10 → digits n ≡ digit (n % 10) ∷ []
unfolding digits
digits_one n h =
    let front : n / 10 ≡ 0 = omega arith in
    ap (λ (q : ℕ). leading n q ++ digit (n % 10) ∷ []) front ∙ ap (λ (l : List ℕ). l ++ digit (n % 10) ∷ []) (none n)

-- more than one
pub digits_more : (n : ℕ) → 10 ≤ n → digits n ≡ digits (n / 10) ++ digit (n % 10) ∷ []
unfolding digits
digits_more n h = ap (λ (l : List ℕ). l ++ digit (n % 10) ∷ []) (leading_digits n (n / 10) (omega arith) (omega arith))

pub digits_longer : (n : ℕ) → 10 ≤ n → length (digits n) ≡ length (digits (n / 10)) + 1
digits_longer n h = ap length (digits_more n h) ∙ length-append (digits (n / 10)) (digit (n % 10) ∷ [])

pub some_digit : (n : ℕ) → 1 ≤ length (digits n)
unfolding digits
some_digit n = omega (arith, length-append (leading n (n / 10)) (digit (n % 10) ∷ []))

-- no zero in front of a number that need not be longer
pub padded_short : (k n : ℕ) → k < 2 → padded k n ≡ digits n
unfolding padded
padded_short k n h =
    let none_missing : k - length (digits n) ≡ 0 = omega (arith, some_digit n) in
    ap (λ (j : ℕ). replicate j (digit 0) ++ digits n) none_missing

-- zeros in front up to two digits or more: the last digit, and the rest with zeros up to one less
zeros_more : (k : ℕ) → replicate (suc k) (digit 0) ≡ replicate k (digit 0) ++ digit 0 ∷ []
zeros_more k = ap (λ (j : ℕ). replicate j (digit 0)) (sym (add-one k)) ∙ sym (replicate-append-replicate k 1 (digit 0))

module _ (k n : ℕ) (two : 2 ≤ k) where
  padded_one_digit : n < 10 → padded k n ≡ padded (k - 1) (n / 10) ++ digit (n % 10) ∷ []
  unfolding padded
  padded_one_digit h =
      let zeros : ℕ = k - 1 - length (digits (n / 10)) in
      let nothing : n / 10 ≡ 0 = omega arith in
      let front : digits (n / 10) ≡ digit 0 ∷ [] = ap digits nothing ∙ digits_one 0 (omega arith) in
      let more : k - length (digits n) ≡ suc zeros = omega (arith, ap length (digits_one n h), ap length front) in
      ap (λ (j : ℕ). replicate j (digit 0) ++ digits n) more
      ∙ ap (λ (l : List ℕ). replicate (suc zeros) (digit 0) ++ l) (digits_one n h)
      ∙ ap (λ (l : List ℕ). l ++ digit (n % 10) ∷ []) (zeros_more zeros ∙ ap (λ (l : List ℕ). replicate zeros (digit 0) ++ l) (sym front))

  padded_digits : 10 ≤ n → padded k n ≡ padded (k - 1) (n / 10) ++ digit (n % 10) ∷ []
  unfolding padded
  padded_digits h =
      let zeros : ℕ = k - 1 - length (digits (n / 10)) in
      let same : k - length (digits n) ≡ zeros = omega (arith, digits_longer n h) in
      ap (λ (j : ℕ). replicate j (digit 0) ++ digits n) same
      ∙ ap (λ (l : List ℕ). replicate zeros (digit 0) ++ l) (digits_more n h)
      ∙ sym (append_assoc (replicate zeros (digit 0)) (digits (n / 10)) (digit (n % 10) ∷ []))

  pub padded_more : padded k n ≡ padded (k - 1) (n / 10) ++ digit (n % 10) ∷ []
  padded_more = ⊎_elim padded_one_digit padded_digits (one_or_more n)

  pub padded_longer : length (padded k n) ≡ length (padded (k - 1) (n / 10)) + 1
  padded_longer = ap length padded_more ∙ length-append (padded (k - 1) (n / 10)) (digit (n % 10) ∷ [])

-- a number below a power of ten has no more digits than the power says
pub digits_most : (j n : ℕ) → n < 10 ^ suc j → length (digits n) ≤ suc j
digits_most zero n h = omega (arith, ap length (digits_one n h))
digits_most (suc j) n h = ⊎_elim (λ (few : n < 10). omega (arith, ap length (digits_one n few)))
    (λ (many : 10 ≤ n). omega (arith, digits_longer n many, digits_most j (n / 10) (omega (arith, pow-suc 10 (suc j)))))
    (one_or_more n)

pub padded_most : (j k n : ℕ) → k ≤ suc j → n < 10 ^ suc j → length (padded k n) ≤ suc j
unfolding padded
padded_most j k n few h =
    omega (arith, digits_most j n h, length-append (replicate (k - length (digits n)) (digit 0)) (digits n), length-replicate (k - length (digits n)) (digit 0))

pub inches_size : (n : ℕ) → length (inches n) ≡ length (digits (n / 10_000)) + (1 + length (padded 4 (n % 10_000)))
unfolding inches
inches_size n = length-append (digits (n / 10_000)) (point ∷ padded 4 (n % 10_000)) ∙ omega arith

pub inches_most : (j n : ℕ) → n / 10_000 < 10 ^ suc j → length (inches n) ≤ suc j + 5
inches_most j n h = omega (arith, inches_size n, digits_most j (n / 10_000) h, padded_most 3 4 (n % 10_000) (omega arith) (omega arith))
