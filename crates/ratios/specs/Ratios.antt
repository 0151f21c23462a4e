-- Ratios of whole numbers as one writes them, a numerator over a denominator above 0, with the operations that one learns at school. All of it
-- computes, so that a test of ratios is answered by `tt`. Assumes nothing.
use Rattle.std.specs.Prelude.{◌≡◌, Bool, ℕ, zero, suc, pred, ◌+◌, ◌*◌, ℤ, pos, negsuc, neg_ℤ, ◌+ℤ◌, ◌*ℤ◌}
use Rattle.std.specs.Int.Signed.{non_neg}

infixl 6 ◌+ᴿ◌
infixl 7 ◌*ᴿ◌
infix 8 -ᴿ◌
infix 94 ◌over◌
-- the denominator is kept less one, so that it is never 0
pub record Ratio : Type 0 where
  pub numerator : ℤ
  pub denominator_minus_1 : ℕ

abbrev pub denominator : Ratio → ℤ
denominator a = pos (suc a.denominator_minus_1)

-- n over d, for d from 1 on
abbrev pub ◌over◌ : ℕ → ℕ → Ratio
n over d = record { numerator = pos n; denominator_minus_1 = pred d }

-- (m + 1)(n + 1) - 1
abbrev pub product_minus_1 : ℕ → ℕ → ℕ
product_minus_1 m n = m * suc n + n

abbrev pub ◌+ᴿ◌ : Ratio → Ratio → Ratio
a +ᴿ b =
    record {
      numerator = a.numerator *ℤ denominator b +ℤ b.numerator *ℤ denominator a;
      denominator_minus_1 = product_minus_1 a.denominator_minus_1 b.denominator_minus_1;
    }

abbrev pub ◌*ᴿ◌ : Ratio → Ratio → Ratio
a *ᴿ b =
    record { numerator = a.numerator *ℤ b.numerator; denominator_minus_1 = product_minus_1 a.denominator_minus_1 b.denominator_minus_1 }

abbrev pub -ᴿ◌ : Ratio → Ratio
-ᴿ◌ a = record { numerator = neg_ℤ a.numerator; denominator_minus_1 = a.denominator_minus_1 }

-- 1 over n/(d + 1), with the sign of n; 0 where n is 0
abbrev pub reciprocal : ℤ → ℕ → Ratio
reciprocal (pos zero) d = 0 over 1
reciprocal (pos (suc n)) d = record { numerator = pos (suc d); denominator_minus_1 = n }
reciprocal (negsuc n) d = record { numerator = negsuc d; denominator_minus_1 = n }

abbrev pub inverseᴿ : Ratio → Ratio
inverseᴿ a = reciprocal a.numerator a.denominator_minus_1

-- two ratios are the same fraction: cross multiplication
abbrev pub Same : Ratio → Ratio → Type 0
Same a b = a.numerator *ℤ denominator b ≡ b.numerator *ℤ denominator a

-- not below 0
abbrev pub nonnegᴿ : Ratio → Bool
nonnegᴿ a = non_neg a.numerator
