-- The solver at the whole numbers ℤ. Nothing here has to be believed. Assumes nothing.
use Rattle.std.specs.Prelude.{◌≡◌, refl, [], Bool, false, ℕ, T, eqb, ℤ, pos, negsuc, neg_ℤ, ◌+ℤ◌, ◌-ℤ◌, ◌*ℤ◌}
use Rattle.std.proofs.Common.{ap, eqb→eq}
use Rattle.std.proofs.Math.IntN.{+ℤ_idr, +ℤ_assoc, +ℤ_comm, +ℤ_invr, *ℤ_comm}
use Rattle.ratios.specs.Integers.{*ℤ_assoc, *ℤ_one, *ℤ-+ℤ}
use Rattle.ratios.specs.Rings.{CommutativeRing, from_multiple}
use Rattle.ratios.specs.Polynomials.{Coefficients, Value}
use Rattle.ratios.specs.Solver.{Of, ForAll, numbered, holds, more, ring}

abbrev pub ℤ_ring : CommutativeRing
ℤ_ring =
    record {
      R = ℤ;
      𝟘 = pos 0;
      𝟙 = pos 1;
      add = ◌+ℤ◌;
      mul = ◌*ℤ◌;
      neg = neg_ℤ;
      add_assoc = +ℤ_assoc;
      add_comm = +ℤ_comm;
      add_zero = +ℤ_idr;
      add_neg = +ℤ_invr;
      mul_assoc = *ℤ_assoc;
      mul_comm = *ℤ_comm;
      mul_one = *ℤ_one;
      mul_add = *ℤ-+ℤ;
    }

abbrev pub is_zero : ℤ → Bool
is_zero (pos n) = eqb n 0
is_zero (negsuc n) = false

pub zero_is : (z : ℤ) → T (is_zero z) → z ≡ pos 0
zero_is (pos n) t = ap pos (eqb→eq n 0 t)
zero_is (negsuc n) t = absurd t

abbrev pub ℤ_coefficients : Coefficients
ℤ_coefficients = record { C = ℤ; none = pos 0; unit = pos 1; add = ◌+ℤ◌; mul = ◌*ℤ◌; neg = neg_ℤ; is_none = is_zero }

abbrev pub ℤ_value : Value ℤ_ring ℤ_coefficients
ℤ_value =
    record {
      ev = λ z. z;
      ev_none = refl;
      ev_unit = refl;
      ev_add = λ a b. refl;
      ev_mul = λ a b. refl;
      ev_neg = λ a. refl;
      ev_is_none = zero_is;
    }

-- `ring_ℤ 2 (λ a b. a :* b := b :* a) tt x y`
pub ring_ℤ : (n : ℕ) (f : Of ℤ n) → T (holds ℤ_coefficients (more ℤ_ring ℤ_coefficients ℤ_value n 0) (numbered n 0 f)) → ForAll ℤ_ring ℤ_coefficients ℤ_value n [] (numbered n 0 f)
ring_ℤ = ring ℤ_ring ℤ_coefficients ℤ_value

-- an equation a = b from another, l = r: a - b = k (l - r)
pub from_multiple_ℤ : (k : ℤ) {l r a b : ℤ} → l ≡ r → a -ℤ b ≡ k *ℤ (l -ℤ r) → a ≡ b
from_multiple_ℤ k {l} {r} {a} {b} h e = from_multiple ℤ_ring k l r a b h e
