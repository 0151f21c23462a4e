-- `sheet::radiation::cloud_factor` meets its contract: each step is safe in the ranges required, and the 1,017 pair plus a zero-or-one times the
-- differences (02, W3) is the sheet's K. Assumes nothing.
use mathlib.Core.Path.{◌≡◌, refl, ◌∙◌, ap, ap₂}
use mathlib.Core.Bool.{Bool, true, false, cond}
use mathlib.Core.List.{List, [], ◌∷◌}
use native.Mathlib.Omega.{arith}
use lib.IntN.{ℤ, pos, ◌+ℤ◌, ◌-ℤ◌, ◌*ℤ◌}
use lib.Signed.{lt_z}
use mir.Facts.{to_z-of_z}
use mir.Val.{bool_byte}
use Rattle.numbers.specs.Whole.{◌÷↓◌}
use Rattle.numbers.specs.Ranges.{InRange, from◌to◌}
use Rattle.numbers.proofs.Reflection.{MachineExpression, arg, lit, ◌+ᵐ◌, ◌-ᵐ◌, ◌*ᵐ◌, ◌÷↓ᵐ◌, Given, none, ◌and◌, result, fits, equal, meaning, quotient_asks, quotient_gives}
use Rattle.sheet.specs.Quantities as quantities
use Rattle.sheet.specs.StepSheet.{ρ, K}
use Rattle.sheet.proofs.Values.{equal_of}
use Rattle.sheet.proofs.radiation.cloud_factor.Goals as goal

-- what the choice compares, of the radiation and the clear-day radiation
abbrev reading : MachineExpression
reading = lit 1_000_000_000 *ᵐ arg 0

abbrev border : MachineExpression
border = lit 7 *ᵐ arg 1

-- K of the ratio and the zero-or-one, with its parts
abbrev times_more : MachineExpression
times_more = lit 109 *ᵐ arg 1

abbrev times : MachineExpression
times = lit 1_017 +ᵐ times_more

abbrev share : MachineExpression
share = times *ᵐ arg 0

abbrev less_more : MachineExpression
less_more = lit 10_000_000 *ᵐ arg 1

abbrev less : MachineExpression
less = lit 60_000_000 +ᵐ less_more

abbrev factor : MachineExpression
factor = (share ÷↓ᵐ lit 1_000) -ᵐ less

-- a test as a number, and a value that hangs on it
abbrev zero_or_one : Bool → ℤ
zero_or_one b = pos (bool_byte b)

zero_or_one_in : (b : Bool) → InRange (from 0 to 1) (zero_or_one b)
zero_or_one_in true = omega arith
zero_or_one_in false = omega arith

by_test : (f : Bool → ℤ) (b : Bool) → f b ≡ cond b (f true) (f false)
by_test f true = refl
by_test f false = refl

-- the sheet's choice: 10⁹s > 7Q
abbrev is_bright : ℤ → ℤ → Bool
is_bright s Q = lt_z (pos 7 *ℤ Q) (pos 1_000_000_000 *ℤ s)

-- the arithmetic gives the sheet's K, for every s and Q: so for all that the contract takes
pub as_arithmetic : (s Q : ℤ) →
    let b = zero_or_one (is_bright s Q) in
    ((pos 1_017 +ℤ pos 109 *ℤ b) *ℤ ρ s Q ÷↓ pos 1_000) -ℤ (pos 60_000_000 +ℤ pos 10_000_000 *ℤ b) ≡ K s Q
unfolding K
as_arithmetic s Q = by_test (λ (b : Bool). meaning factor (ρ s Q ∷ zero_or_one b ∷ [])) (is_bright s Q)

module _ (c : goal.After-from-bright) where
  abbrev compared : List ℤ
  compared = c.args.s ∷ c.args.q ∷ []

  choice_given : Given (quantities.radiation ∷ quantities.clear_day ∷ []) compared
  choice_given = c.requires.0 and c.requires.1 and none

  bright_given : Given ((from 0 to 1) ∷ []) (c.from-bright.result ∷ [])
  bright_given = rw c.from-bright.ensures (zero_or_one_in _) and none

  ratio_is : (c.ratio-rho.result ≡ ρ c.args.s c.args.q) × InRange quantities.ratio c.ratio-rho.result
  ratio_is = (c.ratio-rho.ensures.0 ∙ ap₂ ρ (to_z-of_z c.ranges.s) (to_z-of_z c.ranges.q), c.ratio-rho.ensures.1)

  abbrev values : List ℤ
  values = c.ratio-rho.result ∷ c.from-bright.result ∷ []

  given : Given (quantities.ratio ∷ (from 0 to 1) ∷ []) values
  given = c.ratio-rho.ensures.1 and bright_given

quotient_is : (c : goal.After-quotient) → c.quotient.result ≡ result (share ÷↓ᵐ lit 1_000) (values c.before)
quotient_is c = quotient_gives (given c.before) share (lit 1_000) c.quotient.ensures tt

pub returns : goal.returns
returns c =
    let b = c.before in
    let s = c.args.s in
    let q = c.args.q in
    let h = equal_of (bright_given b) (ratio_is b) factor quantities.cloud_factor tt in
    rw (quotient_is c) (
      h.0
          ∙ ap (λ (z : ℤ). meaning factor (ρ s q ∷ z ∷ [])) c.from-bright.ensures
          ∙ ap₂ (λ (x y : ℤ). meaning factor (ρ s q ∷ zero_or_one (lt_z x y) ∷ [])) (equal (choice_given b) border tt) (equal (choice_given b) reading tt)
          ∙ as_arithmetic s q,
      h.1,
    )

pub overflow_mul-bright-2 : goal.overflow_mul-bright-2
overflow_mul-bright-2 c = fits (given c) share tt

pub quotient-requires : goal.quotient-requires
quotient-requires c = quotient_asks (given c) share (lit 1_000) tt

pub overflow_mul-result : goal.overflow_mul-result
overflow_mul-result c = fits (given c.before) less_more tt

pub overflow_add-result : goal.overflow_add-result
overflow_add-result c = fits (given c.before) less tt

pub overflow_sub-result : goal.overflow_sub-result
overflow_sub-result c = rw (quotient_is c) (fits (given c.before) factor tt)
