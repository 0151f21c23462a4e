-- Expressions on `i64` values as data, so that one computed test shows that no step of an expression overflows, that divisors are above 0, and
-- that the machine's value is what the expression means. `range e rs` is a range of e where the arguments are in the ranges rs; `safe e rs` tests
-- that each part fits an `i64`. The answers that a proof takes are `fits`, `divides`, `equal_in` and `called`, and of a call of `quotient`
-- `quotient_asks` and `quotient_gives`. Assumes nothing.
use mathlib.Core.Path.{◌≡◌, refl, sym, ap₂, ◌∙◌, subst}
use mathlib.Core.Bool.{Bool, ◌&&◌}
use mathlib.Core.List.{List, [], ◌∷◌}
use Prim.Native.Nat.{ℕ, zero, suc, ◌<◌, zero-le}
use native.Mathlib.Nat.{lt_of_lt_of_le}
use native.Mathlib.Omega.{arith}
use lib.Dec.{T, ltb→lt, le→leb, lt→ltb}
use lib.IntN.{ℤ, pos, negsuc, ◌+ℤ◌, ◌-ℤ◌, ◌*ℤ◌}
use lib.Signed.{quot_z, ◌≤ℤ◌, ◌<ℤ◌, le_z_yes, lt_z_yes}
use mir.Syntax.{w16, w64}
use mir.Val.{SFits, to_z, of_z}
use mir.Facts.{to_z-of_z, sfits_widen}
use Rattle.numbers.specs.Whole.{◌÷↓◌, ◌÷0◌}
use Rattle.numbers.specs.Ranges.{Range, from◌to◌, minus◌to◌, Bounds, InRange}
use Rattle.numbers.proofs.RangeArithmetic.{both, sum_range, difference_range, product_range, quotient_range, above_zero, not_below_zero, fits_i64, fits_i16, inside, wider, range_fits, range_fits_i16, sum_in, difference_in, product_in, quotient_in, toward_zero_in, down_is}

-- an argument, one that is an `i16`, a literal, and the operations; `÷↓ᵐ` is the machine's division or a call of `quotient`, `÷0ᵐ` a
-- call of `toward_zero`
infixl 6 ◌+ᵐ◌ ◌-ᵐ◌
infixl 7 ◌*ᵐ◌ ◌÷↓ᵐ◌ ◌÷0ᵐ◌
pub data MachineExpression : Type 0 where
  arg : ℕ → MachineExpression
  arg_i16 : ℕ → MachineExpression
  lit : ℕ → MachineExpression
  ◌+ᵐ◌ : MachineExpression → MachineExpression → MachineExpression
  ◌-ᵐ◌ : MachineExpression → MachineExpression → MachineExpression
  ◌*ᵐ◌ : MachineExpression → MachineExpression → MachineExpression
  ◌÷↓ᵐ◌ : MachineExpression → MachineExpression → MachineExpression
  ◌÷0ᵐ◌ : MachineExpression → MachineExpression → MachineExpression

abbrev pub value_at : List ℤ → ℕ → ℤ
value_at [] i = pos 0
value_at (z ∷ zs) zero = z
value_at (z ∷ zs) (suc i) = value_at zs i

abbrev pub range_at : List Range → ℕ → Range
range_at [] i = from 0 to 0
range_at (r ∷ rs) zero = r
range_at (r ∷ rs) (suc i) = range_at rs i

-- each value is in its range
infixr 5 ◌and◌
pub data Given : List Range → List ℤ → Type 0 where
  none : Given [] []
  ◌and◌ : {r : Range} {z : ℤ} {rs : List Range} {zs : List ℤ} → InRange r z → Given rs zs → Given (r ∷ rs) (z ∷ zs)

at_in : {rs : List Range} {zs : List ℤ} → Given rs zs → (i : ℕ) → Bounds (range_at rs i) (value_at zs i)
at_in none i = omega arith
at_in (p and g) zero = p.bounds
at_in (p and g) (suc i) = at_in g i

-- what the machine reads back from the bits of z
abbrev pub read_back : ℤ → ℤ
read_back z = to_z w64 (of_z w64 z)

-- the machine's value, and an operation's exact result of the machine's operands, which must fit
abbrev pub machine : MachineExpression → List ℤ → ℤ
machine (arg i) zs = read_back (value_at zs i)
machine (arg_i16 i) zs = read_back (to_z w16 (of_z w16 (value_at zs i)))
machine (lit n) zs = pos n
machine (a +ᵐ b) zs = read_back (machine a zs +ℤ machine b zs)
machine (a -ᵐ b) zs = read_back (machine a zs -ℤ machine b zs)
machine (a *ᵐ b) zs = read_back (machine a zs *ℤ machine b zs)
machine (a ÷↓ᵐ b) zs = read_back (quot_z (machine a zs) (machine b zs))
machine (a ÷0ᵐ b) zs = read_back (machine a zs ÷0 machine b zs)

abbrev pub result : MachineExpression → List ℤ → ℤ
result (arg i) zs = value_at zs i
result (arg_i16 i) zs = to_z w16 (of_z w16 (value_at zs i))
result (lit n) zs = pos n
result (a +ᵐ b) zs = machine a zs +ℤ machine b zs
result (a -ᵐ b) zs = machine a zs -ℤ machine b zs
result (a *ᵐ b) zs = machine a zs *ℤ machine b zs
result (a ÷↓ᵐ b) zs = quot_z (machine a zs) (machine b zs)
result (a ÷0ᵐ b) zs = machine a zs ÷0 machine b zs

-- what the expression means
abbrev pub meaning : MachineExpression → List ℤ → ℤ
meaning (arg i) zs = value_at zs i
meaning (arg_i16 i) zs = value_at zs i
meaning (lit n) zs = pos n
meaning (a +ᵐ b) zs = meaning a zs +ℤ meaning b zs
meaning (a -ᵐ b) zs = meaning a zs -ℤ meaning b zs
meaning (a *ᵐ b) zs = meaning a zs *ℤ meaning b zs
meaning (a ÷↓ᵐ b) zs = meaning a zs ÷↓ meaning b zs
meaning (a ÷0ᵐ b) zs = meaning a zs ÷0 meaning b zs

abbrev pub range : MachineExpression → List Range → Range
range (arg i) rs = range_at rs i
range (arg_i16 i) rs = range_at rs i
range (lit n) rs = from n to n
range (a +ᵐ b) rs = sum_range (range a rs) (range b rs)
range (a -ᵐ b) rs = difference_range (range a rs) (range b rs)
range (a *ᵐ b) rs = product_range (range a rs) (range b rs)
range (a ÷↓ᵐ b) rs = quotient_range (range a rs) (range b rs)
range (a ÷0ᵐ b) rs = quotient_range (range a rs) (range b rs)

abbrev pub safe : MachineExpression → List Range → Bool
safe (arg i) rs = fits_i64 (range_at rs i)
safe (arg_i16 i) rs = fits_i16 (range_at rs i)
safe (lit n) rs = fits_i64 (from n to n)
safe (a +ᵐ b) rs = fits_i64 (range (a +ᵐ b) rs) && (safe a rs && safe b rs)
safe (a -ᵐ b) rs = fits_i64 (range (a -ᵐ b) rs) && (safe a rs && safe b rs)
safe (a *ᵐ b) rs = fits_i64 (range (a *ᵐ b) rs) && (safe a rs && safe b rs)
safe (a ÷↓ᵐ b) rs = (fits_i64 (range (a ÷↓ᵐ b) rs) && (above_zero (range b rs) && not_below_zero (range a rs))) && (safe a rs && safe b rs)
safe (a ÷0ᵐ b) rs = (fits_i64 (range (a ÷0ᵐ b) rs) && above_zero (range b rs)) && (safe a rs && safe b rs)

read_back_lem : {z : ℤ} → SFits w64 z → read_back z ≡ z
read_back_lem h = to_z-of_z h

machine_is_result : (e : MachineExpression) (zs : List ℤ) → SFits w64 (result e zs) → machine e zs ≡ result e zs
machine_is_result (arg i) zs h = read_back_lem h
machine_is_result (arg_i16 i) zs h = read_back_lem h
machine_is_result (lit n) zs h = refl
machine_is_result (a +ᵐ b) zs h = read_back_lem h
machine_is_result (a -ᵐ b) zs h = read_back_lem h
machine_is_result (a *ᵐ b) zs h = read_back_lem h
machine_is_result (a ÷↓ᵐ b) zs h = read_back_lem h
machine_is_result (a ÷0ᵐ b) zs h = read_back_lem h

-- what holds of a safe expression: the exact result is the meaning, which is in the range, and it fits
pub record Holds (e : MachineExpression) (rs : List Range) (zs : List ℤ) : Type 0 where
  pub exact : result e zs ≡ meaning e zs
  pub bounds : Bounds (range e rs) (meaning e zs)
  pub fits : SFits w64 (result e zs)

value_is : (e : MachineExpression) (rs : List Range) (zs : List ℤ) → Holds e rs zs → machine e zs ≡ meaning e zs
value_is e rs zs h = machine_is_result e zs h.fits ∙ h.exact

holds_by : (e : MachineExpression) (rs : List Range) (zs : List ℤ) → T (fits_i64 (range e rs)) → Bounds (range e rs) (meaning e zs) → result e zs ≡ meaning e zs → Holds e rs zs
holds_by e rs zs t p x =
    record { exact = x; bounds = p; fits = subst (SFits w64) (sym x) (range_fits (range e rs) (meaning e zs) t p) }

not_below : (r : Range) (x : ℤ) → T (not_below_zero r) → Bounds r x → pos 0 ≤ℤ x
not_below (from a to b) (pos n) t p = le_z_yes (le→leb 0 n zero-le)
not_below (from a to b) (negsuc n) t p = absurd p
not_below (minus a to b) x t p = absurd t

above : (s : Range) (y : ℤ) → T (above_zero s) → Bounds s y → pos 0 <ℤ y
above (from c to d) (pos k) t q = lt_z_yes (lt→ltb 0 k (lt_of_lt_of_le (ltb→lt 0 c t) q.0))
above (from c to d) (negsuc k) t q = absurd q
above (minus c to d) y t q = absurd t

pub bits_above : (y : ℤ) → pos 0 <ℤ y → 0 < of_z w64 y
bits_above (pos k) h = ltb→lt 0 k h.lt
bits_above (negsuc k) h = absurd h.lt

-- what a division asks: its divisor is above 0, and its quotient fits
abbrev pub Divides : MachineExpression → MachineExpression → List ℤ → Type 0
Divides a b zs = (0 < of_z w64 (result b zs)) × SFits w64 (quot_z (machine a zs) (machine b zs))

module _ {rs : List Range} {zs : List ℤ} (g : Given rs zs) where
  -- an operation of two parts
  parts : (a b : MachineExpression) (t : Bool) → T (t && (safe a rs && safe b rs)) → T t × (T (safe a rs) × T (safe b rs))
  parts a b t h = let s = both t (safe a rs && safe b rs) h in (s.0, both (safe a rs) (safe b rs) s.1)

  -- a division: its quotient fits, its divisor is above 0, its dividend not below 0, and its two parts
  division : (a b : MachineExpression) → T (safe (a ÷↓ᵐ b) rs) →
      (T (fits_i64 (range (a ÷↓ᵐ b) rs)) × (T (above_zero (range b rs)) × T (not_below_zero (range a rs)))) × (T (safe a rs) × T (safe b rs))
  division a b t =
      let s = parts a b (fits_i64 (range (a ÷↓ᵐ b) rs) && (above_zero (range b rs) && not_below_zero (range a rs))) t in
      let u = both (fits_i64 (range (a ÷↓ᵐ b) rs)) (above_zero (range b rs) && not_below_zero (range a rs)) s.0 in
      ((u.0, both (above_zero (range b rs)) (not_below_zero (range a rs)) u.1), s.1)

  pub holds : (e : MachineExpression) → T (safe e rs) → Holds e rs zs
  unfolding parts
  holds (arg i) t = holds_by (arg i) rs zs t (at_in g i) refl
  holds (arg_i16 i) t =
      let h = range_fits_i16 (range_at rs i) (value_at zs i) t (at_in g i) in
      let e = to_z-of_z {w = w16} h in
      record { exact = e; bounds = at_in g i; fits = subst (SFits w64) (sym e) (sfits_widen tt h) }
  holds (lit n) t = holds_by (lit n) rs zs t (omega arith) refl
  holds (a +ᵐ b) t =
      let s = parts a b (fits_i64 (range (a +ᵐ b) rs)) t in
      let p = holds a s.1.0 in
      let q = holds b s.1.1 in
      holds_by (a +ᵐ b) rs zs s.0 (sum_in (range a rs) (range b rs) (meaning a zs) (meaning b zs) p.bounds q.bounds)
      (ap₂ ◌+ℤ◌ (value_is a rs zs p) (value_is b rs zs q))
  holds (a -ᵐ b) t =
      let s = parts a b (fits_i64 (range (a -ᵐ b) rs)) t in
      let p = holds a s.1.0 in
      let q = holds b s.1.1 in
      holds_by (a -ᵐ b) rs zs s.0 (difference_in (range a rs) (range b rs) (meaning a zs) (meaning b zs) p.bounds q.bounds)
      (ap₂ ◌-ℤ◌ (value_is a rs zs p) (value_is b rs zs q))
  holds (a *ᵐ b) t =
      let s = parts a b (fits_i64 (range (a *ᵐ b) rs)) t in
      let p = holds a s.1.0 in
      let q = holds b s.1.1 in
      holds_by (a *ᵐ b) rs zs s.0 (product_in (range a rs) (range b rs) (meaning a zs) (meaning b zs) p.bounds q.bounds)
      (ap₂ ◌*ℤ◌ (value_is a rs zs p) (value_is b rs zs q))
  holds (a ÷↓ᵐ b) t =
      let s = division a b t in
      let v = s.0.1 in
      let p = holds a s.1.0 in
      let q = holds b s.1.1 in
      let e = down_is (range a rs) (range b rs) (meaning a zs) (meaning b zs) v.1 v.0 p.bounds q.bounds in
      holds_by (a ÷↓ᵐ b) rs zs s.0.0
      (subst (Bounds (range (a ÷↓ᵐ b) rs)) e (quotient_in (range a rs) (range b rs) (meaning a zs) (meaning b zs) v.0 p.bounds q.bounds))
      (ap₂ quot_z (value_is a rs zs p) (value_is b rs zs q) ∙ e)
  holds (a ÷0ᵐ b) t =
      let s = parts a b (fits_i64 (range (a ÷0ᵐ b) rs) && above_zero (range b rs)) t in
      let u = both (fits_i64 (range (a ÷0ᵐ b) rs)) (above_zero (range b rs)) s.0 in
      let p = holds a s.1.0 in
      let q = holds b s.1.1 in
      holds_by (a ÷0ᵐ b) rs zs u.0
      (toward_zero_in (range a rs) (range b rs) (meaning a zs) (meaning b zs) u.1 p.bounds q.bounds)
      (ap₂ ◌÷0◌ (value_is a rs zs p) (value_is b rs zs q))

  -- an operation's result fits
  pub fits : (e : MachineExpression) → T (safe e rs) → SFits w64 (result e zs)
  fits e t = (holds e t).fits

  -- a division may be done
  pub divides : (a b : MachineExpression) → T (safe (a ÷↓ᵐ b) rs) → Divides a b zs
  divides a b t =
      let s = division a b t in
      let q = holds b s.1.1 in
      (rw q.exact (bits_above (meaning b zs) (above (range b rs) (meaning b zs) s.0.1.0 q.bounds)), fits (a ÷↓ᵐ b) t)

  -- `quotient` may be called, and what it gives is the machine's division
  pub quotient_asks : (a b : MachineExpression) → T (safe (a ÷↓ᵐ b) rs) → (pos 0 ≤ℤ machine a zs) × (pos 0 <ℤ machine b zs)
  quotient_asks a b t =
      let s = division a b t in
      let p = holds a s.1.0 in
      let q = holds b s.1.1 in
      rw (value_is a rs zs p, value_is b rs zs q)
      (not_below (range a rs) (meaning a zs) s.0.1.1 p.bounds, above (range b rs) (meaning b zs) s.0.1.0 q.bounds)

  pub quotient_gives : (a b : MachineExpression) {x : ℤ} → x ≡ machine a zs ÷↓ machine b zs → T (safe (a ÷↓ᵐ b) rs) → x ≡ result (a ÷↓ᵐ b) zs
  quotient_gives a b e t =
      let s = division a b t in
      e
      ∙ ap₂ ◌÷↓◌ (value_is a rs zs (holds a s.1.0)) (value_is b rs zs (holds b s.1.1))
      ∙ sym (holds (a ÷↓ᵐ b) t).exact

  -- the machine's value is the meaning
  pub equal : (e : MachineExpression) → T (safe e rs) → machine e zs ≡ meaning e zs
  equal e t = value_is e rs zs (holds e t)

  -- the meaning is in the range s
  pub meaning_in : (e : MachineExpression) (s : Range) → T (safe e rs && inside (range e rs) s) → InRange s (meaning e zs)
  meaning_in e s t =
      let u = both (safe e rs) (inside (range e rs) s) t in
      record { bounds = wider (range e rs) s (meaning e zs) u.1 (holds e u.0).bounds }

  -- the machine's value is the meaning, and is in the range s: what a leaf's contract ensures
  pub equal_in : (e : MachineExpression) (s : Range) → T (safe e rs && inside (range e rs) s) → (machine e zs ≡ meaning e zs) × InRange s (machine e zs)
  equal_in e s t =
      let q = equal e (both (safe e rs) (inside (range e rs) s) t).0 in
      (q, subst (InRange s) (sym q) (meaning_in e s t))

  -- the same of what a call gave
  pub called : (e : MachineExpression) (s : Range) {x : ℤ} → x ≡ result e zs → T (safe e rs && inside (range e rs) s) → (x ≡ meaning e zs) × InRange s x
  called e s p t =
      let q = p ∙ (holds e (both (safe e rs) (inside (range e rs) s) t).0).exact in
      (q, subst (InRange s) (sym q) (meaning_in e s t))
