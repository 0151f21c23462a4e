-- The outcome of a log has room in the two halves of a returned number. Assumes nothing.
use mathlib.Core.List.{List}
use mathlib.Core.Path.{◌≡◌, refl, sym, ap, ◌∙◌, subst}
use Prim.Native.Nat.{ℕ, ◌<◌}
use native.Mathlib.Omega.{arith}
use borrow.Author.Tests.{ne_eqb}
use lib.ListN.{length}
use Rattle.day.proofs.Tests.{first_there}
use Rattle.exports.specs.Told.{refused, mark_number, said, said_by, outcome_said, LengthSaid}
use Rattle.station_log.proofs.OutcomeSize.{Small, outcome_small}
use Rattle.station_log.specs.Log.{number_of_fault, outcome_of}
use Rattle.promises.specs.Demand.{AnsweredLog}
use Rattle.station_log.specs.declared.Refused.{Refused}
use Rattle.std.specs.Prelude.{Ok, Err}

module _ (s : List ℕ) (size : ℕ) where
  pub written_small : {n : ℕ} → Ok n ≡ outcome_of s size → n < 4294967296
  written_small e = omega (arith, subst Small (sym e) (outcome_small s size))

  pub refused_small : {r : Refused} → Err r ≡ outcome_of s size → r.place < 4294967296
  refused_small e = omega (arith, (subst Small (sym e) (outcome_small s size)).1)

  -- no refusal of a log has the number 0 or the mark's
  pub refused_said : {r : Refused} {k : ℕ} → k ≡ number_of_fault r.why → Err r ≡ outcome_of s size → said k r.place ≡ refused (number_of_fault r.why) r.place
  refused_said {r} {k} is e =
      let small = subst Small (sym e) (outcome_small s size) in
      let number = number_of_fault r.why in
      rw is (sym
      (first_there _ (ne_eqb number 0 (λ z. omega (arith, z, small.0.0)))
      (first_there _ (ne_eqb number mark_number (λ z. omega (arith, z, small.0.1))) refl)))

-- of a log that the rules answer, the number that says its outcome says a length
pub length_said : (s buffer : List ℕ) (r : ℕ) → said_by r ≡ outcome_said (outcome_of s (length buffer)) → LengthSaid s buffer r
unfolding LengthSaid AnsweredLog
length_said s buffer r e log = (log.0, e ∙ ap outcome_said log.1)
