-- `exports::fuortwem_read_log` meets its contract: no length or offset needs more than the low half. Assumes nothing.
use mathlib.Core.Path.{ap, ◌∙◌}
use Rattle.exports.specs.Told.{outcome_said}
use Rattle.exports.proofs.Returned.{written_small, refused_small, refused_said, length_said}
use Rattle.exports.proofs.fuortwem_read_log.Goals as goal

pub overflow_cast-written : goal.overflow_cast-written
overflow_cast-written c = record { fits = written_small _ _ c.in-Ok.ensures.read.outcome }

pub overflow_cast-refused : goal.overflow_cast-refused
overflow_cast-refused c = record { fits = refused_small _ _ c.in-Err.ensures.read.outcome }

pub returns-in-Ok-clause-length_said : goal.returns-in-Ok-clause-length_said
returns-in-Ok-clause-length_said c = length_said _ _ _ (c.packed.ensures ∙ ap outcome_said c.in-Ok.ensures.read.outcome)

pub returns-in-Err-clause-length_said : goal.returns-in-Err-clause-length_said
returns-in-Err-clause-length_said c =
    let outcome = c.in-Err.ensures.read.outcome in
    length_said _ _ _ (c.packed-in-Err.ensures ∙ refused_said _ _ (c.into.ensures ∙ c.from.ensures) outcome ∙ ap outcome_said outcome)
