-- `numbers::whole_root` meets its contract. Assumes nothing.
use Rattle.std.proofs.Common.{arith, div-le_self}
use Rattle.numbers.proofs.Newton.{step_above, step_some, root_when}
use Rattle.numbers.proofs.whole_root.Goals as goal

-- the first step
pub loop-root-init : goal.loop-root-init
loop-root-init c =
    let n = c.args.n in
    let g = c.args.guess in
    (step_some n g (omega (arith, c.requires)) c.requires.0, omega (arith, c.requires, div-le_self n g), step_above n g c.requires.0)

-- a further one
pub loop-root-preserved : goal.loop-root-preserved
loop-root-preserved c =
    let n = c.args.n in
    let l = c.loop-root in
    (step_some n l.root (omega (arith, c.requires)) l.invariant.0, omega (arith, l.invariant.1, c.loop-root-test.true), step_above n l.root l.invariant.0)

pub returns : goal.returns
returns c =
    let l = c.loop-root in
    record { low = root_when c.args.n l.root c.loop-root-test.false; high = l.invariant.2 }
