use mathlib.Core.Path.{refl}
use native.Mathlib.Omega.{arith}
use Rattle.history_runs.proofs.Progress.{progress_start, step_going, progress_next, progress_stop, progress_done}
use Rattle.history.proofs.run.run_whole.Goals as goal

pub loop-i-init : goal.loop-i-init
loop-i-init c =
    progress_start refl c.requires.0 c.requires.1

pub fields_at-f-requires : goal.fields_at-f-requires
fields_at-f-requires c = omega (arith, c.requires.2)

pub step-state-requires : goal.step-state-requires
step-state-requires c =
    (c.loop-i.invariant.usable, step_going (omega arith) c.loop-i.invariant, c.fields_at-f.ensures.1)

pub returns-then-state-ne0 : goal.returns-then-state-ne0
returns-then-state-ne0 c =
    progress_stop c.loop-i-test.true c.loop-i.invariant c.fields_at-f.ensures.0
    c.step-state.ensures c.if-state-ne0.true

pub loop-i-preserved : goal.loop-i-preserved
loop-i-preserved c =
    progress_next c.loop-i-test.true c.loop-i.invariant c.fields_at-f.ensures.0
    c.step-state.ensures c.step-state.auto.roots c.if-state-ne0.false

pub returns : goal.returns
returns c = progress_done (omega arith) c.loop-i.invariant
