use native.Mathlib.Omega.{arith}
use Rattle.replay_words.proofs.Calls.{call_at}
use Rattle.replay_run.proofs.Progress.{call_made, progress_start, progress_next, progress_done}
use Rattle.replay_run.proofs.run_all.Goals as goal

pub loop-i-init : goal.loop-i-init
loop-i-init c =
    progress_start c.requires.0 c.requires.2

pub step-reply-requires : goal.step-reply-requires
step-reply-requires c = c.loop-i.invariant.usable

pub put_reply-requires : goal.put_reply-requires
put_reply-requires c =
    omega (arith, c.loop-i.invariant.room, c.loop-i.invariant.replies_length)

pub loop-i-preserved : goal.loop-i-preserved
loop-i-preserved c =
    progress_next (omega arith) c.step-reply.auto.roots
    (call_made _ _ c.args.calls.now c.loop-i.i c.call_at-call.ensures (call_at _ _ c.requires.1 _ (omega arith)) c.step-reply.ensures)
    c.put_reply.ensures
    c.loop-i.invariant

pub returns : goal.returns
returns c = progress_done (omega arith) c.loop-i.invariant
