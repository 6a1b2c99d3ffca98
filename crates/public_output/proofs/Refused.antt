-- A call with an output that the check refuses writes nothing.
use mathlib.Core.Path.{◌≡◌, refl, sym}
use mathlib.Core.Bool.{true}
use mathlib.Core.List.{List}
use Prim.Native.Nat.{ℕ}
use borrow.Author.Tests.{ne_eqb}
use Rattle.rules.specs.Heap.{Memory}
use Rattle.rules_calls.specs.Calls.{Call, check}
use Rattle.rules_calls.specs.Promise.{Promise, OutputPromise, output_after}
use Rattle.types.specs.declared.Reply.{Reply}
use Rattle.public_read.proofs.CheckReply.{TestsOne, refused_alike}

pub output_alike :
    {N w : ℕ} {h : Memory} {call : Call} {text : List ℕ} → TestsOne call → {x : Reply} (out : List ℕ) → Promise N w check h x h
    → (x.number ≡ 0 → ⊥) → OutputPromise N w call text h out x h out
unfolding output_after
output_alike {h} tests {x} out checked fails =
    record { heap = refused_alike {h = h} tests checked fails; output_is = sym (rw (ne_eqb x.number 0 fails, output_after) refl) }
