-- `replay` meets its contract: a refusal writes nothing, and an accepted list is formatted and run.
use mathlib.Core.Path.{◌≡◌, refl, sym, ap, ◌∙◌}
use mathlib.Core.Bool.{Bool}
use mathlib.Core.List.{List}
use Prim.Native.Nat.{ℕ}
use Rattle.types.specs.declared.Reply.{Reply}
use Rattle.types.proofs.Refused.{number_ne0}
use Rattle.replay_words.specs.Refusals.{reply_on}
use Rattle.replay_words.proofs.Calls.{Passed, accepted_passed}
use Rattle.replay.proofs.Start.{started_usable, replayed}
use Rattle.replay.proofs.replay.Goals as goal

-- what an accepted list has passed
passed :
    {shape : Bool} {words : List ℕ} {room : ℕ} {test : Reply} → test ≡ reply_on shape words room → test.number ≡ 0
    → Passed shape words room
passed {shape} {words} {room} tested accepted =
    accepted_passed shape words room (ap (λ (r : Reply). r.number) (sym tested) ∙ accepted)

pub returns-in-Err : goal.returns-in-Err
returns-in-Err c =
    rw c.into.ensures
    (record {
      reply_is = c.in-Err.ensures;
      refused = λ _. (refl, refl);
      ran = λ e. absurd (number_ne0 _ e);
    })

pub format-requires : goal.format-requires
format-requires c = (passed c.in-Ok.ensures refl).right_shape

pub run_all-requires : goal.run_all-requires
run_all-requires c =
    let ok = passed c.in-Ok.ensures refl in
    (started_usable _ _ _ ok.right_shape c.format.ensures, ok.calls, ok.enough_room)

pub returns : goal.returns
returns c =
    rw c.acceptance.ensures
    (record {
      reply_is = c.in-Ok.ensures;
      refused = λ n. absurd (n refl);
      ran = λ _. replayed (passed c.in-Ok.ensures refl).right_shape c.format.ensures c.run_all.ensures;
    })
