-- What is stated of replays, as one record, which has one proof (`replay_theory`, proofs/Theorems.antt): no statement
-- can be dropped unnoticed.
use Rattle.replay.specs.Replay.{ReplayIsCalls}

pub record ReplayTheory : Type 0 where
  pub replay_is_calls : ReplayIsCalls
