-- What is stated of batches, as one record, which has one proof (`batch_theory`, proofs/Theorems.antt): no statement
-- can be dropped unnoticed.
use Rattle.replay_batch.specs.Batch.{BatchIsCalls}

pub record BatchTheory : Type 0 where
  pub batch_is_calls : BatchIsCalls
