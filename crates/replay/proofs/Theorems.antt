-- The statements of specs/Theory.antt, proved.
use Rattle.replay.specs.Theory.{ReplayTheory}
use Rattle.replay.proofs.Start.{replay_is_calls}

pub replay_theory : ReplayTheory
replay_theory = record { replay_is_calls = replay_is_calls }
