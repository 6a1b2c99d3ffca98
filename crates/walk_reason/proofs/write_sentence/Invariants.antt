-- `walk_reason::write_sentence` meets its contract.
use Rattle.rules_output.specs.Sentence.{sentence}
use Rattle.walk_reason.specs.Telling.{reason_in}
use Rattle.walk_reason.proofs.Sentences.{Written, left}
use Rattle.walk_reason.proofs.write_sentence.Given as goal

abbrev pub invariant-loop-i : goal.invariant-loop-i
invariant-loop-i l = Written (sentence (reason_in l.links) l.at) (left l.at l.cells l.i) l.fn.out l.out l.to
