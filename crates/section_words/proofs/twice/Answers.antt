-- `twice` meets its contract: a digit of the result is both digits of the halves.
use Rattle.section_words.proofs.Words.{doubled}
use Rattle.section_words.proofs.twice.Goals as goal

pub returns : goal.returns
returns c = λ k a i small size_is f.
    doubled k a i c.args.free c.args.size c.starts_of_twice.result small size_is (c.starts_of_twice.ensures k small size_is) f
