-- `twice_each` meets its contract: `twice` does, four times.
use Rattle.section_words.proofs.twice_each.Goals as goal

pub returns : goal.returns
returns c = λ k a i l e f.
    record {
      first = c.twice.ensures k a i l e f.first;
      second = c.twice-2.ensures k a _ l e f.second;
      third = c.twice-3.ensures k a _ l e f.third;
      fourth = c.twice-4.ensures k a _ l e f.fourth;
    }
