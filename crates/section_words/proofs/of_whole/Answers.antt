-- `of_whole` meets its contract: the four words are two pairs.
use Rattle.std.proofs.Common.{refl, ◌+◌}
use Rattle.section_words.proofs.FigureOfFour.{all_whole, lower_whole, upper_whole, none_whole, upper_pair}
use Rattle.section_words.proofs.of_whole.Goals as goal

pub returns-in-true-true : goal.returns-in-true-true
returns-in-true-true c = λ a i f some.
    all_whole a i ((c.in-true-true.ensures a i f.first f.second).0 refl) ((c.in-true-true.ensures' a (i + 128) f.third (upper_pair f)).0 refl)

pub returns-in-true-false : goal.returns-in-true-false
returns-in-true-false c = λ a i f some.
    lower_whole a i ((c.in-true-false.ensures a i f.first f.second).0 refl) ((c.in-true-false.ensures' a (i + 128) f.third (upper_pair f)).1 refl)

pub returns-in-true-false-2 : goal.returns-in-true-false-2
returns-in-true-false-2 c = λ a i f some.
    upper_whole a i ((c.in-true-false.ensures a i f.first f.second).1 refl) ((c.in-true-false.ensures' a (i + 128) f.third (upper_pair f)).0 refl)

pub returns-in-false-false : goal.returns-in-false-false
returns-in-false-false c = λ a i f some.
    none_whole a i ((c.in-false-false.ensures a i f.first f.second).1 refl) ((c.in-false-false.ensures' a (i + 128) f.third (upper_pair f)).1 refl)
    some
