-- `starts_of_twice` meets its contract: one word for each size.
use mathlib.Core.Path.{◌≡◌}
use Prim.Native.Nat.{ℕ}
use Rattle.section_words.proofs.Words.{starts_at, last_size, twos, fours, eights, sixteens, thirty_twos, whole}
use Rattle.section_words.proofs.starts_of_twice.Goals as goal

pub returns-in-1 : goal.returns-in-1
returns-in-1 c = λ k l e. starts_at 0 k c.args.size _ twos c.in-1.is e

pub returns-in-2 : goal.returns-in-2
returns-in-2 c = λ k l e. starts_at 1 k c.args.size _ fours c.in-2.is e

pub returns-in-4 : goal.returns-in-4
returns-in-4 c = λ k l e. starts_at 2 k c.args.size _ eights c.in-4.is e

pub returns-in-8 : goal.returns-in-8
returns-in-8 c = λ k l e. starts_at 3 k c.args.size _ sixteens c.in-8.is e

pub returns-in-16 : goal.returns-in-16
returns-in-16 c = λ k l e. starts_at 4 k c.args.size _ thirty_twos c.in-16.is e

pub returns-in_default : goal.returns-in_default
returns-in_default c = λ k l e.
    let rest = c.in_default.in_default-own.rest in
    let size : ℕ = c.args.size in
    let last : size ≡ 32 = last_size k size l e rest.0.0.0.0.1 rest.0.0.0.1 rest.0.0.1 rest.0.1 rest.1 in
    starts_at 5 k size _ whole last e
