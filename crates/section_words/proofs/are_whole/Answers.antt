-- `are_whole` meets its contract: both words have the one chunk of 64 blocks, or one has not.
use Rattle.std.proofs.Common.{sym}
use mathlib.Core.Bool.{true≢false}
use native.Mathlib.Decide.{ℕ_discrete}
use borrow.Author.Tests.{eq-eqb, ne_eqb}
use Rattle.section_words.proofs.FigureOfFour.{pair_whole, lower_part, upper_part}
use Rattle.section_words.proofs.are_whole.Goals as goal

pub returns-then-lower-ne0 : goal.returns-then-lower-ne0
returns-then-lower-ne0 c = λ a i f g. elim (ℕ_discrete c.args.upper 0) [
  | yes e ↦ rw (eq-eqb c.args.upper 0 e) (λ t. absurd (true≢false (sym t)), λ _. upper_part a i _ _ f g e)
  | no n ↦ rw (ne_eqb c.args.upper 0 n) (λ _. pair_whole a i _ _ f g c.if-lower-ne0.true n, λ t. absurd (true≢false t))
]

pub returns-else-lower-ne0 : goal.returns-else-lower-ne0
returns-else-lower-ne0 c = λ a i f g.
    rw (eq-eqb c.args.lower 0 c.if-lower-ne0.false) (λ t. absurd (true≢false (sym t)), λ _. lower_part a i _ _ f g c.if-lower-ne0.false)
