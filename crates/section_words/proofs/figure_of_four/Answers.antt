-- `figure_of_four` meets its contract: the largest size of which not all four words are 0.
use Rattle.std.proofs.Common.{◌≡◌, ℕ, suc, ◌<◌, ◌∙◌, add-one, arith, subst}
use Rattle.section_words.specs.Words.{FourChunks}
use Rattle.section_words.proofs.FigureOfWord.{sizes}
use Rattle.section_words.proofs.FigureOfFour.{four_none, four_some, four_exact}
use Rattle.section_words.proofs.figure_of_four.Goals as goal

pub returns-then-is_none : goal.returns-then-is_none
returns-then-is_none c = λ a i f.
    omega (arith, four_none 0 a i _ (omega arith) f (c.is_none.ensures.0 c.if-is_none.true))

pub loop-size-init : goal.loop-size-init
loop-size-init c = (c.is_none.ensures.1 c.if-is_none.false, λ a i f. f)

pub returns-then-is_none-2 : goal.returns-then-is_none-2
returns-then-is_none-2 c = λ a i f.
    let k : ℕ = c.loop-size.size-index in
    let six : k < 6 = omega arith in
    let here = c.loop-size.invariant.1 a i f in
    let size = sizes k six in
    let low = four_some k a i _ (omega arith) here c.loop-size.invariant.0 in
    let high = four_none (suc k) a i _ six (c.twice_each-larger.ensures k a i six size here) (c.is_none-in-loop-size.ensures.0 c.if-is_none-2.true) in
    size ∙ four_exact k a i low high

pub loop-size-preserved : goal.loop-size-preserved
loop-size-preserved c =
    let k : ℕ = c.loop-size.size-index in
    let six : k < 6 = omega arith in (
      c.is_none-in-loop-size.ensures.1 c.if-is_none-2.false,
      λ a i f. rw add-one (c.twice_each-larger.ensures k a i six (sizes k six) (c.loop-size.invariant.1 a i f)),
    )

pub returns : goal.returns
returns c = λ a i f.
    let last : c.loop-size.size-index ≡ 6 = omega arith in
    let whole = subst (λ (k : ℕ). FourChunks k a i c.loop-size.chunks) last (c.loop-size.invariant.1 a i f) in
    c.of_whole.ensures a i whole (four_some 6 a i _ (omega arith) whole c.loop-size.invariant.0)
