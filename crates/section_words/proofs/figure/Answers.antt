-- `figure` meets its contract: the largest size of which the word is not 0.
use Rattle.std.proofs.Common.{◌≡◌, ℕ, ◌<◌, ◌∙◌, add-one, arith, subst}
use Rattle.section_words.specs.Words.{FreeChunks}
use Rattle.section_words.proofs.Words.{free_blocks_lem}
use Rattle.section_words.proofs.FigureOfWord.{exact, all, zero_figure, sizes}
use Rattle.section_words.proofs.figure.Goals as goal

pub returns-then-chunks-eq0 : goal.returns-then-chunks-eq0
returns-then-chunks-eq0 c = λ a i d. zero_figure a i _ (free_blocks_lem a i c.args.used d) c.if-chunks-eq0.true

pub loop-size-init : goal.loop-size-init
loop-size-init c = (c.if-chunks-eq0.false, λ a i d. free_blocks_lem a i c.args.used d)

pub returns-then-larger-eq0 : goal.returns-then-larger-eq0
returns-then-larger-eq0 c = λ a i d.
    let k : ℕ = c.loop-size.size-index in
    let six : k < 6 = omega arith in
    let here = c.loop-size.invariant.1 a i d in
    let size = sizes k six in
    size ∙ exact k a i _ _ six here (c.twice-larger.ensures k a i six size here) c.loop-size.invariant.0 c.if-larger-eq0.true

pub loop-size-preserved : goal.loop-size-preserved
loop-size-preserved c =
    let k : ℕ = c.loop-size.size-index in
    let six : k < 6 = omega arith in
    (c.if-larger-eq0.false, λ a i d. rw add-one (c.twice-larger.ensures k a i six (sizes k six) (c.loop-size.invariant.1 a i d)))

pub returns : goal.returns
returns c = λ a i d.
    let last : c.loop-size.size-index ≡ 6 = omega arith in
    all a i _ (subst (λ (k : ℕ). FreeChunks k a i c.loop-size.chunks) last (c.loop-size.invariant.1 a i d)) c.loop-size.invariant.0
