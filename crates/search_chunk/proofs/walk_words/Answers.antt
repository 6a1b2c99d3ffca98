use mathlib.Core.Path.{◌≡◌, refl, subst}
use Prim.Native.Nat.{ℕ, ◌+◌, ◌*◌, ◌/◌, ◌≤◌}
use native.Mathlib.Omega.{arith}
use Rattle.search_walk.proofs.Walk.{size_positive}
use Rattle.section_words.specs.Words.{Digits}
use Rattle.search_chunk.proofs.Words.{Chunks, passed_start, passed_none, chunks_start, chunks_next, word_passed, lowest_found}
use Rattle.search_chunk.proofs.walk_words.Goals.{Else-from-looks}
use Rattle.search_chunk.proofs.walk_words.Goals as goal

pub words-init : goal.words-init
words-init c = passed_start _ _ _ _ c.requires.part c.requires.to_bound.3

pub loop-free-init : goal.loop-free-init
loop-free-init c =
    let p : ℕ = c.args.from + c.words.looks in
    let first : 8 * (p / 8) ≡ p = omega (arith, c.words.invariant.starts) in (
      refl,
      c.words.invariant,
      chunks_start _ _ _ _ (size_positive _ _ _ c.requires.part) (subst (λ (x : ℕ). Digits 64 c.args.a.now x c.eight_bytes-free.result) first c.eight_bytes-free.ensures),
    )

-- the whole word lies in the part
inside : (c : Else-from-looks) → c.args.from + c.words.looks + 64 ≤ c.args.to
inside c = omega (arith, c.words.invariant.inside, c.words.invariant.starts, c.requires.to_bound.4, c.if-from-looks.false)

pub words-preserved : goal.words-preserved
words-preserved c =
    word_passed _ _ _ _ _ c.loop-free.s c.loop-free.free c.requires.part c.requires.to_bound.2 c.loop-free.invariant.1 c.loop-free.invariant.2
    c.if-free-eq0.true (omega (arith, c.loop-free.invariant.0, inside (goal.at.words-preserved c).Else-from-looks))

pub loop-free-preserved : goal.loop-free-preserved
loop-free-preserved c = (
  c.loop-free.invariant.0,
  c.loop-free.invariant.1,
  chunks_next _ _ _ _ _ _ _ c.requires.part.power c.requires.to_bound.2 c.loop-free.invariant.2 c.if-s-size.false c.twice-free.ensures,
)

pub returns-then-s-size : goal.returns-then-s-size
returns-then-s-size c =
    let chunks : Chunks c.args.a.now c.args.size (c.args.from + c.loop-free.looks) c.args.size c.loop-free.free =
    subst (λ (x : ℕ). Chunks c.args.a.now c.args.size (c.args.from + c.loop-free.looks) x c.loop-free.free) c.if-s-size.true c.loop-free.invariant.2 in
    lowest_found _ _ _ _ _ _ c.requires.part c.requires.to_bound.2 c.loop-free.invariant.1 chunks c.if-free-eq0.false
    (omega (arith, c.loop-free.invariant.0, inside (goal.at.returns-then-s-size c).Else-from-looks))

pub returns-then-from-looks : goal.returns-then-from-looks
returns-then-from-looks c = passed_none _ _ _ _ _ c.words.invariant c.requires.part c.if-from-looks.true
