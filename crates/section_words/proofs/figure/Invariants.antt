-- `figure` meets its contract: `chunks` has the free chunks of 2 ^ k blocks, and some are.
use Rattle.std.proofs.Common.{ℕ, List, ◌≢◌}
use Rattle.section_words.specs.Words.{Digits, FreeChunks}
use Rattle.section_words.proofs.figure.Given as goal

abbrev pub invariant-loop-size : goal.invariant-loop-size
invariant-loop-size l = (l.chunks ≢ 0) × ((a : List ℕ) (i : ℕ) → Digits 64 a i l.fn.used → FreeChunks l.size-index a i l.chunks)
