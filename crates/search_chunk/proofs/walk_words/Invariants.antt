-- `walk_words` meets its contract. The words' loop: no chunk of the words before is free. The loop inside: `free` has the word's free chunks of s
-- blocks. The measures are what is left of the part, and what s has to grow.
use mathlib.Core.Path.{◌≡◌}
use Prim.Native.Nat.{◌-◌, ◌+◌}
use Rattle.search_chunk.proofs.Words.{Passed, Chunks}
use Rattle.search_chunk.proofs.walk_words.Given as goal

abbrev pub invariant-loop-free : goal.invariant-loop-free
invariant-loop-free l = (l.looks ≡ l.initial.looks) × Passed l.from l.to l.a l.size l.looks × Chunks l.a l.size (l.from + l.looks) l.s l.free

abbrev pub invariant-words : goal.invariant-words
invariant-words l = Passed l.from l.to l.a l.size l.looks

abbrev pub decreases-loop-free : goal.decreases-loop-free
decreases-loop-free l = l.size - l.s

abbrev pub decreases-words : goal.decreases-words
decreases-words l = l.to - (l.from + l.looks)
