-- `search_chunk::walk_bytes` meets its contract. The bytes' loop: the walk has come to a byte's first block. The two loops inside: it has come to
-- block i of that byte, where a chunk starts. The measures are what is left of the part and of the byte.
use mathlib.Core.Path.{◌≡◌}
use Prim.Native.Nat.{◌≤◌, ◌-◌, ◌+◌, ◌%◌}
use Rattle.search_walk.proofs.Walk.{Walked}
use Rattle.search_chunk.proofs.walk_bytes.Given as goal

abbrev pub invariant-loop-i : goal.invariant-loop-i
invariant-loop-i l =
    (l.initial.i ≤ l.i) × (l.i ≤ 8) × (l.looks + l.initial.i ≡ l.initial.looks + l.i) × (l.i % l.size ≡ 0) × Walked l.from l.to l.a l.size l.looks l.stretch (l.from + l.looks + 1)

abbrev pub invariant-stretches : goal.invariant-stretches
invariant-stretches l =
    (l.i ≤ 8) × (l.looks ≡ l.initial.looks + l.i) × (l.i % l.size ≡ 0) × Walked l.from l.to l.a l.size l.looks l.stretch (l.from + l.looks + 1)

abbrev pub invariant-bytes : goal.invariant-bytes
invariant-bytes l =
    ((l.from + l.looks) % 8 ≡ 0) × Walked l.from l.to l.a l.size l.looks l.stretch (l.from + l.looks + 1)

abbrev pub decreases-loop-i : goal.decreases-loop-i
decreases-loop-i l = 8 - l.i

abbrev pub decreases-stretches : goal.decreases-stretches
decreases-stretches l = 8 - l.i

abbrev pub decreases-bytes : goal.decreases-bytes
decreases-bytes l = l.to - (l.from + l.looks)
