use mathlib.Core.Path.{◌≡◌, refl, sym, ◌∙◌}
use mathlib.Core.Logic.{◌⊎◌, inl, inr}
use Prim.Native.Nat.{ℕ, ◌≤◌, ◌+◌, ◌/◌}
use native.Mathlib.Nat.{add-mod_right}
use native.Mathlib.Omega.{arith}
use lib.ListN.{get_or}
use Rattle.search_walk.proofs.Parts.{part_of}
use Rattle.search_walk.proofs.Walk.{Walked, walked_start, walked_none, judged_true, judged_free_lem, judged_used, ChunkAt, chunk_at, free_byte, used_byte, free_chunk, used_chunk}
use Rattle.search_chunk.proofs.walk_bytes.Goals.{Else-i-eq8, Joined-else-size-lt8, else-size-lt8-via-then-size-lt8+else-byte, else-size-lt8-via-else-size-lt8}
use Rattle.search_chunk.proofs.walk_bytes.Goals as goal

pub bytes-init : goal.bytes-init
bytes-init c = (omega (arith, c.requires.part.from_byte), walked_start _ _ _ _ c.requires.part)

-- ---- chunks of less than eight blocks

chunk : (c : Else-i-eq8) → ChunkAt c.args.from c.args.to c.args.size c.loop-i.looks (c.args.from + c.bytes.looks) c.loop-i.i
chunk c =
    chunk_at _ _ _ _ _ _ c.requires.part c.bytes.invariant.1 c.bytes.invariant.0 c.if-from-looks.false c.if-size-lt8.true
    c.loop-i.looks c.loop-i.i (omega arith) c.loop-i.invariant.3 (omega arith)

-- where it is free, the stretch is longer by a chunk
longer : (c : Else-i-eq8) → part_of (get_or c.args.a.now ((c.args.from + c.bytes.looks) / 8) 0) c.loop-i.i c.args.size ≡ 0
    → Walked c.args.from c.args.to c.args.a.now c.args.size (c.loop-i.looks + c.args.size) (c.loop-i.stretch + c.args.size)
    (c.args.from + (c.loop-i.looks + c.args.size))
longer c zero = free_chunk _ _ _ _ _ _ _ _ c.loop-i.invariant.4 (chunk c) zero

pub stretches-preserved : goal.stretches-preserved
stretches-preserved c =
    let here = chunk (goal.at.stretches-preserved c).Else-i-eq8 in (
      here.within,
      omega arith,
      add-mod_right c.loop-i.i c.args.size ∙ c.loop-i.invariant.3,
      used_chunk _ _ _ _ _ _ _ _ c.loop-i.invariant.4 here c.if-chunk-ne0.true,
    )

pub loop-i-preserved : goal.loop-i-preserved
loop-i-preserved c = (
  omega arith,
  (chunk (goal.at.loop-i-preserved c).Else-i-eq8).within,
  omega arith,
  add-mod_right c.loop-i.i c.args.size ∙ c.loop-i.invariant.3,
  judged_used _ _ _ _ _ _ (longer (goal.at.loop-i-preserved c).Else-i-eq8 c.if-chunk-ne0.false) (sym c.is_judged_free.ensures ∙ c.if-is_judged_free.false),
)

pub returns-then-is_judged_free : goal.returns-then-is_judged_free
returns-then-is_judged_free c =
    judged_free_lem _ _ _ _ _ _ (longer (goal.at.returns-then-is_judged_free c).Else-i-eq8 c.if-chunk-ne0.false) c.requires.part
    (sym c.is_judged_free.ensures ∙ c.if-is_judged_free.true)

-- ---- eight blocks at once

whole : (c : Joined-else-size-lt8) → (8 ≤ c.args.size) ⊎ (get_or c.args.a.now ((c.args.from + c.bytes.looks) / 8) 0 ≡ 255)
whole c = elim c.else-size-lt8.branch [
  | else-size-lt8-via-then-size-lt8+else-byte w ↦ inr w.if-byte.false
  | else-size-lt8-via-else-size-lt8 w ↦ inl w.if-size-lt8.false
]

pub bytes-preserved-then-byte-ne0 : goal.bytes-preserved-then-byte-ne0
bytes-preserved-then-byte-ne0 c =
    let at : ℕ = (c.args.from + c.bytes.looks) / 8 in (
      omega (arith, c.bytes.invariant.0),
      used_byte _ _ _ _ _ _ c.requires.part c.bytes.invariant.1 c.bytes.invariant.0 c.if-from-looks.false
          (get_or c.args.a.now at 0) refl (c.type_inv.a at).fits c.if-byte-ne0.true
          (whole (goal.at.bytes-preserved-then-byte-ne0 c).Joined-else-size-lt8),
    )

-- where all are free, the stretch is longer by eight
eight : (c : Joined-else-size-lt8) → get_or c.args.a.now ((c.args.from + c.bytes.looks) / 8) 0 ≡ 0
    → Walked c.args.from c.args.to c.args.a.now c.args.size (c.bytes.looks + 8) (c.bytes.stretch + 8)
    (c.args.from + (c.bytes.looks + 8))
eight c zero =
    let large : 8 ≤ c.args.size = elim (whole c) [ inl l ↦ l | inr full ↦ absurd (omega arith) ] in
    free_byte _ _ _ _ _ _ c.requires.part c.bytes.invariant.1 c.bytes.invariant.0 c.if-from-looks.false large zero

pub overflow_sub-at-then-is_judged_free-2 : goal.overflow_sub-at-then-is_judged_free-2
overflow_sub-at-then-is_judged_free-2 c =
    let judged = judged_true _ _ _ (sym c.is_judged_free-in-bytes.ensures ∙ c.if-is_judged_free-2.true) in
    omega (arith, (eight (goal.at.overflow_sub-at-then-is_judged_free-2 c).Joined-else-size-lt8 c.if-byte-ne0.false).within, judged.0)

pub bytes-preserved : goal.bytes-preserved
bytes-preserved c = (
  omega (arith, c.bytes.invariant.0),
  judged_used _ _ _ _ _ _ (eight (goal.at.bytes-preserved c).Joined-else-size-lt8 c.if-byte-ne0.false) (sym c.is_judged_free-in-bytes.ensures ∙ c.if-is_judged_free-2.false),
)

pub returns-then-is_judged_free-2 : goal.returns-then-is_judged_free-2
returns-then-is_judged_free-2 c =
    judged_free_lem _ _ _ _ _ _ (eight (goal.at.returns-then-is_judged_free-2 c).Joined-else-size-lt8 c.if-byte-ne0.false) c.requires.part
    (sym c.is_judged_free-in-bytes.ensures ∙ c.if-is_judged_free-2.true)

pub returns-then-from-looks : goal.returns-then-from-looks
returns-then-from-looks c = walked_none _ _ _ _ _ _ c.bytes.invariant.1 c.requires.part c.if-from-looks.true
