-- The statements of specs/ that speak of heaps alone, proved.
use mathlib.Core.Path.{◌≡◌, sym, ◌∙◌}
use mathlib.Core.List.{List}
use mathlib.Core.Logic.{◌↔◌}
use Prim.Native.Nat.{ℕ, ◌+◌, ◌<◌}
use native.Mathlib.Decide.{ℕ_discrete}
use native.Mathlib.Omega.{arith}
use lib.ListN.{get_or}
use lib.Pow.{pow_mono}
use Rattle.bitmap.specs.Bit.{bit_at}
use Rattle.rules.specs.Heap.{Memory, exponent}
use Rattle.rules_stores.specs.Store.{let_go, put_root, put_cell, change_root, change_cell, placed, allocate_in}
use Rattle.rules_steps.specs.Steps.{Progress, progress_of, steps_from, unmarked_freed}
use Rattle.rules.proofs.Shape.{shape_facts}
use Rattle.rules.proofs.Chunks.{exponent_covers, exponent_least}
use Rattle.theory_memories.specs.Heaps.{Intact, LeastPower, NStepsSuffice, ReachedIsLed, ObjectsAreEnds, EndsOnLast}
use Rattle.theory_memories.specs.Words.{Object}
use Rattle.theory_memories.specs.Orders.{OrderUnseen, CloseOrderUnseen}
use Rattle.theory_memories.specs.Cells.{DataNeverFollowed, DataNamesNothing}
use Rattle.theory_memories.proofs.Maps.Extents.{Represents, sizes_of, inner, represents_delimited}
use Rattle.theory_memories.proofs.Maps.LowestChunk.{room}
use Rattle.theory_memories.proofs.Maps.Parse.{parse}
use Rattle.theory_memories.proofs.Maps.Totals.{objects_ends}
use Rattle.theory_memories.proofs.Maps.Undamaged.{kinds_delimited}
use Rattle.theory_memories.proofs.Memories.Healthy.{Healthy, healthy_facts}
use Rattle.theory_memories.proofs.Memories.Fit.{undamaged_fit}
use Rattle.theory_memories.proofs.Memories.Naming.{data_names}
use Rattle.theory_memories.proofs.Memories.Fuel.{steps_suffice}
use Rattle.theory_memories.proofs.Memories.Orders.{one_end}
use Rattle.theory_memories.proofs.Memories.ViewClose as close
use Rattle.theory_memories.proofs.Memories.Scanning.{steps_from_open, list_empty}
use Rattle.theory_memories.proofs.Memories.Stores.{store_root_lem, store_cell_lem, allocate_root}
use Rattle.theory_memories.proofs.Memories.Rounds.{reached_led, led_reached}
use Rattle.theory_memories.proofs.Memories.Leads.{object_size, size_object}
use Rattle.theory_memories.proofs.Memories.Cells.{cells_read}

intact_healthy : (N w : ℕ) (h : Memory) → Intact N w h → Healthy N w h
intact_healthy N w h u = healthy_facts N w h u.right_shape u.no_damage

pub least_power : LeastPower
least_power n = (exponent_covers n, λ k l. pow_mono {i = exponent n} {j = k} (exponent_least n k l))

pub reached_is_led : ReachedIsLed
reached_is_led N h b = (reached_led N h b, led_reached N h b)

pub n_steps_suffice : NStepsSuffice
unfolding change_root change_cell allocate_in placed put_root put_cell let_go
n_steps_suffice N w h u steps enough =
    let fine = intact_healthy N w h u in
    record {
      in_root = λ r v l ref. steps_suffice N w steps _ _ (store_root_lem N w h fine v ref r l).releasing enough;
      in_cell = λ a j v first l ordinary ref.
          steps_suffice N w steps _ _ (store_cell_lem N w h fine v ref a j first l ordinary).releasing enough;
      new = λ asData n r i some_blocks l found.
          steps_suffice N w steps _ _
          (allocate_root N w h fine n i (omega arith) (room N h.a n i found) asData r l).releasing enough;
    }

-- request U7
pub order_unseen : OrderUnseen
unfolding change_root change_cell allocate_in placed put_root put_cell let_go
order_unseen N w h u =
    let fine = intact_healthy N w h u in
    record {
      in_root = λ r v l ref. one_end N w _ _ (store_root_lem N w h fine v ref r l).releasing;
      in_cell = λ a j v first l ordinary ref. one_end N w _ _ (store_cell_lem N w h fine v ref a j first l ordinary).releasing;
      new = λ asData n r i some_blocks l found.
          one_end N w _ _ (allocate_root N w h fine n i (omega arith) (room N h.a n i found) asData r l).releasing;
    }

pub close_order_unseen : CloseOrderUnseen
unfolding unmarked_freed
close_order_unseen N w h u was_open budget e =
    let fit = undamaged_fit N w h u in
    let reached : Progress = (steps_from budget N h (progress_of N h)).reached in
    let steps = steps_from_open N w h fit.healthy was_open fit.tidy budget in
    let tidy = list_empty N w h fit.healthy was_open fit.tidy budget reached steps.tidy e in
    let ready = close.releasing N w h fit.healthy reached.marks tidy in
    record { order = one_end N w _ _ ready; enough = λ steps more. steps_suffice N w steps _ _ ready more }

pub objects_are_ends : ObjectsAreEnds
objects_are_ends N w h fits one two =
    let shape = shape_facts N w h fits in
    objects_ends N h.a h.b (sizes_of N h.a h.b)
    (parse N h.a h.b (omega (arith, shape.length_a, shape.whole_bytes)) (omega (arith, shape.length_b, shape.whole_bytes))
    (kinds_delimited N w h one two))

-- the maps' own sizes
ends_represent :
    (N : ℕ) (h : Memory) (sizes : List ℕ) → Represents N h.a h.b sizes → (i : ℕ) → i < N
    → (bit_at h.b i ≡ 0) ↔ ((b : ℕ) × (n : ℕ) × Object N h b n × (i + 1 ≡ b + n))
ends_represent N h sizes represents i l = (object, λ o. last o.0 o.1 o.2 o.3)
  where
    last : (b n : ℕ) → Object N h b n → i + 1 ≡ b + n → bit_at h.b i ≡ 0
    last b n there e =
        let same = object_size N h sizes represents b n there in
        represents.last b i (λ z. same.1 (sym same.0 ∙ z)) (omega (arith, same.0))

    object : bit_at h.b i ≡ 0 → (b : ℕ) × (n : ℕ) × Object N h b n × (i + 1 ≡ b + n)
    object e =
        let o = represents.owner i ((represents_delimited N h.a h.b sizes represents).end_used i l e) in
        let n : ℕ = get_or sizes o.0 0 in
        elim (ℕ_discrete (i + 1) (o.0 + n)) [
          | yes q ↦ (o.0, n, size_object N h sizes represents o.0 (omega (arith, o.1, o.2)), q)
          | no q ↦ absurd (omega (arith, inner N h.a h.b sizes represents o.0 i o.1 (omega (arith, o.2))))
        ]

pub ends_on_last : EndsOnLast
ends_on_last N w h u i l = ends_represent N h (sizes_of N h.a h.b) (intact_healthy N w h u).represents i l

-- request U6
pub data_never_followed : DataNeverFollowed
data_never_followed N w h u = cells_read N w h (intact_healthy N w h u)

pub data_names_nothing : DataNamesNothing
data_names_nothing N w h u b n object made i = data_names N h (intact_healthy N w h u).represents b object.first made i
