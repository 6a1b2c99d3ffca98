-- When a count comes to the capacity: only by a store that changes a slot, and then that many slots name the object once the new value is
-- written. The end of a store or of an allocation only lowers counts.
use mathlib.Core.Path.{◌≡◌, sym, ◌∙◌}
use mathlib.Core.Logic.{◌≢◌, ◌↔◌, inl, inr}
use mathlib.Core.List.{[]}
use Prim.Native.Nat.{ℕ, suc, ◌≤◌, ◌<◌, min}
use native.Mathlib.Omega.{arith}
use lib.ListN.{length, set}
use lib.Seq.{get_or-set_other}
use Rattle.theory_graphs.proofs.Graphs.Occurrences.{equals_cases, equals_none, equals_other, occurrences, occurrences_set, nonzero_inside}
use Rattle.theory_graphs.proofs.Graphs.Graph.{Graph, size, count, slot, raise, finish, store, place, allocate, count_up_same, count_up_other}
use Rattle.theory_graphs.proofs.Graphs.Balance.{Balanced, Waits, all_counted}
use Rattle.theory_graphs.proofs.Graphs.Keep.{count_down_stuck}
use Rattle.theory_graphs.proofs.Graphs.Order.{runs_leave, count_down_le}
use Rattle.theory_graphs.proofs.Graphs.Calls.{Shape, Whole, Place, Vacant, finish_ends, raised_balanced, raised_waits, raised_shape}
use Rattle.theory_graphs.proofs.Graphs.Calls.{placed_balanced, placed_waits, placed_shape}

-- the end of a store: what is at the capacity stays there, and nothing else comes to it
pub finish_stuck :
    (cap : ℕ) (pos : 0 < cap) (r : ℕ) (k : Graph) (i v : ℕ) → Balanced cap k v → Waits k [] → Shape r k → Place r k i → (b : ℕ)
    → (count k b ≡ cap) ↔ (count (finish cap r k i v) b ≡ cap)
finish_stuck cap pos r k i v held waits shape slot-i b =
    let leaves = runs_leave cap r (λ j. ⊥) pos (finish_ends cap pos r k i v held waits shape slot-i).runs in (
      λ e. leaves.stuck b (count_down_stuck cap pos k.counts (slot k i) b e),
      λ e. omega (arith, leaves.lowered b, count_down_le cap k.counts (slot k i) b, (held b).bounded),
    )

finish_lowers :
    (cap : ℕ) (pos : 0 < cap) (r : ℕ) (k : Graph) (i v : ℕ) → Balanced cap k v → Waits k [] → Shape r k → Place r k i → (b : ℕ)
    → count (finish cap r k i v) b ≤ count k b
finish_lowers cap pos r k i v held waits shape slot-i b =
    omega (
      arith,
      (runs_leave cap r (λ j. ⊥) pos (finish_ends cap pos r k i v held waits shape slot-i).runs).lowered b,
      count_down_le cap k.counts (slot k i) b,
    )

module _ (cap : ℕ) (pos : 0 < cap) (r : ℕ) (h : Graph) (whole : Whole cap r h) where
  pub stuck_by_store :
      (i v b : ℕ) → Place r h i → i < length h.slots → ((a : ℕ) → v ≡ suc a → size h a ≢ 0) → slot h i ≢ v → count h b < cap
      → count (store cap r h i v) b ≡ cap → (v ≡ suc b) × (cap ≤ occurrences (suc b) (set h.slots i v))
  unfolding store
  stuck_by_store i v b slot-i inside named new low top =
      let down =
      finish_lowers cap pos r (raise cap h v) i v (raised_balanced cap pos r h whole i v slot-i named)
      (raised_waits cap pos r h whole i v slot-i named) (raised_shape cap pos r h whole i v slot-i named) slot-i b in
      elim (equals_cases v (suc b)) [
        | inl c ↦
            let object = all_counted h whole.waits b (named b c.0) in
            let up : count (raise cap h v) b ≡ min cap (suc (count h b)) =
            rw c.0 (count_up_same cap h.counts b (nonzero_inside h.counts b object)) in (
              c.0,
              omega (
                arith,
                (whole.balanced b).exact low,
                equals_none b,
                occurrences_set (suc b) h.slots i v inside,
                c.1,
                equals_other (slot h i) (suc b) (λ e. new (e ∙ sym c.0)),
              ),
            )
        | inr c ↦ absurd (omega (arith, count_up_other cap h.counts v b c.0))
      ]

  pub allocate_lowers :
      (a n i : ℕ) → Vacant h a n → i < r → (b : ℕ) → b ≢ a → count (allocate cap r h a n i) b ≤ count h b
  unfolding allocate
  allocate_lowers a n i vacant root b other =
      omega (
        arith,
        finish_lowers cap pos r (place h a n) i (suc a) (placed_balanced cap pos r h whole a n i vacant root)
            (placed_waits cap pos r h whole a n i vacant root) (placed_shape cap pos r h whole a n i vacant root) (inl root) b,
        get_or-set_other h.counts a b 1 0 other,
      )
