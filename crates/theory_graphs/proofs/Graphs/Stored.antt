-- A slot is written and what it named is let go, for request U8: what is left was there, and what leads to an
-- object that the old one does not lead to is not freed.
use mathlib.Core.Path.{◌≡◌, sym, ◌∙◌}
use mathlib.Core.Logic.{◌≢◌, inl, inr}
use mathlib.Core.List.{List, []}
use Prim.Native.Nat.{ℕ, suc, ◌<◌}
use native.Mathlib.Omega.{arith}
use lib.ListN.{get_or, set}
use Rattle.theory_graphs.proofs.Graphs.Graph.{Graph, size, count, slot, swap, finish, count_down_other}
use Rattle.theory_graphs.proofs.Graphs.Balance.{Balanced, Waits, all_counted}
use Rattle.theory_graphs.proofs.Graphs.Order.{Leaves, runs_leave}
use Rattle.theory_graphs.proofs.Graphs.Calls.{Shape, Place, swap_balanced, swap_shape, finish_ends}
use Rattle.theory_graphs.proofs.Graphs.Apart.{To, self, link, to_kept}

-- what leads to b is an object, where b is one
pub to_sized : {r : ℕ} {sizes slots : List ℕ} {b c : ℕ} → get_or sizes b 0 ≢ 0 → To r sizes slots b c → get_or sizes c 0 ≢ 0
to_sized some self = some
to_sized some (link a s own e rest) = omega (arith, own)

module _ (cap : ℕ) (pos : 0 < cap) (r : ℕ) (h : Graph) (i v : ℕ) (held : Balanced cap h v) (waits : Waits h []) (shape : Shape r h)
    (slot-i : Place r h i) where
  leaves : Leaves cap r (swap cap h i v) (finish cap r h i v)
  leaves = runs_leave cap r (λ j. ⊥) pos (finish_ends cap pos r h i v held waits shape slot-i).runs

  pub finish_stands : (x : ℕ) → size (finish cap r h i v) x ≢ 0 → size (finish cap r h i v) x ≡ size h x
  finish_stands x n = elim (leaves.objects x) [ inl e ↦ e | inr e ↦ absurd (n e.0) ]

  pub finish_left : (s b : ℕ) → slot (finish cap r h i v) s ≡ suc b → get_or (set h.slots i v) s 0 ≡ suc b
  finish_left s b e = elim (leaves.references s) [ inl q ↦ sym q ∙ e | inr q ↦ absurd (omega (arith, q, e)) ]

  pub finish_to_kept :
      (b : ℕ) → size h b ≢ 0 → ((c : ℕ) → slot h i ≡ suc c → ¬ (To r h.sizes (set h.slots i v) b c))
      → (c : ℕ) → To r h.sizes (set h.slots i v) b c → size (finish cap r h i v) c ≡ size h c
  finish_to_kept b some apart c to =
      to_kept cap pos r (swap cap h i v) (finish cap r h i v) b (finish_ends cap pos r h i v held waits shape slot-i).runs
      (swap_balanced cap pos r h i v held waits shape slot-i) shape.disjoint (swap_shape cap pos r h i v held waits shape slot-i).owned
      counted c to
    where
      counted : (c : ℕ) → To r h.sizes (set h.slots i v) b c → count (swap cap h i v) c ≢ 0
      counted c to z =
          all_counted h waits c (to_sized some to)
          (sym (count_down_other cap h.counts (slot h i) c (λ e. apart c e to)) ∙ z)
