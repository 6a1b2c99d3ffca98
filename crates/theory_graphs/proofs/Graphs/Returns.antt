-- Several roots let go: clearing a root is a run that may let go of that root's slot, so clearing some roots one after another, in whatever
-- order, is a run that lets go of their slots; and a run that lets go of some roots frees nothing that the other roots lead to.
use mathlib.Core.Path.{◌≡◌, ◌∙◌}
use mathlib.Core.Logic.{◌⊎◌, inl, inr}
use mathlib.Core.List.{List, []}
use Prim.Native.Nat.{ℕ, suc, ◌<◌}
use native.Mathlib.Omega.{arith}
use lib.ListN.{length, get_or}
use Rattle.theory_graphs.proofs.Graphs.Stretch.{set_zero}
use Rattle.theory_graphs.proofs.Graphs.Order.{runs_leave}
use Rattle.theory_graphs.proofs.Graphs.Graph.{Graph, size, count, slot, Owns, Disjoint, count_up, count_down_stack, let_go, finish, store}
use Rattle.theory_graphs.proofs.Graphs.Balance.{Balanced, let_go_balanced, let_go_waits}
use Rattle.theory_graphs.proofs.Graphs.Keep.{Runs, done, free_one, let_go_lem, Reach, root, link, one_owner, release_runs, runs_kept}
use Rattle.theory_graphs.proofs.Graphs.Calls.{Whole}

pub runs_append : {cap r : ℕ} {S : ℕ → Type 0} {h k m : Graph} → Runs cap r S h k → Runs cap r S k m → Runs cap r S h m
runs_append done q = q
runs_append (free_one x n z p) q = free_one x n z (runs_append p q)
runs_append (let_go_lem i s p) q = let_go_lem i s (runs_append p q)

-- slot i is cleared
pub clear_runs :
    (cap : ℕ) (pos : 0 < cap) (r : ℕ) (S : ℕ → Type 0) (h : Graph) → Whole cap r h → (i : ℕ) → S i → Runs cap r S h (store cap r h i 0)
unfolding store finish count_up
clear_runs cap pos r S h whole i s =
    let_go_lem i s
    (release_runs cap pos r S (length h.sizes) (let_go cap h i) (count_down_stack cap h.counts (slot h i) [])
    (let_go_balanced cap pos h i whole.balanced) (let_go_waits cap pos h i [] whole.balanced whole.waits))

-- a slot that is 0 stays so
pub stays_clear : {cap r : ℕ} {S : ℕ → Type 0} {h k : Graph} → 0 < cap → Runs cap r S h k → (i : ℕ) → slot h i ≡ 0 → slot k i ≡ 0
stays_clear {cap} {r} {S} pos runs i z = elim ((runs_leave cap r S pos runs).references i) [ inl e ↦ e ∙ z | inr e ↦ e ]

pub clear_slot : (cap : ℕ) (pos : 0 < cap) (r : ℕ) (h : Graph) → Whole cap r h → (i : ℕ) → slot (store cap r h i 0) i ≡ 0
unfolding store finish count_up
clear_slot cap pos r h whole i =
    stays_clear {r = r} {S = λ j. ⊥} {h = let_go cap h i} pos
    (release_runs cap pos r (λ j. ⊥) (length h.sizes) (let_go cap h i) (count_down_stack cap h.counts (slot h i) [])
    (let_go_balanced cap pos h i whole.balanced) (let_go_waits cap pos h i [] whole.balanced whole.waits))
    i (set_zero h.slots i)

-- what the roots that are not let go lead to stays; `slots` are those of h with the roots of S made 0
pub runs_reach_without :
    (cap : ℕ) (pos : 0 < cap) (r : ℕ) (S : ℕ → Type 0) (h k : Graph) (slots : List ℕ) → Runs cap r S h k → Balanced cap h 0
    → Disjoint h.sizes → ((i : ℕ) → S i → i < r) → ((s b : ℕ) → get_or slots s 0 ≡ suc b → (slot h s ≡ suc b) × ¬ S s)
    → (b : ℕ) → Reach r h.sizes slots b → size k b ≡ size h b
runs_reach_without cap pos r S h k slots runs balanced disjoint roots left b reach =
    (runs_kept cap pos r S K P h held apart spare runs balanced).sizes_kept b reach
  where
    K : ℕ → Type 0
    K a = Reach r h.sizes slots a

    P : ℕ → Type 0
    P s = ((s < r) × ¬ S s) ⊎ ((a : ℕ) × K a × Owns r h.sizes a s)

    held : (b : ℕ) → K b → (count h b ≡ cap) ⊎ ((s : ℕ) × P s × (slot h s ≡ suc b))
    held b (root s l e) = inr (s, inl (l, (left s b e).1), (left s b e).0)
    held b (link a s q own e) = inr (s, inr (a, q, own), (left s b e).0)

    apart : (x s : ℕ) → ¬ K x → Owns r h.sizes x s → ¬ P s
    apart x s unreached own (inl (l, n)) = omega (arith, own)
    apart x s unreached own (inr (a, q, other)) = unreached (rw (one_owner r h.sizes a x s disjoint other own) at q)

    spare : (i : ℕ) → S i → ¬ P i
    spare i s (inl (l, n)) = n s
    spare i s (inr (a, q, own)) = omega (arith, own, roots i s)
