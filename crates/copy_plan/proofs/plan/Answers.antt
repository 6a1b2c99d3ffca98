-- `plan` meets its contract: the front of a map of zeros is the map of a heap with nothing in it.
use mathlib.Core.Path.{◌≡◌, refl, sym, ap, ◌∙◌}
use mathlib.Core.List.{List, ◌∷◌}
use Prim.Native.Nat.{ℕ, zero, suc, ◌/◌, ◌≤◌}
use native.Mathlib.Omega.{arith}
use lib.ListN.{length, take, replicate, length-replicate}
use Rattle.rules.specs.Heap.{max_blocks}
use Rattle.rules.proofs.Shape.{blocks_le}
use Rattle.copy_plan.proofs.plan.Goals.{Start}
use Rattle.copy_plan.proofs.plan.Goals as goal

zeros-front : (m n : ℕ) → m ≤ n → take {A = ℕ} m (replicate n 0) ≡ replicate m 0
zeros-front zero n l = refl
zeros-front (suc m) zero l = absurd (omega arith)
zeros-front (suc m) (suc n) l = ap (λ (l : List ℕ). 0 ∷ l) (zeros-front m n (omega arith))

-- the map has room for the largest heap
room : (c : Start) → c.args.blocks2 / 8 ≤ max_blocks / 8
room c = omega (arith, blocks_le c.args.blocks2 c.requires.2)

pub slice_bounds-map-end : goal.slice_bounds-map-end
slice_bounds-map-end c = room (goal.at.slice_bounds-map-end c).Start

pub slice_bounds-lay_each-end : goal.slice_bounds-lay_each-end
slice_bounds-lay_each-end c =
    sym (ap length (zeros-front (c.args.blocks2 / 8) (max_blocks / 8) (room (goal.at.slice_bounds-lay_each-end c).Start)) ∙ length-replicate (c.args.blocks2 / 8) 0)

pub lay_each-requires : goal.lay_each-requires
lay_each-requires c =
    (c.requires.0, c.requires.1, c.requires.2, zeros-front (c.args.blocks2 / 8) (max_blocks / 8) (room (goal.at.lay_each-requires c).Start))
