-- Number 13 (request U8): the rules' tests, each over the lists that it reads.
use Rattle.std.specs.Prelude.{ℕ, ◌+◌, ◌-◌, ◌*◌, ◌≤◌, ◌<◌, ◌≡◌, ◌⊎◌, Bool, true, false, not, ◌&&◌, List, [], eqb, get_or}
use Rattle.bitmap.specs.Bit.{bit_of}
use Rattle.rules.specs.Tools.{some_below}
use Rattle.rules.specs.Heap.{first_in, lent_memory}
use Rattle.rules_steps.specs.Steps.{bad_next, bad_place, stray_mark, root_missed}
use Rattle.step_list.specs.Lists.{is_set, listed_in, Shows}
use Rattle.step_list.specs.Naming.{cell_names}

abbrev pub bad_next_in : (list : List ℕ) → ℕ → Bool
bad_next_in list = bad_next (lent_memory [] [] [] [] [] [] [] [] [] list)

abbrev pub bad_place_in : ℕ → (a b marks list : List ℕ) → ℕ → Bool
bad_place_in N a b marks list = bad_place N (lent_memory a b [] [] [] [] [] [] marks list)

abbrev pub stray_mark_in : ℕ → (a b marks : List ℕ) → ℕ → Bool
stray_mark_in N a b marks = stray_mark N (lent_memory a b [] [] [] [] [] [] marks [])

abbrev pub root_missed_in : (roots marks : List ℕ) → ℕ → Bool
root_missed_in roots marks = root_missed (lent_memory [] [] [] [] roots [] [] [] marks [])

-- "some .. marked unlisted object names an unmarked one", its kind being looked at once: the last part
unfoldable pub missed_at : ℕ → (b d cells marks : List ℕ) → ℕ → Bool
missed_at N b d cells marks x = some_below (λ i. cell_names N b d cells x i && not (is_set marks i)) N

unfoldable pub cell_missed_in : ℕ → (a b d cells marks list : List ℕ) → ℕ → Bool
cell_missed_in N a b d cells marks list x =
    first_in N a b x && is_set marks x && not (listed_in N list x) && missed_at N b d cells marks x

-- the same where each mark stands on a first block, with what is listed in a map
unfoldable pub missed_apart : ℕ → (b d cells marks map : List ℕ) → ℕ → Bool
missed_apart N b d cells marks map x = (is_set marks x && not (is_set map x)) && missed_at N b d cells marks x

-- block s of byte k is one of `these`, and what starts there names an unmarked one
unfoldable pub missed_of : (these k N : ℕ) → (b d cells marks : List ℕ) → ℕ → Bool
missed_of these k N b d cells marks s = not (eqb (bit_of these s) 0) && missed_at N b d cells marks (8 * k + s)

-- ---- for contracts

-- The list was read into the map, or not, where it is not strictly rising, then 0, or names what is no block.
pub record Read (N : ℕ) (list map : List ℕ) (r : Bool) : Type 0 where
  pub rises : r ≡ true → (k : ℕ) → k < N - 1 → bad_next_in list k ≡ false
  pub low : r ≡ true → (k : ℕ) → k < N → get_or list k 0 ≤ N
  pub shown : r ≡ true → Shows N (listed_in N list) map
  pub refused : r ≡ false → (some_below (bad_next_in list) (N - 1) ≡ true) ⊎ ((k : ℕ) × (k < N) × (N < get_or list k 0))
