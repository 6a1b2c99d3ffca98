-- The arrays of the walk, and what they hold.
use Rattle.std.specs.Prelude.{ℕ, zero, suc, ◌+◌, ◌*◌, ◌≤◌, ◌<◌, ◌≡◌, List, [], ◌∷◌, ◌++◌, length, get_or}
use Rattle.rules.specs.Heap.{Memory, lent_memory, max_blocks}
use Rattle.rules_output.specs.Walk.{number_in}
use Rattle.theory_walks.specs.Trail.{Entry, entry}
use Rattle.theory_walks.proofs.Walks.Numbers.{Distinct}
use Rattle.theory_walks.proofs.Walks.Steps.{All}
use Rattle.theory_walks.proofs.Walks.Reached.{Named}

-- the first n numbers of a list, the last first
unfoldable pub last_first : List ℕ → ℕ → List ℕ
last_first l zero = []
last_first l (suc n) = get_or l n 0 ∷ last_first l n

-- the lists that the walk reads, the others empty
abbrev pub walked_heap : (a b d cells roots : List ℕ) → Memory
walked_heap a b d cells roots = lent_memory a b [] cells roots [] [] d [] []

-- the n numbers of a list from place j on
unfoldable pub part : List ℕ → (j n : ℕ) → List ℕ
part l j zero = []
part l j (suc n) = part l j n ++ (get_or l (j + n) 0 ∷ [])

-- what the walk asks of the lists that it reads
pub record Walkable (N : ℕ) (a b d cells roots : List ℕ) : Type 0 where
  pub small : N ≤ max_blocks
  pub long_a : N ≤ 8 * length a
  pub long_b : N ≤ 8 * length b
  pub long_d : N ≤ 8 * length d
  pub long_cells : length cells ≡ 4 * N
  pub few_roots : length roots ≤ 64
  pub named : Named N (walked_heap a b d cells roots)

-- the objects met so far have their numbers, and no block is met twice
pub record Walking (N : ℕ) (order numbers : List ℕ) (met : ℕ) : Type 0 where
  pub small : N ≤ max_blocks
  pub long_order : N ≤ length order
  pub long_numbers : N ≤ length numbers
  pub distinct : Distinct (last_first order met)
  pub below : All (λ v. v ≤ N) (last_first order met)
  pub numbers_are : (b : ℕ) → b < N → get_or numbers b 0 ≡ number_in (last_first order met) (suc b)

-- .. and they are those of a list
pub record Walked (N : ℕ) (list order numbers : List ℕ) (met : ℕ) : Type 0 where
  pub is : last_first order met ≡ list
  pub walking : Walking N order numbers met

-- the first n places of the three arrays, the last first
unfoldable pub entries : (order owners vias : List ℕ) → (n : ℕ) → List Entry
entries order owners vias zero = []
entries order owners vias (suc n) = entry (get_or order n 0) (get_or owners n 0) (get_or vias n 0) ∷ entries order owners vias n

-- with the place of each first meeting
pub record Tracing (N : ℕ) (order numbers owners vias : List ℕ) (met : ℕ) : Type 0 where
  pub walking : Walking N order numbers met
  pub long_owners : N ≤ length owners
  pub long_vias : N ≤ length vias

-- .. and these are those of a list
pub record Traced (N : ℕ) (list : List Entry) (order numbers owners vias : List ℕ) (met : ℕ) : Type 0 where
  pub is : entries order owners vias met ≡ list
  pub tracing : Tracing N order numbers owners vias met
