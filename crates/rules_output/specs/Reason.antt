-- Request U11, "The reason an object is kept": the chain from a root to an object, by search. A chain is the
-- number of a root and the numbers of cells, each within its owner. The search is over any roots and any
-- `out`, as the walk (Walk.antt), which finds the same chain in one pass (proved as `WalkFindsChain`,
-- theory_walks/specs/Reason.antt).
use Rattle.std.specs.Prelude.{ℕ, zero, suc, true, false, List, [], ◌∷◌, length, get_or, eqb}
use Rattle.std.proofs.Math.Option.{Option, none, some}
use Rattle.rules.specs.Heap.{Memory}
use Rattle.rules_output.specs.Walk.{followed}

-- the lowest j below n at which f gives a list, in front of that list
unfoldable pub lowest_of : (ℕ → Option (List ℕ)) → (n : ℕ) → Option (List ℕ)
lowest_of f zero = none
lowest_of f (suc n) =
    elim (lowest_of f n) [ some c ↦ some c | none ↦ elim (f n) [ some c ↦ some (n ∷ c) | none ↦ none ] ]

-- what f gives at the first number below n at which it gives something
unfoldable pub first_of : (ℕ → Option (List ℕ)) → (n : ℕ) → Option (List ℕ)
first_of f zero = none
first_of f (suc n) = elim (first_of f n) [ some c ↦ some c | none ↦ f n ]

-- the cells of the lowest chain of k links from the object that v names to that which t names
unfoldable pub cells_to : (k : ℕ) → (out : ℕ → List ℕ) → (v t : ℕ) → Option (List ℕ)
cells_to zero out v t = elim (eqb v t) [ true ↦ some [] | false ↦ none ]
cells_to (suc k) out v t = lowest_of (λ j. cells_to k out (get_or (out v) j 0) t) (length (out v))

-- "the lowest root, then the lowest cell at the first difference": the lowest chain of k links to the object
-- that t names
unfoldable pub chain_of : (k : ℕ) → (roots : List ℕ) → (out : ℕ → List ℕ) → (t : ℕ) → Option (List ℕ)
chain_of k roots out t = lowest_of (λ r. cells_to k out (get_or roots r 0) t) (length roots)

-- "The chain has the fewest links; among those .." the lowest: of at most n - 1 links
unfoldable pub best_chain : (n : ℕ) → (roots : List ℕ) → (out : ℕ → List ℕ) → (t : ℕ) → Option (List ℕ)
best_chain n roots out t = first_of (λ k. chain_of k roots out t) n

-- The chain to the object at block `at`. There are at most N objects, so N - 1 links are enough (proved with
-- `NoneExactly`).
unfoldable pub chain_to : ℕ → Memory → (at : ℕ) → Option (List ℕ)
chain_to N h at = best_chain N h.roots (followed N h) (suc at)

-- why an object is kept: a root, and the cells followed from there; or no root leads to it
pub data Reason : Type 0 where
  kept_by : (r : ℕ) (cells : List ℕ) → Reason
  no_chain : Reason

-- a chain begins with a root: the second clause is never met
unfoldable pub reason_from : Option (List ℕ) → Reason
reason_from none = no_chain
reason_from (some []) = no_chain
reason_from (some (r ∷ cells)) = kept_by r cells

abbrev pub reason_of : ℕ → Memory → (at : ℕ) → Reason
reason_of N h at = reason_from (chain_to N h at)
