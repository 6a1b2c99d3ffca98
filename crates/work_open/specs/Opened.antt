-- What an opening leaves of the mark map and the second list, whatever heap they belong to: for contracts of
-- inner functions.
use Rattle.std.specs.Prelude.{ℕ, ◌≡◌, Bool, List, []}
use Rattle.rules.specs.Heap.{lent_memory}
use Rattle.rules_steps.specs.Steps.{map_of, list_of, root_names}
use Rattle.rules_calls.specs.Calls.{reply}
use Rattle.types.specs.declared.Reply.{Reply}

-- one of these roots names the object at block i
abbrev pub root_names_in : (roots : List ℕ) → ℕ → Bool
root_names_in roots = root_names (lent_memory [] [] [] [] roots [] [] [] [] [])

-- `old` is the map that the bits were written into
pub record Opened (N : ℕ) (roots old : List ℕ) (told : Reply) (marks list : List ℕ) : Type 0 where
  pub told_is : told ≡ reply 0 0 0
  pub marks_are : marks ≡ map_of old (root_names_in roots) N
  pub list_is : list ≡ list_of N (root_names_in roots)
