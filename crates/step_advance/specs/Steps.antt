-- Request U8, the steps of a collection as code takes them, over plain lists. `names x i` says that a cell of
-- the object at block x names block i.
use Rattle.std.specs.Prelude.{ℕ, zero, suc, ◌≤◌, ◌<◌, ◌≡◌, Bool, not, ◌&&◌, ◌||◌, List, eqb, get_or}
use Rattle.std.proofs.Math.Option.{none, some}
use Rattle.rules.specs.Tools.{tabulate}
use Rattle.rules_stores.specs.Collection.{marked}
use Rattle.rules_steps.specs.Steps.{map_of, list_of, Progress, progress, lowest, StepsTaken, taken}
use Rattle.step_list.specs.Lists.{is_set, listed_in}

-- how far a collection has come, as the bits of two maps
unfoldable pub progress_in : ℕ → (marks listed : List ℕ) → Progress
progress_in N marks listed = progress (tabulate N (is_set marks)) (tabulate N (is_set listed))

-- the same as the mark map and the second list hold it
unfoldable pub progress_at : ℕ → (marks list : List ℕ) → Progress
progress_at N marks list = progress (tabulate N (is_set marks)) (tabulate N (listed_in N list))

-- one step, as the rules have it, for what a cell names by any test
unfoldable pub scanned_by : ℕ → (names : ℕ → ℕ → Bool) → Progress → ℕ → Progress
scanned_by N names p x =
    progress
    (tabulate N (λ i. marked p.marks i || names x i))
    (tabulate N (λ i. (marked p.list i && not (eqb i x)) || (names x i && not (marked p.marks i))))

-- the steps of a call
unfoldable pub steps_by : (budget : ℕ) → ℕ → (names : ℕ → ℕ → Bool) → Progress → StepsTaken
steps_by zero N names p = taken 0 p
steps_by (suc k) N names p =
    elim (lowest p.list 0) [
      | none ↦ taken 0 p
      | some x ↦ let t = steps_by k N names (scanned_by N names p x) in taken (suc t.steps) t.reached
    ]

-- ---- for contracts

-- "then 0s": behind a 0 the list has 0s only
pub record Ended (N : ℕ) (list : List ℕ) : Type 0 where
  pub zeros : (k : ℕ) → get_or list k 0 ≡ 0 → (j : ℕ) → k ≤ j → j < N → get_or list j 0 ≡ 0

-- what stands on the list stands among its first n numbers
pub record Holds (N : ℕ) (list : List ℕ) (n : ℕ) : Type 0 where
  pub within : n ≤ N
  pub same : (i : ℕ) → listed_in n list i ≡ listed_in N list i

-- the mark map and the second list of an open collection that has come so far; `old` is the map that the bits
-- were written into
pub record Holding (N : ℕ) (p : Progress) (old marks list : List ℕ) : Type 0 where
  pub marks_are : marks ≡ map_of old (marked p.marks) N
  pub list_is : list ≡ list_of N (marked p.list)

-- What is named was marked, and listed where it was not marked before; nothing else changed.
pub record Shaded (N : ℕ) (named : ℕ → Bool) (marks listed marks' listed' : List ℕ) : Type 0 where
  pub marks_are : (i : ℕ) → i < N → is_set marks' i ≡ (is_set marks i || named i)
  pub listed_are : (i : ℕ) → i < N → is_set listed' i ≡ (is_set listed i || (named i && not (is_set marks i)))

-- The object at x was taken off the list, and what its cells first name was marked and listed.
pub record Stepped (N : ℕ) (named : ℕ → Bool) (x : ℕ) (marks listed marks' listed' : List ℕ) : Type 0 where
  pub marks_are : (i : ℕ) → i < N → is_set marks' i ≡ (is_set marks i || named i)
  pub listed_are : (i : ℕ) → i < N → is_set listed' i ≡ ((is_set listed i && not (eqb i x)) || (named i && not (is_set marks i)))

-- the steps taken, and the maps of the marks and of what is listed then
pub record Went (N : ℕ) (t : StepsTaken) (r : ℕ) (marks listed : List ℕ) : Type 0 where
  pub steps_are : r ≡ t.steps
  pub reached_is : progress_in N marks listed ≡ t.reached
