-- The reason of request U11 as code has it: the links by which an object was first met, the last one first.
use Rattle.std.specs.Prelude.{Option, Some, None, ℕ, suc, ◌-◌, ◌≤◌, ◌<◌, ◌≡◌, true, false, List, reverse, length, get_or, eqb}
use Rattle.std.proofs.Math.Option.{some}
use Rattle.rules.specs.Heap.{Memory}
use Rattle.rules_output.specs.Walk.{number_in, followed, numbered}
use Rattle.rules_output.specs.Reason.{Reason, kept_by, no_chain, reason_from}
use Rattle.rules_output.specs.Sentence.{sentence}
use Rattle.text.specs.Text.{Put}
use Rattle.theory_walks.specs.Trail.{trail, links_to}
use Rattle.walk_objects.specs.Walking.{last_first}

-- the links read from their end; no links are no chain
unfoldable pub reason_in : (links : List ℕ) → Reason
reason_in links = elim (eqb (length links) 0) [ true ↦ no_chain | false ↦ kept_by (get_or links (length links - 1) 0) (last_first links (length links - 1)) ]

-- the reason that the walk finds: `reason_of` of the rules, for a heap without damage (`WalkFindsChain`)
unfoldable pub walked_reason : ℕ → Memory → (at : ℕ) → Reason
walked_reason N h at = reason_from (some (reverse (links_to (trail h.roots (followed N h) N) (number_in (numbered N h) (suc at)))))

-- the sentence written where it fits, with its length
abbrev pub Told : ℕ → Memory → (at : ℕ) → (out left : List ℕ) → Option ℕ → Type 0
Told N h at out left None = (length out < length (sentence (walked_reason N h at) at)) × (left ≡ out)
Told N h at out left (Some n) = (length (sentence (walked_reason N h at) at) ≤ length out) × Put out 0 (sentence (walked_reason N h at) at) left n
