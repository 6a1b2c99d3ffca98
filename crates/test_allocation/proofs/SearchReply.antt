-- Laws of an object's place: what the search found is the reply of an allocation.
use mathlib.Core.Path.{◌≡◌, sym, ap, ◌∙◌}
use mathlib.Core.List.{List}
use Prim.Native.Nat.{ℕ, ◌≤◌, ◌<◌}
use borrow.Author.Tests.{le-leb, lt-ltb}
use Rattle.std.specs.Prelude.{Option as CodeOption, None, Some}
use Rattle.rules.specs.Heap.{exponent, lowest_free}
use Rattle.rules_calls.specs.Calls.{reply}
use Rattle.search_walk.specs.Search.{answered}
use Rattle.search_walk.proofs.Answered.{answered_none, answered_some}
use Rattle.test_allocation.specs.Replies.{found, allocate_reply}

-- of an allocation with nothing else wrong, whose search answered `at`
module _ (a : List ℕ) {N roots n r : ℕ} {at : CodeOption ℕ} (some_blocks : 1 ≤ n) (not-too-many : n ≤ N) (root : r < roots)
    (searched : at ≡ answered (lowest_free N (exponent n) a)) where
  searches : allocate_reply N a roots n r ≡ found (lowest_free N (exponent n) a)
  unfolding allocate_reply
  searches = rw (le-leb 1 n some_blocks, le-leb n N not-too-many, lt-ltb r roots root, allocate_reply)

  pub nothing_found : at ≡ None → reply 5 0 0 ≡ allocate_reply N a roots n r
  unfolding found
  nothing_found e = sym (searches ∙ ap found (answered_none _ (sym e ∙ searched)))

  pub place_found : (i : ℕ) → at ≡ Some i → reply 0 i 0 ≡ allocate_reply N a roots n r
  unfolding found
  place_found i e = sym (searches ∙ ap found (answered_some _ i (sym e ∙ searched)))
