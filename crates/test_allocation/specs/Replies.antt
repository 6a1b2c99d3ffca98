-- The reply of an allocation as it depends on the arguments and on the heap before the call alone, once numbers 1, 2 and 11 are passed: for
-- contracts of inner functions. It is a part of the rules' `answer`.
use Rattle.std.specs.Prelude.{ℕ, true, false, ◌&&◌, List, leb, ltb}
use Rattle.std.proofs.Math.Option.{Option, none, some}
use Rattle.rules.specs.Heap.{exponent, lowest_free}
use Rattle.rules_calls.specs.Calls.{reply}
use Rattle.types.specs.declared.Reply.{Reply}

-- the reply to what the search found
unfoldable pub found : Option ℕ → Reply
found none = reply 5 0 0
found (some i) = reply 0 i 0

-- the reply of an allocation but for its second value
unfoldable pub allocate_reply : ℕ → List ℕ → (roots n r : ℕ) → Reply
allocate_reply N a roots n r =
    elim (leb 1 n && leb n N) [
      | true ↦ elim (ltb r roots) [ true ↦ found (lowest_free N (exponent n) a) | false ↦ reply 4 0 0 ]
      | false ↦ reply 3 0 0
    ]
