-- How a case is written: calls on a heap of 8 blocks with the replies they are to get.
use Rattle.std.specs.Prelude.{ℕ, List, [], ◌∷◌, map, get_or}
use Rattle.rules.specs.Heap.{Memory, with_a, with_b}
use Rattle.rules_stores.specs.Store.{formatted}
use Rattle.rules_calls.specs.Calls.{Call, reply, run, last_memory}
use Rattle.types.specs.declared.Reply.{Reply}

-- calls on a heap of 8 blocks, each with the reply it is to get, and the bytes of the A-map and the B-map after the last
pub record Case : Type 0 where
  pub width : ℕ
  pub before : Memory
  pub a : ℕ
  pub b : ℕ
  pub steps : List (Call × Reply)

abbrev pub case : ℕ → Memory → ℕ → ℕ → List (Call × Reply) → Case
case width before a b steps = record { width = width; before = before; a = a; b = b; steps = steps }

unfoldable pub fresh : (w : ℕ) → Memory
fresh w = formatted 8 w 4

-- "Otherwise fresh": only the bytes of the two maps differ
unfoldable pub fresh_but : (a b : ℕ) → Memory
fresh_but a b = with_a (a ∷ []) (with_b (b ∷ []) (fresh 2))

abbrev pub gives : ℕ → Reply
gives value = reply 0 value 0

-- request U5: the value, and an object became stuck
abbrev pub sticking : ℕ → Reply
sticking value = reply 0 value 1

abbrev pub shows : ℕ → ℕ → Reply
shows size count = reply 0 size count

abbrev pub refuses : ℕ → Reply
refuses number = reply number 0 0

abbrev pub damaged : ℕ → Reply
damaged kind = reply 2 kind 0

-- what the rules give for a case: the replies and the two bytes
unfoldable pub given : Case → List Reply × ℕ × ℕ
given c =
    let answers = run 8 c.width c.before (map (λ s. s.0) c.steps) in
    let h = last_memory c.before answers in
    (map (λ x. x.0) answers, get_or h.a 0 0, get_or h.b 0 0)

-- what the case says
unfoldable pub expected : Case → List Reply × ℕ × ℕ
expected c = (map (λ s. s.1) c.steps, c.a, c.b)
