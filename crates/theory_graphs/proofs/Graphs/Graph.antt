-- The object graph: the heap without its bit maps, as three lists. `sizes` has the size of an object at its first block and 0 elsewhere,
-- `counts` its count there, and `slots` is one list of everything that can hold a reference: the r roots first, then four cells for each
-- block. A slot holds 0 or the name suc b of the object at block b. One list of slots, so one store serves roots and cells.
-- Here is the machine on such graphs: counting, letting go of a slot, freeing an object, and the release of all that waits. It does step by
-- step what the rules do on the lent buffers. A function whose name ends in `Stack` gives the waiting list that goes with the graph of the
-- function without that ending. Throughout, cap is the capacity of a count and r the number of roots.
use mathlib.Core.Path.{◌≡◌, refl, sym, ap, ◌∙◌}
use mathlib.Core.Logic.{◌≢◌}
use mathlib.Core.Bool.{true, false}
use mathlib.Core.List.{List, [], ◌∷◌}
use Prim.Native.Nat.{ℕ, zero, suc, ◌+◌, ◌-◌, ◌*◌, ◌≤◌, ◌<◌, min}
use native.Mathlib.Decide.{ℕ_discrete}
use native.Mathlib.Omega.{arith}
use lib.ListN.{length, get_or, set, length-set}
use lib.Seq.{get_or-set_same, get_or-set_other}
use lib.Dec.{eqb}
use borrow.Author.Tests.{eq-eqb, ne_eqb}
use Rattle.theory_graphs.proofs.Graphs.Occurrences.{occurrences}
use Rattle.theory_graphs.proofs.Graphs.Stretch.{Inside, clear}

pub record Graph : Type 0 where
  pub sizes : List ℕ
  pub counts : List ℕ
  pub slots : List ℕ

abbrev pub size : Graph → ℕ → ℕ
size h b = get_or h.sizes b 0

abbrev pub count : Graph → ℕ → ℕ
count h b = get_or h.counts b 0

abbrev pub slot : Graph → ℕ → ℕ
slot h s = get_or h.slots s 0

-- the number of all slots that name the object at b
abbrev pub references : Graph → ℕ → ℕ
references h b = occurrences (suc b) h.slots

-- where the slots of the object at x begin, and how many it has
abbrev pub first_slot : ℕ → ℕ → ℕ
first_slot r x = r + 4 * x

abbrev pub slots_of : Graph → ℕ → ℕ
slots_of h x = 4 * size h x

-- slot s is one of the object at x
abbrev pub Owns : ℕ → List ℕ → ℕ → ℕ → Type 0
Owns r sizes x s = Inside (first_slot r x) (4 * get_or sizes x 0) s

-- no two objects share a block
abbrev pub Disjoint : List ℕ → Type 0
Disjoint sizes = (x y : ℕ) → x < y → get_or sizes x 0 ≢ 0 → get_or sizes y 0 ≢ 0 → x + get_or sizes x 0 ≤ y

-- ---- counting

-- a count that goes down; one at capacity is stuck
unfoldable pub lowered : ℕ → ℕ → ℕ
lowered cap c = elim (eqb c cap) [ true ↦ c | false ↦ c - 1 ]

-- the object at b is put on the waiting list where its count goes from 1 to 0
unfoldable pub push_last : ℕ → ℕ → ℕ → List ℕ → List ℕ
push_last cap c b stack = elim (eqb c cap) [ true ↦ stack | false ↦ elim (eqb c 1) [ true ↦ b ∷ stack | false ↦ stack ] ]

-- the object named by v is counted up, or down; 0 names none
unfoldable pub count_up : ℕ → List ℕ → ℕ → List ℕ
count_up cap counts zero = counts
count_up cap counts (suc b) = set counts b (min cap (suc (get_or counts b 0)))

unfoldable pub count_down : ℕ → List ℕ → ℕ → List ℕ
count_down cap counts zero = counts
count_down cap counts (suc b) = set counts b (lowered cap (get_or counts b 0))

unfoldable pub count_down_stack : ℕ → List ℕ → ℕ → List ℕ → List ℕ
count_down_stack cap counts zero stack = stack
count_down_stack cap counts (suc b) stack = push_last cap (get_or counts b 0) b stack

-- each object that the n slots from i on name is counted down, once for each slot
unfoldable pub count_down_each : ℕ → List ℕ → List ℕ → ℕ → ℕ → List ℕ
count_down_each cap counts slots i zero = counts
count_down_each cap counts slots i (suc n) = count_down cap (count_down_each cap counts slots i n) (get_or slots (i + n) 0)

unfoldable pub count_down_each_stack : ℕ → List ℕ → List ℕ → ℕ → ℕ → List ℕ → List ℕ
count_down_each_stack cap counts slots i zero stack = stack
count_down_each_stack cap counts slots i (suc n) stack =
    count_down_stack cap (count_down_each cap counts slots i n) (get_or slots (i + n) 0) (count_down_each_stack cap counts slots i n stack)

-- ---- the moves

abbrev pub raise : ℕ → Graph → ℕ → Graph
raise cap h v = record { sizes = h.sizes; counts = count_up cap h.counts v; slots = h.slots }

abbrev pub lower : ℕ → Graph → ℕ → Graph
lower cap h v = record { sizes = h.sizes; counts = count_down cap h.counts v; slots = h.slots }

abbrev pub write : Graph → ℕ → ℕ → Graph
write h i v = record { sizes = h.sizes; counts = h.counts; slots = set h.slots i v }

-- no object starts at x any more
abbrev pub remove : Graph → ℕ → Graph
remove h x = record { sizes = set h.sizes x 0; counts = h.counts; slots = h.slots }

-- slot i is cleared, and what it named is counted down
abbrev pub let_go : ℕ → Graph → ℕ → Graph
let_go cap h i = lower cap (write h i 0) (slot h i)

-- so are the n slots from i on
abbrev pub let_go_each : ℕ → Graph → ℕ → ℕ → Graph
let_go_each cap h i n =
    record { sizes = h.sizes; counts = count_down_each cap h.counts h.slots i n; slots = clear i n h.slots }

-- the object at x is freed: it is removed, and its slots let go
unfoldable pub free : ℕ → ℕ → Graph → ℕ → Graph
free cap r h x = let_go_each cap (remove h x) (first_slot r x) (slots_of h x)

unfoldable pub free_stack : ℕ → ℕ → Graph → ℕ → List ℕ → List ℕ
free_stack cap r h x stack = count_down_each_stack cap h.counts h.slots (first_slot r x) (slots_of h x) stack

-- the waiting objects are freed, the first of the list first, until none waits or the fuel is used up
unfoldable pub release : ℕ → ℕ → ℕ → Graph → List ℕ → Graph
release cap r zero h stack = h
release cap r (suc fuel) h [] = h
release cap r (suc fuel) h (x ∷ stack) = release cap r fuel (free cap r h x) (free_stack cap r h x stack)

unfoldable pub release_stack : ℕ → ℕ → ℕ → Graph → List ℕ → List ℕ
release_stack cap r zero h stack = stack
release_stack cap r (suc fuel) h [] = []
release_stack cap r (suc fuel) h (x ∷ stack) = release_stack cap r fuel (free cap r h x) (free_stack cap r h x stack)

-- slot i, whose new value v is in the hand, is written; what it named before is let go, with all that this frees
abbrev pub swap : ℕ → Graph → ℕ → ℕ → Graph
swap cap h i v = lower cap (write h i v) (slot h i)

abbrev pub swap_stack : ℕ → Graph → ℕ → List ℕ
swap_stack cap h i = count_down_stack cap h.counts (slot h i) []

unfoldable pub finish : ℕ → ℕ → Graph → ℕ → ℕ → Graph
finish cap r h i v = release cap r (length h.sizes) (swap cap h i v) (swap_stack cap h i)

unfoldable pub store : ℕ → ℕ → Graph → ℕ → ℕ → Graph
store cap r h i v = finish cap r (raise cap h v) i v

-- a new object of n blocks at a, of count 1
abbrev pub place : Graph → ℕ → ℕ → Graph
place h a n = record { sizes = set h.sizes a n; counts = set h.counts a 1; slots = h.slots }

-- root i then names it
unfoldable pub allocate : ℕ → ℕ → Graph → ℕ → ℕ → ℕ → Graph
allocate cap r h a n i = finish cap r (place h a n) i (suc a)

-- ---- laws of counting

pub lowered_stuck : (cap c : ℕ) → c ≡ cap → lowered cap c ≡ c
unfolding lowered
lowered_stuck cap c e = rw (eq-eqb c cap e, lowered)

pub lowered_other : (cap c : ℕ) → c ≢ cap → lowered cap c ≡ c - 1
unfolding lowered
lowered_other cap c n = rw (ne_eqb c cap n, lowered)

pub lowered_le : (cap c : ℕ) → lowered cap c ≤ c
lowered_le cap c =
    elim (ℕ_discrete c cap) [ yes e ↦ omega (arith, lowered_stuck cap c e) | no n ↦ omega (arith, lowered_other cap c n) ]

-- what comes to 0 is pushed, and nothing else
pub push_last_lem : (cap c b : ℕ) (stack : List ℕ) → c ≢ 0 → lowered cap c ≡ 0 → push_last cap c b stack ≡ b ∷ stack
unfolding push_last
push_last_lem cap c b stack n z =
    elim (ℕ_discrete c cap) [
      | yes e ↦ absurd (n (sym (lowered_stuck cap c e) ∙ z))
      | no d ↦ rw (ne_eqb c cap d, eq-eqb c 1 (omega (arith, lowered_other cap c d)), push_last)
    ]

pub push_none : (cap c b : ℕ) (stack : List ℕ) → lowered cap c ≢ 0 → push_last cap c b stack ≡ stack
unfolding push_last
push_none cap c b stack n =
    elim (ℕ_discrete c cap) [
      | yes e ↦ rw (eq-eqb c cap e, push_last)
      | no d ↦ rw (ne_eqb c cap d, ne_eqb c 1 (λ e. n (omega (arith, lowered_other cap c d))), push_last)
    ]

module _ (cap : ℕ) (counts : List ℕ) where
  pub count_up_same : (b : ℕ) → b < length counts → get_or (count_up cap counts (suc b)) b 0 ≡ min cap (suc (get_or counts b 0))
  unfolding count_up
  count_up_same b l = get_or-set_same counts b (min cap (suc (get_or counts b 0))) 0 l

  pub count_up_other : (v b : ℕ) → v ≢ suc b → get_or (count_up cap counts v) b 0 ≡ get_or counts b 0
  unfolding count_up
  count_up_other zero b n = refl
  count_up_other (suc a) b n = get_or-set_other counts a b (min cap (suc (get_or counts a 0))) 0 (λ e. n (ap suc (sym e)))

  pub count_up_length : (v : ℕ) → length (count_up cap counts v) ≡ length counts
  unfolding count_up
  count_up_length zero = refl
  count_up_length (suc b) = length-set counts b (min cap (suc (get_or counts b 0)))

  pub count_down_same : (b : ℕ) → b < length counts → get_or (count_down cap counts (suc b)) b 0 ≡ lowered cap (get_or counts b 0)
  unfolding count_down
  count_down_same b l = get_or-set_same counts b (lowered cap (get_or counts b 0)) 0 l

  pub count_down_other : (v b : ℕ) → v ≢ suc b → get_or (count_down cap counts v) b 0 ≡ get_or counts b 0
  unfolding count_down
  count_down_other zero b n = refl
  count_down_other (suc a) b n = get_or-set_other counts a b (lowered cap (get_or counts a 0)) 0 (λ e. n (ap suc (sym e)))

  pub count_down_length : (v : ℕ) → length (count_down cap counts v) ≡ length counts
  unfolding count_down
  count_down_length zero = refl
  count_down_length (suc b) = length-set counts b (lowered cap (get_or counts b 0))
