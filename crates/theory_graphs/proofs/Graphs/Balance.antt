-- What the machine keeps at every block, and that the release of all that waits comes to an end with it.
-- The law of a block speaks of its size, its count and its references: a count is at most the capacity; below the capacity it is exact; and
-- where no object starts it is 0. While a store is under way one more reference is held in a hand, and is counted as if it stood in a slot.
-- So a store is three moves: counting up puts the new value in the hand, the write swaps the hand with the slot, and counting down empties
-- the hand. References are counted over all slots, whoever owns them, so that a half released object needs no mention.
-- The waiting list is described by one equation at each block: it occurs there once if an object of count 0 starts there, and else not at
-- all. That says who waits, that none waits twice, and nothing of the order.
use mathlib.Core.Path.{◌≡◌, refl, sym, ◌∙◌}
use mathlib.Core.Logic.{◌≢◌, inl, inr}
use mathlib.Core.List.{List, [], ◌∷◌}
use Prim.Native.Nat.{ℕ, zero, suc, ◌+◌, ◌≤◌, ◌<◌, min}
use native.Mathlib.Nat.{add-zero}
use native.Mathlib.Decide.{ℕ_discrete, dec_lt}
use native.Mathlib.Omega.{arith}
use lib.ListN.{length, get_or, set, length-set}
use lib.Seq.{get_or-set_other}
use Rattle.theory_graphs.proofs.Graphs.Occurrences.{equals, equals_same, equals_other, equals_none, equals_cases, occurrences, occurrences_nil}
use Rattle.theory_graphs.proofs.Graphs.Occurrences.{occurrences_cons, occurrences_set, occurrences_clear, occurrences_name, occurrences_le}
use Rattle.theory_graphs.proofs.Graphs.Occurrences.{nonzero_inside}
use Rattle.theory_graphs.proofs.Graphs.Stretch.{stretch, stretch_out, clear, set_zero}
use Rattle.theory_graphs.proofs.Graphs.Graph.{Graph, size, count, slot, references, first_slot, slots_of, lowered, push_last, count_down_stack}
use Rattle.theory_graphs.proofs.Graphs.Graph.{count_down_each, count_down_each_stack, raise, lower, write, remove, let_go, let_go_each, free, free_stack}
use Rattle.theory_graphs.proofs.Graphs.Graph.{release, release_stack}
use Rattle.theory_graphs.proofs.Graphs.Graph.{lowered_stuck, lowered_other, push_last_lem, push_none, count_up_same, count_up_other}
use Rattle.theory_graphs.proofs.Graphs.Graph.{count_down_same, count_down_other}

-- the law of a block with size s (0: no object starts there), count c and n references
pub record Law (cap s c n : ℕ) : Type 0 where
  pub bounded : c ≤ cap
  pub exact : c < cap → c ≡ n
  pub absent : s ≡ 0 → c ≡ 0

-- every block keeps the law, with one more reference, v, held in a hand; 0 is the empty hand
abbrev pub Balanced : ℕ → Graph → ℕ → Type 0
Balanced cap h v = (b : ℕ) → Law cap (size h b) (count h b) (references h b + equals v (suc b))

-- 1 for an object (size s) with count c = 0, else 0
unfoldable pub unreferenced : ℕ → ℕ → ℕ
unreferenced zero c = 0
unreferenced (suc s) zero = 1
unreferenced (suc s) (suc c) = 0

-- the waiting list has each object of count 0 once, and nothing else
abbrev pub Waits : Graph → List ℕ → Type 0
Waits h stack = (b : ℕ) → occurrences b stack ≡ unreferenced (size h b) (count h b)

pub unreferenced_absent : (s c : ℕ) → s ≡ 0 → unreferenced s c ≡ 0
unfolding unreferenced
unreferenced_absent zero c e = refl
unreferenced_absent (suc s) c e = absurd (omega arith)

pub unreferenced_counted : (s c : ℕ) → c ≢ 0 → unreferenced s c ≡ 0
unfolding unreferenced
unreferenced_counted zero c n = refl
unreferenced_counted (suc s) zero n = absurd (n refl)
unreferenced_counted (suc s) (suc c) n = refl

pub unreferenced_zero : (s c : ℕ) → s ≢ 0 → c ≡ 0 → unreferenced s c ≡ 1
unfolding unreferenced
unreferenced_zero zero c n e = absurd (n refl)
unreferenced_zero (suc s) zero n e = refl
unreferenced_zero (suc s) (suc c) n e = absurd (omega arith)

unreferenced_found : (s c : ℕ) → 1 ≤ unreferenced s c → (s ≢ 0) × (c ≡ 0) × (unreferenced s c ≡ 1)
unfolding unreferenced
unreferenced_found zero c h = absurd (omega arith)
unreferenced_found (suc s) zero h = (omega arith, refl, refl)
unreferenced_found (suc s) (suc c) h = absurd (omega arith)

-- where nothing waits every object has a count
pub all_counted : (h : Graph) → Waits h [] → (a : ℕ) → size h a ≢ 0 → count h a ≢ 0
all_counted h waits a n z = omega (arith, waits a, unreferenced_zero (size h a) (count h a) n z, occurrences_nil a)

-- the first that waits is an object of count 0
pub waits_head : (h : Graph) (x : ℕ) (stack : List ℕ) → Waits h (x ∷ stack) → (size h x ≢ 0) × (count h x ≡ 0)
waits_head h x stack waits =
    let f = unreferenced_found (size h x) (count h x) (omega (arith, waits x, occurrences_cons x x stack, equals_same x x refl)) in
    (f.0, f.1)

-- the first that waits is removed
remove_waits : (h : Graph) (x : ℕ) (stack : List ℕ) → Waits h (x ∷ stack) → Waits (remove h x) stack
remove_waits h x stack waits b = elim (ℕ_discrete b x) [ yes q ↦ rw q here | no n ↦ there n ]
  where
    here : occurrences x stack ≡ unreferenced (get_or (set h.sizes x 0) x 0) (count h x)
    here =
        let t = waits x ∙ unreferenced_zero (size h x) (count h x) (waits_head h x stack waits).0 (waits_head h x stack waits).1 in
        rw (set_zero h.sizes x, unreferenced_absent 0 (count h x) refl)
        (omega (arith, occurrences_cons x x stack, equals_same x x refl))

    there : b ≢ x → occurrences b stack ≡ unreferenced (get_or (set h.sizes x 0) b 0) (count h b)
    there n =
        rw (get_or-set_other h.sizes x b 0 0 n)
        (omega (arith, waits b, occurrences_cons b x stack, equals_other x b (λ e. n (sym e))))

-- one object less: one more block of size 0
pub fewer : (h : Graph) (x : ℕ) → size h x ≢ 0 → occurrences 0 (set h.sizes x 0) ≡ occurrences 0 h.sizes + 1
fewer h x n =
    omega (arith, occurrences_set 0 h.sizes x 0 (nonzero_inside h.sizes x n), equals_other (size h x) 0 n, equals_same 0 0 refl)

-- a waiting list has a place for each object, so N places are enough
pub waits_bound : (stack : List ℕ) (h : Graph) → Waits h stack → length stack + occurrences 0 h.sizes ≤ length h.sizes
waits_bound [] h waits = omega (arith, occurrences_le 0 h.sizes)
waits_bound (x ∷ stack) h waits =
    omega (arith, waits_bound stack (remove h x) (remove_waits h x stack waits), length-set h.sizes x 0, fewer h x (waits_head h x stack waits).0)

module _ (cap : ℕ) (pos : 0 < cap) where
  law_up : (s c n : ℕ) → s ≢ 0 → c ≢ 0 → Law cap s c n → Law cap s (min cap (suc c)) (n + 1)
  law_up s c n object counted l =
      elim (dec_lt c cap) [
        | yes u ↦ let e = l.exact u in record { bounded = omega arith; exact = omega arith; absent = omega arith }
        | no u ↦ record { bounded = omega arith; exact = omega arith; absent = omega arith }
      ]

  law_down : (s c n : ℕ) → Law cap s c (n + 1) → Law cap s (lowered cap c) n
  law_down s c n l =
      elim (ℕ_discrete c cap) [
        | yes e ↦
            let d = lowered_stuck cap c e in
            record { bounded = omega arith; exact = omega arith; absent = λ z. let k = l.absent z in omega arith }
        | no u ↦
            let d = lowered_other cap c u in
            let e = l.exact (omega (arith, l.bounded)) in
            record { bounded = omega arith; exact = omega arith; absent = λ z. let k = l.absent z in omega arith }
      ]

  -- what is named has a count and a size
  law_named : (s c n : ℕ) → Law cap s c (n + 1) → (c ≢ 0) × (s ≢ 0)
  law_named s c n l = (counted, λ z. counted (l.absent z))
    where
      counted : c ≢ 0
      counted z = let e = l.exact (omega arith) in omega arith

  -- an object of count 0 has no references
  pub law_zero : (s c n : ℕ) → Law cap s c n → c ≡ 0 → n ≡ 0
  law_zero s c n l z = let e = l.exact (omega arith) in omega arith

  -- the law with an empty hand, and the hand left out
  empty_hand : (h : Graph) → Balanced cap h 0 → (b : ℕ) → Law cap (size h b) (count h b) (references h b)
  empty_hand h balanced b = rw (equals_none b, add-zero) at (balanced b)

  pub unnamed : (h : Graph) (x s : ℕ) → Balanced cap h 0 → count h x ≡ 0 → slot h s ≢ suc x
  unnamed h x s balanced z e =
      omega (arith, law_zero (size h x) (count h x) (references h x) (empty_hand h balanced x) z, occurrences_name x h.slots s e)

  -- every reference names an object
  pub named_object : (h : Graph) → Balanced cap h 0 → (s b : ℕ) → slot h s ≡ suc b → size h b ≢ 0
  named_object h balanced s b e z = unnamed h b s balanced ((balanced b).absent z) e

  -- ---- the three moves of a store

  pub raise_balanced :
      (h : Graph) (v : ℕ) → Balanced cap h 0 → ((a : ℕ) → v ≡ suc a → (size h a ≢ 0) × (count h a ≢ 0)) → Balanced cap (raise cap h v) v
  raise_balanced h v balanced named b =
      elim (equals_cases v (suc b)) [
        | inl c ↦
            let n = named b c.0 in
            rw (c.1, c.0, count_up_same cap h.counts b (nonzero_inside h.counts b n.1))
            (law_up (size h b) (count h b) (references h b) n.0 n.1 (empty_hand h balanced b))
        | inr c ↦ rw (c.1, count_up_other cap h.counts v b c.0, add-zero) (empty_hand h balanced b)
      ]

  pub write_balanced : (h : Graph) (i v : ℕ) → i < length h.slots → Balanced cap h v → Balanced cap (write h i v) (slot h i)
  write_balanced h i v l balanced b = rw (occurrences_set (suc b) h.slots i v l) (balanced b)

  pub lower_balanced : (h : Graph) (v : ℕ) → Balanced cap h v → Balanced cap (lower cap h v) 0
  lower_balanced h v balanced b =
      elim (equals_cases v (suc b)) [
        | inl c ↦
            let l = rw c.1 at (balanced b) in
            let n = law_named (size h b) (count h b) (references h b) l in
            rw (equals_none b, add-zero, c.0, count_down_same cap h.counts b (nonzero_inside h.counts b n.0))
            (law_down (size h b) (count h b) (references h b) l)
        | inr c ↦ rw (equals_none b, count_down_other cap h.counts v b c.0) (rw c.1 at (balanced b))
      ]

  -- what is counted down to 0 waits
  pub lower_waits :
      (h : Graph) (v : ℕ) (stack : List ℕ) → Balanced cap h v → Waits h stack → Waits (lower cap h v) (count_down_stack cap h.counts v stack)
  unfolding count_down_stack
  lower_waits h zero stack balanced waits b = rw (count_down_other cap h.counts 0 b (omega arith)) (waits b)
  lower_waits h (suc a) stack balanced waits b =
      elim (ℕ_discrete a b) [
        | yes e ↦ rw (← e, count_down_same cap h.counts a (nonzero_inside h.counts a object.0)) here
        | no n ↦ rw (count_down_other cap h.counts (suc a) b (omega arith)) (there n)
      ]
    where
      object : (count h a ≢ 0) × (size h a ≢ 0)
      object = law_named (size h a) (count h a) (references h a) (rw (equals_same (suc a) (suc a) refl) at (balanced a))

      unlisted : occurrences a stack ≡ 0
      unlisted = waits a ∙ unreferenced_counted (size h a) (count h a) object.0

      here : occurrences a (push_last cap (count h a) a stack) ≡ unreferenced (size h a) (lowered cap (count h a))
      here =
          elim (ℕ_discrete (lowered cap (count h a)) 0) [
            | yes z ↦
                rw (push_last_lem cap (count h a) a stack object.0 z, unreferenced_zero (size h a) (lowered cap (count h a)) object.1 z)
                (omega (arith, occurrences_cons a a stack, equals_same a a refl, unlisted))
            | no n ↦
                rw (push_none cap (count h a) a stack n, unreferenced_counted (size h a) (lowered cap (count h a)) n) unlisted
          ]

      there : a ≢ b → occurrences b (push_last cap (count h a) a stack) ≡ unreferenced (size h b) (count h b)
      there n =
          elim (ℕ_discrete (lowered cap (count h a)) 0) [
            | yes z ↦
                rw (push_last_lem cap (count h a) a stack object.0 z)
                (omega (arith, occurrences_cons b a stack, equals_other a b n, waits b))
            | no k ↦ rw (push_none cap (count h a) a stack k) (waits b)
          ]

  -- ---- slots let go

  clear_balanced : (h : Graph) (i : ℕ) → Balanced cap h 0 → Balanced cap (write h i 0) (slot h i)
  clear_balanced h i balanced b = rw (occurrences_clear b h.slots i) (empty_hand h balanced b)

  pub let_go_balanced : (h : Graph) (i : ℕ) → Balanced cap h 0 → Balanced cap (let_go cap h i) 0
  let_go_balanced h i balanced = lower_balanced (write h i 0) (slot h i) (clear_balanced h i balanced)

  pub let_go_waits :
      (h : Graph) (i : ℕ) (stack : List ℕ) → Balanced cap h 0 → Waits h stack
      → Waits (let_go cap h i) (count_down_stack cap h.counts (slot h i) stack)
  let_go_waits h i stack balanced waits = lower_waits (write h i 0) (slot h i) stack (clear_balanced h i balanced) waits

  -- the next slot of a stretch is not yet cleared
  next_slot : (h : Graph) (i n : ℕ) → get_or (clear i n h.slots) (i + n) 0 ≡ slot h (i + n)
  next_slot h i n = stretch_out (λ j. 0) i h.slots n (i + n) (inr (omega arith))

  pub let_go_each_balanced : (h : Graph) (i n : ℕ) → Balanced cap h 0 → Balanced cap (let_go_each cap h i n) 0
  unfolding count_down_each stretch
  let_go_each_balanced h i zero balanced b = balanced b
  let_go_each_balanced h i (suc n) balanced b =
      rw (next_slot h i n) at (let_go_balanced (let_go_each cap h i n) (i + n) (let_go_each_balanced h i n balanced) b)

  pub let_go_each_waits :
      (h : Graph) (i n : ℕ) (stack : List ℕ) → Balanced cap h 0 → Waits h stack
      → Waits (let_go_each cap h i n) (count_down_each_stack cap h.counts h.slots i n stack)
  unfolding count_down_each count_down_each_stack stretch
  let_go_each_waits h i zero stack balanced waits b = waits b
  let_go_each_waits h i (suc n) stack balanced waits b =
      rw (next_slot h i n)
      at
      (let_go_waits
      (let_go_each cap h i n)
      (i + n)
      (count_down_each_stack cap h.counts h.slots i n stack)
      (let_go_each_balanced h i n balanced)
      (let_go_each_waits h i n stack balanced waits)
      b)

  -- ---- an object of count 0 is freed

  remove_balanced : (h : Graph) (x : ℕ) → count h x ≡ 0 → Balanced cap h 0 → Balanced cap (remove h x) 0
  remove_balanced h x z balanced b = record { bounded = (balanced b).bounded; exact = (balanced b).exact; absent = absent }
    where
      absent : get_or (set h.sizes x 0) b 0 ≡ 0 → count h b ≡ 0
      absent e =
          elim (ℕ_discrete b x) [
            | yes q ↦ rw q z
            | no n ↦ (balanced b).absent (rw (get_or-set_other h.sizes x b 0 0 n) at e)
          ]

  pub free_balanced : (r : ℕ) (h : Graph) (x : ℕ) → count h x ≡ 0 → Balanced cap h 0 → Balanced cap (free cap r h x) 0
  unfolding free
  free_balanced r h x z balanced = let_go_each_balanced (remove h x) (first_slot r x) (slots_of h x) (remove_balanced h x z balanced)

  pub free_waits :
      (r : ℕ) (h : Graph) (x : ℕ) (stack : List ℕ) → Balanced cap h 0 → Waits h (x ∷ stack)
      → Waits (free cap r h x) (free_stack cap r h x stack)
  unfolding free free_stack
  free_waits r h x stack balanced waits =
      let_go_each_waits
      (remove h x)
      (first_slot r x)
      (slots_of h x)
      stack
      (remove_balanced h x (waits_head h x stack waits).1 balanced)
      (remove_waits h x stack waits)

  -- ---- the release

  -- with fuel for each object nothing waits at the end
  pub release_balanced :
      (r fuel : ℕ) (h : Graph) (stack : List ℕ) → Balanced cap h 0 → Waits h stack → length h.sizes ≤ occurrences 0 h.sizes + fuel
      → Balanced cap (release cap r fuel h stack) 0 × Waits (release cap r fuel h stack) [] × (release_stack cap r fuel h stack ≡ [])
  unfolding release release_stack free
  release_balanced r zero h [] balanced waits f = (balanced, waits, refl)
  release_balanced r zero h (x ∷ stack) balanced waits f = absurd (omega (arith, waits_bound (x ∷ stack) h waits))
  release_balanced r (suc fuel) h [] balanced waits f = (balanced, waits, refl)
  release_balanced r (suc fuel) h (x ∷ stack) balanced waits f =
      let z = waits_head h x stack waits in
      release_balanced
      r
      fuel
      (free cap r h x)
      (free_stack cap r h x stack)
      (free_balanced r h x z.1 balanced)
      (free_waits r h x stack balanced waits)
      (omega (arith, fewer h x z.0, length-set h.sizes x 0))
