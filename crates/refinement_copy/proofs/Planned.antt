-- What the plan asks of the arrays that the walk leaves, and what it makes of them.
use mathlib.Core.Path.{◌≡◌, refl, sym, ap, ap₂, ◌∙◌, subst}
use mathlib.Core.Logic.{◌≢◌}
use mathlib.Core.Bool.{Bool, true}
use mathlib.Core.List.{List}
use mathlib.Core.Option.{Option}
use Prim.Native.Nat.{ℕ, zero, suc, ◌+◌, ◌-◌, ◌≤◌, ◌<◌}
use native.Mathlib.Omega.{arith}
use lib.ListN.{length, get_or}
use Rattle.rules.specs.Heap.{Memory, size_at}
use Rattle.rules_output.specs.Walk.{number_in, object_at, numbered}
use Rattle.rules_copy.specs.Copy.{Laid, size_of, lay_next, lay_first, lay_all, all_laid, places_in, new_reference}
use Rattle.rules.proofs.Objects.{first_facts}
use Rattle.theory_walks.proofs.Walks.Numbers.{number_le, number_object, object_number, object_some}
use Rattle.theory_walks.proofs.Walks.Reached.{led_first, met_led, numbered_distinct, numbered_length}
use Rattle.theory_copies.proofs.Copies.Accepted.{there_laid}
use Rattle.walk_objects.specs.Walking.{walked_heap, Walkable, Walked}
use Rattle.walk_objects.proofs.Meeting.{top_length}
use Rattle.walk_objects.proofs.Numbering.{top_object}
use Rattle.copy_plan.specs.Plan.{block_in, sizes_in, Numbering, Planned}
use Rattle.refinement_copy.specs.Routed.{Routed}

-- sizes that are equal are laid alike
lay_same : (M : ℕ) (f g : ℕ → ℕ) (k : ℕ) → ((i : ℕ) → i < k → f i ≡ g i) → lay_first M f k ≡ lay_first M g k
unfolding lay_first
lay_same M f g zero same = refl
lay_same M f g (suc k) same =
    ap₂ (λ (n : ℕ) (o : Option Laid). lay_next M n o) (same k (omega arith)) (lay_same M f g k (λ i l. same i (omega arith)))

-- the arrays hold the walk of the heap
module _ (N : ℕ) (a b d cells roots : List ℕ) (walkable : Walkable N a b d cells roots) where
  abbrev h : Memory
  h = walked_heap a b d cells roots

  module _ {order numbers : List ℕ} {met : ℕ} (w : Walked N (numbered N h) order numbers met) where
    abbrev all : List ℕ
    all = numbered N h

    as_many : met ≡ length all
    as_many = sym (top_length order met) ∙ ap length w.is

    object : (k : ℕ) → k < met → get_or order k 0 ≡ object_at all (suc k)
    object k l = sym (top_object order met k l) ∙ ap (λ (x : List ℕ). object_at x (suc k)) w.is

    number : (b : ℕ) → b < N → get_or numbers b 0 ≡ number_in all (suc b)
    number b l = w.walking.numbers_are b l ∙ ap (λ (x : List ℕ). number_in x (suc b)) w.is

    module _ (k : ℕ) (l : k < met) where
      number_of_lem : number_in all (get_or order k 0) ≡ suc k
      number_of_lem =
          ap (number_in all) (object k l) ∙ object_number (numbered_distinct N h walkable.named) (suc k) (omega arith) (omega (arith, as_many))

      block : (get_or order k 0 ≢ 0) × (block_in order k < N)
      block =
          let led = met_led N h walkable.named (get_or order k 0) k number_of_lem in
          (led.0, (first_facts N h.a h.b (block_in order k) (led_first N h led.1)).inside)

    pub numbering : Numbering N order numbers met
    numbering = record {
      small = walkable.small;
      long_order = omega (arith, as_many, numbered_length N h walkable.named, w.walking.long_order);
      long_numbers = w.walking.long_numbers;
      some = λ k l. (block k l).0;
      below = λ k l. omega (arith, (block k l).0, (block k l).1);
      number = λ k l.
          let whole : suc (block_in order k) ≡ get_or order k 0 = omega (arith, (block k l).0) in
          let one : suc k ≡ k + 1 = omega arith in
          number (block_in order k) (block k l).1 ∙ ap (number_in all) whole ∙ number_of_lem k l ∙ one;
      object = λ b l s.
          let n : ℕ = get_or numbers b 0 - 1 in
          let whole : suc n ≡ get_or numbers b 0 = omega arith in
          let few : get_or numbers b 0 ≤ met = omega (arith, number b l, number_le all (suc b), as_many) in
          let there : object_at all (suc n) ≡ suc b = number_object all (suc b) n (sym (number b l) ∙ sym whole) in
          (few, omega (arith, object n (omega arith), there));
    }

    -- ---- after the plan

    sizes_same : (M k : ℕ) → k ≤ met → lay_first M (sizes_in N h.b order) k ≡ lay_first M (size_of N h all) k
    sizes_same M k l =
        lay_same M (sizes_in N h.b order) (size_of N h all) k (λ i u. ap (λ (x : ℕ). size_at N h (x - 1)) (object i (omega arith)))

    pub plan_is : (M : ℕ) → lay_first M (sizes_in N h.b order) met ≡ lay_all N h M
    unfolding lay_all
    plan_is M = sizes_same M met (omega arith) ∙ ap (lay_first M (size_of N h all)) as_many

    pub routed : {M : ℕ} {moved : List ℕ} {r : Bool} → Planned M (sizes_in N b order) met N numbers moved r → r ≡ true → length moved ≡ length numbers
        → Routed N h M order moved met
    unfolding places_in
    routed {M} p e kept =
        let found = there_laid (lay_all N h M) (sym (sym e ∙ p.laid_all ∙ ap all_laid (plan_is M))) in
        record {
          all = as_many;
          long_order = omega (arith, as_many, numbered_length N h walkable.named, w.walking.long_order);
          long_moved = omega (arith, w.walking.long_numbers);
          object = object;
          laid = found.0;
          laid_by = found.1;
          moved_is = λ b l. p.moved_is e b l ∙ ap₂ new_reference (ap places_in (plan_is M ∙ found.1)) (number b l);
        }
