-- The list that code makes is that of the rules.
use mathlib.Core.Path.{◌≡◌, refl, sym, ap, ◌∙◌, subst}
use mathlib.Core.Logic.{◌≢◌, inl, inr}
use mathlib.Core.Bool.{true, false}
use Rattle.std.specs.Prelude.{Some, None}
use mathlib.Core.List.{List, [], ◌∷◌, ◌++◌, map}
use Prim.Native.Nat.{ℕ, suc, ◌+◌, ◌-◌, ◌*◌, ◌≤◌, ◌<◌}
use native.Mathlib.Decide.{ℕ_discrete}
use native.Mathlib.Omega.{arith}
use lib.ListN.{length, get_or, take}
use lib.Seq.{ext_get_or, length-take-le}
use Rattle.std.proofs.lemmas.List.{get_or-take}
use lib.Dec.{ltb}
use borrow.Author.Tests.{lt-ltb}
use Rattle.bitmap.specs.Bit.{bit_at}
use Rattle.rules.specs.Heap.{Memory, is_first, size_at, size_from, is_data}
use Rattle.rules_output.specs.Walk.{number_in, object_at, block_at, references_of, followed, numbered}
use Rattle.rules_output.specs.Shape.{cells_of, described, joined, shape_of}
use Rattle.rules_calls.specs.Calls.{reply, write_shape, outcome, own_refusals}
use Rattle.rules_calls.specs.Promise.{ShapePromise}
use Rattle.rules.proofs.Tests.{test_cases_lem, first_found}
use Rattle.rules_calls.proofs.Replies.{Passed}
use Rattle.types.specs.declared.Reply.{Reply}
use Rattle.text.proofs.Writing.{put_as}
use Rattle.theory_memories.specs.Words.{Leads}
use Rattle.theory_memories.specs.Heaps.{Undamaged}
use Rattle.theory.proofs.EachCall.Outputs.{output_refused, output_accepted}
use Rattle.theory_walks.proofs.Walks.Numbers.{number_le, number_zero, object_number, Distinct}
use Rattle.theory_walks.proofs.Walks.Steps.{all_at, distinct_length}
use Rattle.theory_walks.proofs.Walks.Reached.{Named, led_first, met_led, roots_below, cells_below, followed_block}
use Rattle.theory_walks.proofs.Walks.Equal.{cells_length, cells_at, described_data, described_other}
use Rattle.theory_walks.proofs.Walks.Joined.{joined_same}
use Rattle.walk_objects.specs.Walking.{Walkable, Walked, walked_heap, part}
use Rattle.walk_objects.proofs.Meeting.{top_length}
use Rattle.walk_objects.proofs.Numbering.{top_object, part_length, part_at, cells_list}
use Rattle.walk_shape.specs.Listing.{number_of, Known, cells_from, described_in, shape_up_to, Listed, Shaped}
use Rattle.walk_shape.proofs.Laws.{number_nothing, number_some}

map_same : (f g : ℕ → ℕ) (l : List ℕ) → ((i : ℕ) → i < length l → f (get_or l i 0) ≡ g (get_or l i 0)) → map f l ≡ map g l
map_same f g [] e = refl
map_same f g (x ∷ l) e = let tail = map_same f g l (λ i b. e (suc i) (omega arith)) in let head = e 0 (omega arith) in cc

-- `described_in` by the kind of the object
module _ (N : ℕ) (b d cells numbers : List ℕ) (at : ℕ) where
  in_data_lem : is_data d at ≡ true → described_in N b d cells numbers at ≡ size_from (N - at) b at ∷ bit_at d at ∷ cells_from N b cells at
  unfolding described_in
  in_data_lem made = rw (made, described_in) refl

  in_other : is_data d at ≡ false → described_in N b d cells numbers at ≡ size_from (N - at) b at ∷ bit_at d at ∷ map (number_of numbers) (cells_from N b cells at)
  unfolding described_in
  in_other other = rw (other, described_in) refl

module _ (N : ℕ) (a b d cells roots : List ℕ) (named : Named N (walked_heap a b d cells roots)) where
  abbrev heap : Memory
  heap = walked_heap a b d cells roots

  module _ (order numbers : List ℕ) (met : ℕ) (w : Walked N (numbered N heap) order numbers met) where
    -- the array has the numbers of the rules
    number_is : (v : ℕ) → v ≤ N → number_of numbers v ≡ number_in (numbered N heap) v
    number_is v l = elim (ℕ_discrete v 0) [
      | yes z ↦
          sym (number_nothing numbers v z)
          ∙ sym (number_zero (subst Distinct w.is w.walking.distinct))
          ∙ ap (number_in (numbered N heap)) (sym z)
      | no s ↦
          let whole : suc (v - 1) ≡ v = omega arith in
          sym (number_some numbers v s)
          ∙ w.walking.numbers_are (v - 1) (omega arith)
          ∙ ap (λ (l : List ℕ). number_in l (suc (v - 1))) w.is
          ∙ ap (number_in (numbered N heap)) whole
    ]

    few : met ≤ N
    few = omega (arith, distinct_length N w.walking.distinct w.walking.below, top_length order met)

    known : (v : ℕ) → v ≤ N → Known numbers v
    known v l =
        (omega (arith, w.walking.long_numbers), omega (arith, w.walking.small, number_is v l, number_le (numbered N heap) v, ap length w.is, top_length order met, few))

    -- the object at a place of the array
    module _ (k : ℕ) (h : k < met) where
      object : object_at (numbered N heap) (suc k) ≡ get_or order k 0
      object = ap (λ (l : List ℕ). object_at l (suc k)) (sym w.is) ∙ top_object order met k h

      number : number_in (numbered N heap) (get_or order k 0) ≡ suc k
      number =
          ap (number_in (numbered N heap)) (sym object)
          ∙ object_number (subst Distinct w.is w.walking.distinct) (suc k) (omega arith) (omega (arith, ap length w.is, top_length order met))

      led : (get_or order k 0 ≢ 0) × Leads N heap (get_or order k 0 - 1)
      led = met_led N heap named (get_or order k 0) k number

      first : is_first N heap (get_or order k 0 - 1) ≡ true
      first = led_first N heap led.1

      below : get_or order k 0 ≤ N
      below = subst (λ (x : ℕ). x ≤ N) (top_object order met k h) (all_at w.walking.below (suc k) (omega arith) (omega (arith, top_length order met)))

      cells_fit_other : is_data d (get_or order k 0 - 1) ≡ false → (i : ℕ) → i < 4 * size_at N heap (get_or order k 0 - 1) → get_or cells (4 * (get_or order k 0 - 1) + i) 0 ≤ N
      cells_fit_other other i l =
          let at : ℕ = get_or order k 0 - 1 in
          let list = cells_list N a b d cells roots named at first other in
          omega (
            arith,
            sym (part_at cells (4 * at) (4 * size_at N heap at) i l) ∙ ap (λ (x : List ℕ). get_or x i 0) list,
            ap (λ (x : List ℕ). get_or x i 0) (followed_block N heap at),
            cells_below N heap named (suc at) i,
          )

      described_is : described_in N b d cells numbers (get_or order k 0 - 1) ≡ described N heap (numbered N heap) (block_at (numbered N heap) (suc k))
      described_is =
          let at : ℕ = get_or order k 0 - 1 in
          let size : ℕ = size_at N heap at in
          let place : at ≡ block_at (numbered N heap) (suc k) = ap (λ (v : ℕ). v - 1) (sym object) in
          let same : described_in N b d cells numbers at ≡ described N heap (numbered N heap) at = elim (test_cases_lem (is_data d at)) [
            | inl made ↦
                in_data_lem N b d cells numbers at made
                ∙ ap (λ (l : List ℕ). size ∷ bit_at d at ∷ l)
                (ext_get_or 0 (part cells (4 * at) (4 * size)) (cells_of N heap at) (part_length cells (4 * at) (4 * size) ∙ sym (cells_length N heap at))
                (λ i l.
                let low : i < 4 * size = omega (arith, part_length cells (4 * at) (4 * size)) in
                part_at cells (4 * at) (4 * size) i low ∙ sym (cells_at N heap at i low)))
                ∙ sym (described_data N heap (numbered N heap) at made)
            | inr other ↦
                in_other N b d cells numbers at other
                ∙ ap (λ (l : List ℕ). size ∷ bit_at d at ∷ map (number_of numbers) l) (cells_list N a b d cells roots named at first other)
                ∙ ap (λ (l : List ℕ). size ∷ bit_at d at ∷ l)
                (map_same (number_of numbers) (number_in (numbered N heap)) (references_of N heap at)
                (λ i l.
                number_is (get_or (references_of N heap at) i 0)
                (omega (arith, ap (λ (x : List ℕ). get_or x i 0) (followed_block N heap at), cells_below N heap named (suc at) i))))
                ∙ sym (described_other N heap (numbered N heap) at other)
          ] in
          same ∙ ap (described N heap (numbered N heap)) place

    -- the array's first places alone
    long : length (take met order) ≡ met
    long = length-take-le met order (omega (arith, few, w.walking.long_order))

    at_place : (k : ℕ) → k < length (take met order) → (k < met) × (get_or (take met order) k 0 ≡ get_or order k 0)
    at_place k h = let inside : k < met = omega (arith, long) in (inside, get_or-take met order k 0 inside)

    pub list_is : shape_up_to N b d cells roots (take met order) numbers (length (take met order)) ≡ shape_of N heap
    unfolding shape_up_to shape_of
    list_is =
        let count : length (take met order) ≡ length (numbered N heap) = long ∙ sym (top_length order met) ∙ ap length w.is in
        let each : ℕ → List ℕ = λ i. described_in N b d cells numbers (get_or (take met order) i 0 - 1) in
        let each' : ℕ → List ℕ = λ i. described N heap (numbered N heap) (block_at (numbered N heap) (suc i)) in
        let heads : map (number_of numbers) roots ≡ map (number_in (numbered N heap)) roots =
        map_same (number_of numbers) (number_in (numbered N heap)) roots (λ i l. number_is (get_or roots i 0) (roots_below N heap named i)) in
        let rest : joined each (length (take met order)) ≡ joined each' (length (numbered N heap)) =
        joined_same each each' (length (take met order)) (λ k h. let (inside, same) = at_place k h in rw same (described_is k inside)) ∙ ap (joined each') count in
        ap (λ (l : List ℕ). length roots ∷ (l ++ joined each (length (take met order)))) heads
        ∙ ap (λ (l : List ℕ). length roots ∷ (map (number_in (numbered N heap)) roots ++ l)) rest

    pub listed : N ≤ 8 * length b → N ≤ 8 * length d → length cells ≡ 4 * N → length roots ≤ 64 → Listed N b d cells roots (take met order) numbers
    listed long_b long_d long_cells few_roots =
        record {
          ordered = record {
            small = w.walking.small;
            long_b = long_b;
            few = omega (arith, long, few);
            some = λ k h. let (inside, same) = at_place k h in rw same (led k inside).0;
            below = λ k h. let (inside, same) = at_place k h in rw same (below k inside);
          };
          long_d = long_d;
          long_cells = long_cells;
          few_roots = few_roots;
          of_roots = λ i l. known (get_or roots i 0) (roots_below N heap named i);
          of_cells = λ k h. let (inside, same) = at_place k h in rw same
              (λ other i l. known (get_or cells (4 * (get_or order k 0 - 1) + i) 0) (cells_fit_other k inside other i l));
        }

-- ---- the call

module _ {N : ℕ} {a b d cells roots : List ℕ} (fits : Walkable N a b d cells roots) {order numbers : List ℕ} {met : ℕ}
    (walked : Walked N (numbered N (walked_heap a b d cells roots)) order numbers met) where
  pub met_few : met ≤ N
  met_few = few N a b d cells roots fits.named order numbers met walked

  pub list_ready : Listed N b d cells roots (take met order) numbers
  list_ready = listed N a b d cells roots fits.named order numbers met walked fits.long_b fits.long_d fits.long_cells fits.few_roots

  pub shape_written : shape_up_to N b d cells roots (take met order) numbers (length (take met order)) ≡ shape_of N (walked_heap a b d cells roots)
  shape_written = list_is N a b d cells roots fits.named order numbers met walked

module _ {N w : ℕ} {h : Memory} (u : Undamaged N w h) where
  same_shape : shape_of N (walked_heap h.a h.b h.d h.cells h.roots) ≡ shape_of N h
  unfolding shape_of numbered followed references_of described cells_of
  same_shape = refl

  module _ {out left : List ℕ} where
    pub refused_short : (r : Reply) → Shaped N (walked_heap h.a h.b h.d h.cells h.roots) out left None → r ≡ reply 16 0 0 → ShapePromise N w h out r h left
    unfolding own_refusals
    refused_short r (short, same) reply =
        let long : length out < length (shape_of N h) = omega (arith, ap length same_shape) in
        rw same
        (output_refused N w h u (write_shape (length out)) refl (shape_of N h) out r 16 (omega arith)
        (first_found 16 (ltb (length out) (length (shape_of N h))) [] (lt-ltb (length out) (length (shape_of N h)) long)) reply)

    pub accepted_long : {n : ℕ} (r : Reply) → Shaped N (walked_heap h.a h.b h.d h.cells h.roots) out left (Some n) → r ≡ reply 0 n 0 → ShapePromise N w h out r h left
    unfolding outcome Passed
    accepted_long {n} r (long, put) reply =
        let passed : length (shape_of N h) ≤ length out = omega (arith, ap length same_shape) in
        output_accepted N w h u (write_shape (length out)) refl (shape_of N h) out r left n passed refl (put_as same_shape refl put) reply
