-- The second heap with all objects and roots in it is undamaged, and a root leads to each of its objects: so the collection frees nothing of
-- it and gives each object its number of references.
use mathlib.Core.Path.{◌≡◌, refl, sym, ap, ◌∙◌, subst}
use mathlib.Core.Logic.{◌≢◌, ◌⊎◌, inl, inr}
use mathlib.Core.Bool.{true, false}
use mathlib.Core.List.{List, [], map}
use mathlib.Core.Option.{some}
use Prim.Native.Nat.{ℕ, zero, suc, ◌+◌, ◌-◌, ◌*◌, ◌/◌, ◌%◌, ◌^◌, ◌≤◌, ◌<◌, min}
use native.Mathlib.Decide.{ℕ_discrete}
use native.Mathlib.Omega.{arith}
use native.Mathlib.Nat.{sub_self}
use lib.ListN.{length, get_or, replicate, length-replicate, length-map, get_or-map}
use Rattle.bitmap.specs.Bit.{bit_at, zeros}
use Rattle.rules.specs.Heap.{Memory, with_a, with_b, with_counts, with_cells, with_waiting, with_sections, with_d, with_marks, with_list, capacity, count_of}
use Rattle.rules.specs.Heap.{is_first, size_at, exponent, is_ref, reference}
use Rattle.rules.specs.Sections.{figures}
use Rattle.rules_stores.specs.Store.{formatted}
use Rattle.rules_stores.specs.Collection.{is_cell_of, cell_of_chosen, references_from, reached, recounted, collected}
use Rattle.rules_steps.specs.Steps.{is_open, is_untidy, with_none}
use Rattle.rules_output.specs.Walk.{block_at, number_in, numbered}
use Rattle.rules_copy.specs.Copy.{Laid, size_of, lay_all, places_in, new_reference, copy_one, copy_first, copy_all, copied}
use Rattle.rules_calls.specs.Calls.{collect, Answer, reply, settled, freeing, outcome, answer}
use Rattle.rules.proofs.Shape.{Shaped}
use Rattle.rules_calls.proofs.Replies.{Passed}
use Rattle.rules.proofs.Objects.{bit_cases, ref_test}
use Rattle.rules.proofs.Reading.{read_free}
use Rattle.rules_calls.proofs.Unread.{collect_beside}
use Rattle.theory_memories.specs.Words.{Object, Leads, number_of_references}
use Rattle.theory_memories.specs.Sound.{ExactCollection}
use Rattle.theory_memories.specs.Heaps.{Intact}
use Rattle.theory_memories.specs.Heaps.{Usable}
use Rattle.theory_copies.specs.Copies.{ExactCopy}
use Rattle.theory_memories.proofs.Maps.Extents.{first_size, not_first_size, extent, represents_delimited}
use Rattle.theory_memories.proofs.Maps.Undamaged.{DamageFree}
use Rattle.theory_memories.proofs.Memories.Healthy.{Healthy, capacity_positive, undamaged_healthy}
use Rattle.theory_memories.proofs.Memories.ViewRelease.{reshaped}
use Rattle.theory_memories.proofs.Memories.TidyHeap.{none_after, closed_passes}
use Rattle.theory_memories.proofs.Memories.Fit.{Fit, fit_undamaged}
use Rattle.theory_memories.proofs.Memories.Soundness.{healthy_sound}
use Rattle.theory_memories.proofs.Memories.Accepted.{fit_accepted}
use Rattle.theory_memories.proofs.Memories.Settled.{settled_healthy}
use Rattle.theory_memories.proofs.Memories.Collected.{collected_exact, collected_healthy}
use Rattle.theory_walks.proofs.Walks.Numbers.{number_zero}
use Rattle.theory_walks.proofs.Walks.Reached.{Named, root_led, cell_led, numbered_distinct}
use Rattle.theory_walks.proofs.Walks.Equal.{equal_shape}
use Rattle.theory_copies.proofs.Copies.AllLed.{swept_none, all_references, collected_same}
use Rattle.theory_copies.proofs.Copies.Laying.{listed, map_same, LaidOut, laid_out}
use Rattle.theory_copies.proofs.Copies.Turns.{laid_turns, turns_same}
use Rattle.theory_copies.proofs.Copies.Placing.{sizes_with, Holding, copy_map, holding}
use Rattle.theory_copies.proofs.Copies.Image.{Image, new_none, new_some, met_sized, led_goes, source, object_at_lem, reference_at, all_led, paired, paired_at}

-- ---- the second heap

module _ (N : ℕ) (h : Memory) (named : Named N h) (M v : ℕ) (shape : Shaped M v (formatted M v (length h.roots))) (s : Laid)
    (Laid-by : lay_all N h M ≡ some s) where
  abbrev met : List ℕ
  met = numbered N h

  abbrev places : List ℕ
  places = s.places

  out : LaidOut M (size_of N h met) (length met) s
  unfolding lay_all
  out = laid_out M (size_of N h met) (length met) s Laid-by

  held : Holding N h met places M v shape.whole_bytes (length met) (copy_first N h met places M v (length met))
  held = holding N h met places M v shape.whole_bytes (length met) (met_sized N h named) out.found (length met) (omega arith)

  abbrev sizes : List ℕ
  sizes = sizes_with N h met places M v shape.whole_bytes (length met)

  abbrev filled : Memory
  filled = copy_all N h met places M v

  abbrev new_root : ℕ → ℕ
  new_root x = new_reference places (number_in met x)

  zero_root : new_root 0 ≡ 0
  zero_root = new_none places (number_in met 0) (number_zero (numbered_distinct N h named))

  -- whatever its counts, its waiting list and its list of sections
  pub image : (counts waiting sections : List ℕ) → Image N h places M sizes (with_sections sections (with_waiting waiting (with_counts counts filled)))
  unfolding copy_all
  image counts waiting sections = record {
    represents = held.represents;
    long = out.long;
    size_at_lem = held.size_at_lem;
    only = held.only;
    distinct = held.distinct;
    kind_at = held.kind_at;
    cell_at = held.cell_at;
    as_many = length-map h.roots new_root;
    root_at = λ r.
        ap (λ (d : ℕ). get_or (map new_root h.roots) r d) (sym zero_root) ∙ get_or-map new_root h.roots r 0;
  }

  abbrev filled_image : Image N h places M sizes filled
  filled_image = image filled.counts filled.waiting filled.sections

  -- ---- no damage

  rest : (k : ℕ) → let bare : Memory → Memory = λ m. with_a [] (with_b [] (with_counts [] (with_cells [] (with_d [] m)))) in
      bare (copy_first N h met places M v k) ≡ bare (formatted M v (length h.roots))
  unfolding copy_first copy_one
  rest zero = refl
  rest (suc k) = rest k

  lists : (filled.waiting ≡ (formatted M v (length h.roots)).waiting) × (filled.sections ≡ (formatted M v (length h.roots)).sections)
      × (filled.marks ≡ (formatted M v (length h.roots)).marks) × (filled.list ≡ (formatted M v (length h.roots)).list)
  unfolding copy_all
  lists = (
    ap (λ (m : Memory). m.waiting) (rest (length met)),
    ap (λ (m : Memory). m.sections) (rest (length met)),
    ap (λ (m : Memory). m.marks) (rest (length met)),
    ap (λ (m : Memory). m.list) (rest (length met)),
  )

  filled_shaped : Shaped M v filled
  unfolding copy_all formatted
  filled_shaped =
      reshaped M v (formatted M v (length h.roots)) filled shape
      (omega (arith, held.represents.length_a, shape.length_a, shape.whole_bytes))
      (omega (arith, held.represents.length_b, shape.length_b, shape.whole_bytes))
      (held.length_counts ∙ sym shape.length_counts) (held.length_cells ∙ sym shape.length_cells)
      (length-map h.roots new_root ∙ sym (length-replicate (length h.roots) 0))
      (ap length lists.0) (ap length lists.1) (held.length_d ∙ sym shape.length_d) (ap length lists.2) (ap length lists.3)

  -- what stands for a reference of h is a reference
  new_ref : (x : ℕ) → (x ≢ 0 → Leads N h (x - 1)) → is_ref M filled (new_root x) ≡ true
  new_ref x led = ref_test M filled.a filled.b (new_root x) (cases (ℕ_discrete x 0))
    where
      cases : Dec (x ≡ 0) → (new_root x ≡ 0) ⊎ (is_first M filled (new_root x - 1) ≡ true)
      cases (yes z) = inl (ap new_root z ∙ zero_root)
      cases (no n) =
          let at = led_goes N h named places (led n) in
          let whole : suc (x - 1) ≡ x = omega arith in
          let is = new_some places (number_in met x) at.i (ap (number_in met) (sym whole) ∙ at.number) in
          let place : new_root x - 1 ≡ get_or places at.i 0 = omega arith in
          inr (ap (is_first M filled) place ∙ (object_at_lem N h named places M sizes filled filled_image at.i at.inside).first)

  -- the object whose block is used
  owner : (i : ℕ) → bit_at filled.a i ≡ 1 → (k : ℕ) × (k < length met) × (get_or places k 0 ≤ i) × (i < get_or places k 0 + size_of N h met k)
  owner i used =
      let o = filled_image.represents.owner i used in
      let at = held.only o.0 (omega (arith, o.1, o.2)) in
      let place = at.2 in
      let size : get_or sizes o.0 0 ≡ size_of N h met at.0 = ap (λ (x : ℕ). get_or sizes x 0) place ∙ held.size_at_lem at.0 at.1 in
      (at.0, at.1, omega (arith, o.1), omega (arith, o.2))

  filled_free : DamageFree M v filled
  unfolding copy_all
  filled_free = record {
    delimited = represents_delimited M filled.a filled.b sizes held.represents;
    aligned = λ i f.
        let some = first_size M filled.a filled.b sizes held.represents i f in
        ap (λ (n : ℕ). i % 2 ^ exponent n) (extent M filled.a filled.b sizes held.represents i some) ∙ held.aligned i some;
    free_cells = λ j l z. held.cell_none j z;
    cell_refs_lem = λ j l. elim (bit_cases filled.a (j / 4)) [
      | inl z ↦
          ref_test M filled.a filled.b (reference M filled j)
          (inl (read_free M filled.a filled.b filled.d filled.cells j z ∙ held.cell_none j z))
      | inr u ↦ used_cell j (owner (j / 4) u)
    ];
    root_refs = λ r l. subst (λ (x : ℕ). is_ref M filled x ≡ true) (sym (filled_image.root_at r)) (new_ref (get_or h.roots r 0) (root_led N h named r));
    no_count = λ i l f. held.count_none i l (not_first_size M filled.a filled.b sizes held.represents i f);
    some_count = λ i f z.
        let at = held.only i (first_size M filled.a filled.b sizes held.represents i f) in
        omega (arith, capacity_positive v shape.width_min, stuck i at, z);
    counted = λ i f. inl (stuck i (held.only i (first_size M filled.a filled.b sizes held.represents i f)));
    data_first = λ i l f. held.kind_none i (not_first_size M filled.a filled.b sizes held.represents i f);
  }
    where
      stuck : (i : ℕ) → (k : ℕ) × (k < length met) × (i ≡ get_or places k 0) → count_of M v filled i ≡ capacity v
      stuck i (k, l, e) = ap (count_of M v filled) e ∙ held.counted_at k l

      used_cell :
          (j : ℕ) → (k : ℕ) × (k < length met) × (get_or places k 0 ≤ j / 4) × (j / 4 < get_or places k 0 + size_of N h met k)
          → is_ref M filled (reference M filled j) ≡ true
      used_cell j (k, l, low, high) =
          let c : ℕ = j - 4 * get_or places k 0 in
          let place : j ≡ 4 * get_or places k 0 + c = omega arith in
          let inside : c < 4 * size_of N h met k = omega arith in
          let o = source N h named places k l in
          let held-there = reference_at N h named places M sizes filled filled_image k c l inside in
          subst (λ (x : ℕ). is_ref M filled x ≡ true) (sym (ap (reference M filled) place ∙ held-there))
          (new_ref (reference N h (4 * block_at met (suc k) + c))
          (cell_led N h named (subst (Leads N h) (sym o.is) o.led) c inside))

  pub filled_healthy : Healthy M v filled
  filled_healthy = undamaged_healthy M v filled filled_shaped filled_free

  -- ---- all of it is reached

  first_led : (b : ℕ) → is_first M filled b ≡ true → Leads M filled b
  first_led b f = all_led N h named places M sizes filled filled_image b (size_at M filled b) (record { first = f; size = refl })

  abbrev pub second_counts : List ℕ
  second_counts = recounted M v filled (reached M filled) filled.counts M

  collected_is : collected M v filled ≡ with_counts second_counts filled
  unfolding collected
  collected_is =
      ap (λ (g : Memory). with_counts (recounted M v filled (reached M filled) g.counts M) g)
      (swept_none M v filled first_led M)

  -- the second heap after the call
  abbrev second : Memory
  second = settled M (with_counts second_counts filled)

  copied_is : copied N h M v ≡ collected M v filled
  unfolding copied places_in
  copied_is = ap (λ (p : List ℕ). collected M v (copy_all N h met p M v)) (ap places_in Laid-by)

  pub second_is : settled M (copied N h M v) ≡ second
  second_is = ap (settled M) (copied_is ∙ collected_is)

  abbrev second_image : Image N h places M sizes second
  second_image = image second_counts (replicate M 0) (figures M filled.a)

  -- ---- fit

  served : Healthy M v (settled M (collected M v filled)) × ExactCollection M v filled (settled M (collected M v filled))
  served = (collected_healthy M v filled filled_healthy, collected_exact M v filled filled_healthy)

  -- whatever its counts, no collection is open
  none_open : (counts : List ℕ) → let g = settled M (with_counts counts filled) in with_none M g ≡ g
  unfolding copy_all formatted with_none
  none_open counts = λ i. with_marks (sym lists.2 i) (with_list (sym lists.3 i) (settled M (with_counts counts filled)))

  tidy : (counts : List ℕ) → is_untidy M (settled M (with_counts counts filled)) ≡ false
  tidy counts = subst (λ (g : Memory). is_untidy M g ≡ false) (none_open counts) (closed_passes M (settled M (with_counts counts filled)))

  shut : (counts : List ℕ) → is_open M (settled M (with_counts counts filled)) ≡ false
  shut counts = ap (is_open M) (sym (none_open counts)) ∙ none_after M (settled M (with_counts counts filled))

  pub second_fit : Fit M v second
  second_fit = record {
    healthy = subst (λ (g : Memory). Healthy M v (settled M g)) collected_is served.0;
    listed = refl;
    tidy = tidy second_counts;
  }

  pub second_shut : is_open M second ≡ false
  second_shut = shut second_counts

  -- ---- exact

  led : (b n : ℕ) → Object M second b n → Leads M second b
  led = all_led N h named places M sizes second second_image

  counted : (b : ℕ) → is_first M second b ≡ true → count_of M v second b ≡ min (capacity v) (number_of_references M second b)
  unfolding references_from cell_of_chosen is_cell_of
  counted b f =
      let exact = subst (λ (g : Memory). ExactCollection M v filled (settled M g)) collected_is served.1 in
      exact.counted b f ∙ ap (min (capacity v)) (all_references M filled first_led exact.led exact.led_is b)

  -- a collection finds nothing to do
  collected_already : answer M v second collect ≡ (reply 0 0 0, second)
  unfolding outcome freeing Passed
  collected_already =
      let same = collected_same M v second (λ b f. led b _ (record { first = f; size = refl })) counted in
      fit_accepted M v second second_fit collect refl second_shut
      ∙ ap {B = Answer} (λ (g : Memory). (reply 0 (zeros g.a - zeros second.a) 0, settled M g)) same
      ∙ ap {B = Answer} (λ (n : ℕ). (reply 0 n 0, second)) (sub_self (zeros second.a))

  module _ (w : ℕ) (intact : Intact N w h) where
    pub second_exact : ExactCopy N h M v second
    unfolding copy_all
    second_exact =
        let pairs = paired N h named places M sizes second second_image in
        let goes_to : (i : ℕ) → i < length met → listed places i ≡ pairs.to (block_at met (suc i)) =
        λ i l. sym (paired_at N h named places M sizes second second_image i l) in
        let undamaged = fit_undamaged M v second second_fit in
        record {
          one_shape = (equal_shape N w h intact M v second undamaged.intact).1 pairs;
          paired = pairs;
          all_led = led;
          in_turn_lem = turns_same M (size_of N h met) (listed places) _ (length met) goes_to (laid_turns M (size_of N h met) (length met) s out);
          map_is =
              copy_map N h met places M v shape.whole_bytes (length met)
              ∙ map_same M (size_of N h met) (listed places) _ (length met) goes_to;
          counted = counted;
          collected_already = collected_already;
          sound = healthy_sound M v second second_fit.healthy refl;
          undamaged = undamaged;
          shut = second_shut;
          waiting_clear = refl;
        }

  -- ---- for code: the collection at the end

  -- the filled heap with a true list of sections is usable, with none open ..
  pub filled_usable : Usable M v (settled M filled)
  filled_usable = record {
    undamaged =
        fit_undamaged M v (settled M filled)
        (record { healthy = settled_healthy M v filled filled_healthy; listed = refl; tidy = tidy filled.counts });
    idle = refl;
  }

  pub filled_shut : is_open M (settled M filled) ≡ false
  filled_shut = shut filled.counts

  -- .. and what the collection leaves of it is the second heap
  pub filled_collected : settled M (collected M v (settled M filled)) ≡ settled M (copied N h M v)
  filled_collected =
      ap (settled M) (collect_beside M v (λ g. with_sections (figures M filled.a) (with_waiting (replicate M 0) g)) filled)
      ∙ ap (settled M) (sym copied_is)
