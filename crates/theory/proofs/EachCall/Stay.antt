-- Request U6: an object that stands before a call and after it stays data, or ordinary, and the numbers in its cells stay, but for the one that
-- a number write writes.
use mathlib.Core.Path.{◌≡◌, refl, sym, ap, ◌∙◌, subst}
use mathlib.Core.Logic.{◌≢◌, inl, inr}
use mathlib.Core.Bool.{Bool, true, false, true≢false}
use mathlib.Core.List.{List}
use mathlib.Core.Option.{some}
use Prim.Native.Nat.{ℕ, ◌+◌, ◌*◌, ◌≤◌, ◌<◌}
use native.Mathlib.Decide.{ℕ_discrete, dec_lt}
use native.Mathlib.Omega.{arith}
use lib.Dec.{eqb}
use lib.ListN.{length, get_or, set}
use lib.Seq.{get_or-set_other}
use Rattle.bitmap.specs.Bit.{bit_at, one}
use Rattle.bitmap.proofs.Maps.{bit_set_other}
use Rattle.rules.specs.Heap.{Memory, with_counts, with_cells, with_roots, capacity, is_first, size_at, exponent, lowest_free, is_ref, is_data}
use Rattle.rules_stores.specs.Store.{count_up, let_go, put_root, put_cell, change_root, change_cell, placed, allocate_in}
use Rattle.rules_stores.proofs.Plain.{store_root_in, store_cell_in, return_in}
use Rattle.rules_stores.specs.Collection.{marked, collected}
use Rattle.rules_steps.specs.Steps.{with_none, with_progress, opened, Progress, progress_of, steps_from, closed, closes, stepped}
use Rattle.rules_calls.specs.Calls.{Call, format, check, collect, free_blocks, allocate, store_root, store_cell, look, return_roots, open_collection, take_steps}
use Rattle.rules_calls.specs.Calls.{allocate_data, write_number, read_number, write_reason, write_shape, settled, freeing, outcome, answer}
use Rattle.rules_calls.specs.Calls.{copy_from, copy_into}
use Rattle.rules_calls.proofs.Replies.{answer_either, Passed, passed}
use Rattle.theory_memories.specs.Words.{Object}
use Rattle.theory.specs.CallWords.{copied_over}
use Rattle.theory.specs.Data.{StaysSo}
use Rattle.theory_memories.proofs.Maps.Extents.{Represents}
use Rattle.theory_memories.proofs.Maps.Moves.{clear_of}
use Rattle.theory_memories.proofs.Maps.LowestChunk.{Room, room}
use Rattle.theory_graphs.proofs.Graphs.Graph as graph
use Rattle.theory_graphs.proofs.Graphs.Graph.{Graph}
use Rattle.theory_graphs.proofs.Graphs.Stretch.{Outside}
use Rattle.theory_graphs.proofs.Graphs.Tidy.{Tidy}
use Rattle.theory_memories.proofs.Memories.Reading.{one_lt, cleared_out}
use Rattle.theory_memories.proofs.Memories.Keeping.{sizes_in, Kept}
use Rattle.theory_memories.proofs.Memories.View.{view}
use Rattle.theory_memories.proofs.Memories.Healthy.{Healthy}
use Rattle.theory_memories.proofs.Memories.Fit.{Fit}
use Rattle.theory_memories.proofs.Memories.Formatted.{no_object}
use Rattle.theory_memories.proofs.Memories.Leads.{object_size}
use Rattle.theory_memories.proofs.Memories.Stores.{memory_left, LetsGo, store_root_lem, store_cell_lem, allocate_root}
use Rattle.theory_memories.proofs.Memories.SameView.{Rewrites}
use Rattle.theory_memories.proofs.Memories.Orders.{release_rewrites}
use Rattle.theory_memories.proofs.Memories.ViewCollection.{collect_swept, collected_shows}
use Rattle.theory_memories.proofs.Memories.ViewClose.{close_shows, close_keeps}
use Rattle.theory_memories.proofs.Memories.Scanning.{steps_from_open, list_empty}
use Rattle.theory.proofs.EachCall.Clearing.{returned}
use Rattle.theory.proofs.EachCall.Shading.{Shading, Sized, shape_sized, store_root_shading_lem, store_cell_shading_lem, allocate_shading_lem, return_shading_lem}

-- what letting go leaves
pub let_go_rewrites : (N w r : ℕ) (g : Memory) (v : ℕ) {k : Graph} → LetsGo N w r g v k → Rewrites N (memory_left N w g v) (let_go N w g v)
unfolding let_go
let_go_rewrites N w r g v lets_go = (release_rewrites N w _ _ lets_go.releasing).0

module _ (N w : ℕ) (h : Memory) (healthy : Healthy N w h) where
  abbrev Stay : Call → Memory → Type 0
  Stay call g = (b n : ℕ) → Object N h b n → Object N g b n → StaysSo h g call b n

  -- D-map and cells are as they were
  stay_same : (call : Call) (g : Memory) → g.d ≡ h.d → g.cells ≡ h.cells → Stay call g
  stay_same call g kinds cells b n was is =
      record {
        same_kind = ap (λ (d : List ℕ). is_data d b) kinds;
        same_numbers = λ made j l other. ap (λ (c : List ℕ). get_or c (4 * b + j) 0) cells;
      }

  -- k is written, and what stands in g is as it was in k
  stay_through :
      (call : Call) (k g : Memory) → Represents N g.a g.b (sizes_in N g)
      → ((x : ℕ) → get_or (sizes_in N g) x 0 ≢ 0 → Kept N k g x)
      → ((b n : ℕ) → Object N h b n → bit_at k.d b ≡ bit_at h.d b)
      → ((b n : ℕ) → Object N h b n → is_data h.d b ≡ true → (j : ℕ) → j < 4 * n
      → get_or k.cells (4 * b + j) 0 ≡ get_or h.cells (4 * b + j) 0)
      → Stay call g
  stay_through call k g represents keeps kinds numbers b n was is =
      let size = object_size N g (sizes_in N g) represents b n is in
      let kept = keeps b (λ z. size.1 (sym size.0 ∙ z)) in
      record {
        same_kind = ap (λ (v : ℕ). eqb v 1) (kept.kind ∙ kinds b n was);
        same_numbers = λ made j l other.
            kept.cells (4 * b + j) (omega arith, omega (arith, size.0, kept.size)) ∙ numbers b n was made j l;
      }

  stay_settled : (call : Call) (g : Memory) → Stay call g → Stay call (settled N g)
  stay_settled call g stay b n was is =
      let so = stay b n was (record { first = is.first; size = is.size }) in
      record { same_kind = so.same_kind; same_numbers = so.same_numbers }

  -- the marks and the second list have no part in it (request U8)
  stay_shading : (call : Call) (g g' : Memory) → Shading N g g' → Stay call (settled N g) → Stay call (settled N g')
  stay_shading call g g' s stay =
      subst (λ (k : Memory). Stay call (settled N k)) (sym s.is)
      (λ b n was is.
      let so = stay b n was (record { first = is.first; size = is.size }) in
      record { same_kind = so.same_kind; same_numbers = so.same_numbers })

  -- where two objects stand, their cells are apart
  cells_apart : (a m b n j k : ℕ) → Object N h a m → Object N h b n → a ≢ b → j < 4 * m → k < 4 * n → 4 * b + k ≢ 4 * a + j
  cells_apart a m b n j k one two other l u e =
      let in_one = object_size N h (sizes_in N h) healthy.represents a m one in
      let in_two = object_size N h (sizes_in N h) healthy.represents b n two in
      elim (dec_lt a b) [
        | yes v ↦
            omega (
              arith,
              healthy.represents.apart a b v (λ z. in_one.1 (sym in_one.0 ∙ z)) (λ z. in_two.1 (sym in_two.0 ∙ z)),
              in_one.0,
            )
        | no v ↦
            omega (
              arith,
              healthy.represents.apart b a (omega arith) (λ z. in_two.1 (sym in_two.0 ∙ z)) (λ z. in_one.1 (sym in_one.0 ∙ z)),
              in_two.0,
            )
      ]

  -- ---- the stores

  store_root_stays : (r v : ℕ) → r < length h.roots → is_ref N h v ≡ true → Stay (store_root r v) (settled N (store_root_in N w h r v))
  unfolding store_root_in change_root put_root
  store_root_stays r v l ref = stay_settled (store_root r v) (store_root_in N w h r v) (go (eqb (get_or h.roots r 0) v))
    where
      written : Memory
      written = with_roots (set h.roots r v) (with_counts (count_up N w h.counts v) h)

      lets_go :
          LetsGo N w (length h.roots) written (get_or h.roots r 0) (graph.store (capacity w) (length h.roots) (view N w h) r v)
      lets_go = store_root_lem N w h healthy v ref r l

      go : (t : Bool) → Stay (store_root r v) (elim t [ true ↦ h | false ↦ change_root N w h r v ])
      go true = stay_same (store_root r v) h refl refl
      go false =
          stay_through (store_root r v) (memory_left N w written (get_or h.roots r 0)) (change_root N w h r v) lets_go.shows.represents
          (let_go_rewrites N w (length h.roots) written (get_or h.roots r 0) lets_go).keeps
          (λ b n was. refl) (λ b n was made j u. refl)

  store_cell_stays :
      (a i v : ℕ) → is_first N h a ≡ true → i < 4 * size_at N h a → is_data h.d a ≡ false → is_ref N h v ≡ true
      → Stay (store_cell a i v) (settled N (store_cell_in N w h (4 * a + i) v))
  unfolding store_cell_in change_cell put_cell
  store_cell_stays a i v first l ordinary ref =
      stay_settled (store_cell a i v) (store_cell_in N w h (4 * a + i) v) (go (eqb (get_or h.cells (4 * a + i) 0) v))
    where
      written : Memory
      written = with_cells (set h.cells (4 * a + i) v) (with_counts (count_up N w h.counts v) h)

      old : ℕ
      old = get_or h.cells (4 * a + i) 0

      lets_go :
          LetsGo N w (length h.roots) written old
          (graph.store (capacity w) (length h.roots) (view N w h) (length h.roots + (4 * a + i)) v)
      lets_go = store_cell_lem N w h healthy v ref a i first l ordinary

      -- data is another object
      numbers : (b n : ℕ) → Object N h b n → is_data h.d b ≡ true → (j : ℕ) → j < 4 * n
          → get_or (set h.cells (4 * a + i) v) (4 * b + j) 0 ≡ get_or h.cells (4 * b + j) 0
      numbers b n was made j u =
          get_or-set_other h.cells (4 * a + i) (4 * b + j) v 0
          (cells_apart a (size_at N h a) b n i j (record { first = first; size = refl }) was
          (λ q. true≢false (sym made ∙ ap (is_data h.d) (sym q) ∙ ordinary)) l u)

      go : (t : Bool) → Stay (store_cell a i v) (elim t [ true ↦ h | false ↦ change_cell N w h (4 * a + i) v ])
      go true = stay_same (store_cell a i v) h refl refl
      go false =
          stay_through (store_cell a i v) (memory_left N w written old) (change_cell N w h (4 * a + i) v) lets_go.shows.represents
          (let_go_rewrites N w (length h.roots) written old lets_go).keeps
          (λ b n was. refl) numbers

  -- a number written
  number_stays :
      (a i x : ℕ) → is_first N h a ≡ true → i < 4 * size_at N h a → Stay (write_number a i x) (with_cells (set h.cells (4 * a + i) x) h)
  number_stays a i x first l b n was is =
      record {
        same_kind = refl;
        same_numbers = λ made j u others.
            get_or-set_other h.cells (4 * a + i) (4 * b + j) x 0
            (elim (ℕ_discrete a b) [
              | yes q ↦
                  (λ e.
                  let same : i ≡ j = omega arith in
                  others x (ap (λ (k : ℕ). write_number k i x) q ∙ ap (λ (k : ℕ). write_number b k x) same))
              | no q ↦ cells_apart a (size_at N h a) b n i j (record { first = first; size = refl }) was q l u
            ]);
      }

  -- ---- the allocation

  allocate_stays :
      (asData : Bool) (call : Call) (n r i : ℕ) → 1 ≤ n → r < length h.roots → lowest_free N (exponent n) h.a ≡ some i
      → Stay call (settled N (allocate_in N w asData h n r i))
  unfolding allocate_in put_root placed
  allocate_stays asData call n r i some_blocks l found =
      stay_settled call (allocate_in N w asData h n r i)
      (stay_through call (memory_left N w written (get_or h.roots r 0)) (allocate_in N w asData h n r i) lets_go.shows.represents
      (let_go_rewrites N w (length h.roots) written (get_or h.roots r 0) lets_go).keeps
      (λ b m was. bit_set_other h.d i (one asData) b (other b m was) (one_lt asData))
      (λ b m was made j u. cleared_out h.cells (4 * i) (4 * n) (4 * b + j) (outside b m was j u)))
    where
      space : Room N h.a n i
      space = room N h.a n i found

      written : Memory
      written = with_roots (set h.roots r (i + 1)) (placed N w asData h i n)

      lets_go :
          LetsGo N w (length h.roots) written (get_or h.roots r 0) (graph.allocate (capacity w) (length h.roots) (view N w h) i n r)
      lets_go = allocate_root N w h healthy n i (omega arith) space asData r l

      -- an object that stood lies beside the new one
      outside : (b m : ℕ) → Object N h b m → (j : ℕ) → j < 4 * m → Outside (4 * i) (4 * n) (4 * b + j)
      outside b m was j u =
          let size = object_size N h (sizes_in N h) healthy.represents b m was in
          elim (clear_of N h.a h.b (sizes_in N h) healthy.represents i n (omega arith) space.free b (λ z. size.1 (sym size.0 ∙ z))) [
            | inl v ↦ inl (omega (arith, size.0))
            | inr v ↦ inr (omega (arith, size.0))
          ]

      other : (b m : ℕ) → Object N h b m → b ≢ i
      other b m was q =
          let size = object_size N h (sizes_in N h) healthy.represents b m was in
          elim (outside b m was 0 (omega (arith, size.1))) [ inl v ↦ omega arith | inr v ↦ omega arith ]

  -- ---- the return and the collection

  return_stays : (chosen : ℕ) → Stay (return_roots chosen) (settled N (return_in N w h chosen (length h.roots)))
  return_stays chosen =
      let end : Memory = return_in N w h chosen (length h.roots) in
      let cleared = returned N w h healthy chosen (length h.roots) (omega arith) in
      stay_settled (return_roots chosen) end
      (stay_through (return_roots chosen) h end cleared.healthy.represents cleared.rewrites.keeps
      (λ b n was. refl) (λ b n was made j l. refl))

  collect_stays : Stay collect (settled N (collected N w h))
  unfolding collected
  collect_stays =
      stay_settled collect (collected N w h)
      (stay_through collect h (collected N w h) (collected_shows N w h healthy).represents
      (λ x stands. let kept = (collect_swept N w h healthy).keeps x stands in record { size = kept.size; kind = kept.kind; cells = kept.cells })
      (λ b n was. refl) (λ b n was made j l. refl))

  -- ---- steps and the close (request U8)

  open_stays : Stay open_collection (opened N h)
  unfolding opened with_progress
  open_stays = stay_same open_collection (opened N h) refl refl

  steps_stay : (budget : ℕ) (p : Progress)
      → (closes budget p ≡ true → Tidy (length h.roots) (view N w h) (marked p.marks) (λ b. false))
      → Stay (take_steps budget) (settled N (stepped N w h budget p))
  unfolding stepped closed with_none with_progress
  steps_stay budget p tidy = stay_settled (take_steps budget) (stepped N w h budget p) (go (closes budget p) refl)
    where
      go : (t : Bool) → closes budget p ≡ t
          → Stay (take_steps budget)
          (elim t [ true ↦ closed N w p.marks h | false ↦ with_progress N (marked p.marks) (marked p.list) h ])
      go true e =
          stay_through (take_steps budget) h (closed N w p.marks h) (close_shows N w h healthy p.marks (tidy e)).represents
          (λ x stands.
          let kept = close_keeps N w h healthy p.marks (tidy e) x stands in
          record { size = kept.size; kind = kept.kind; cells = kept.cells })
          (λ b n was. refl) (λ b n was made j l. refl)
      go false e =
          stay_same (take_steps budget) (with_progress N (marked p.marks) (marked p.list) h) refl refl

-- ---- every call

module _ (N w : ℕ) (h : Memory) (fit : Fit N w h) where
  sized : Sized N h
  sized = shape_sized N w h fit.healthy.shape

  -- a copy into the heap is not asked
  outcome_stays : (c : Call) → Passed N h c → copied_over c (outcome N w h c).0 ≡ false → Stay N w h fit.healthy c (outcome N w h c).1
  unfolding outcome freeing Passed
  outcome_stays format p living = λ b n was is. absurd (no_object N w h fit.healthy.shape b is.first)
  outcome_stays check p living = stay_same N w h fit.healthy check h refl refl
  outcome_stays collect p living = collect_stays N w h fit.healthy
  outcome_stays free_blocks p living = stay_same N w h fit.healthy free_blocks h refl refl
  outcome_stays (allocate n r) (low, high, place, found) living =
      stay_shading N w h fit.healthy (allocate n r) _ _ (allocate_shading_lem N w h sized false n r _)
      (allocate_stays N w h fit.healthy false (allocate n r) n r _ low place found)
  outcome_stays (store_root r v) (place, ref) living =
      stay_shading N w h fit.healthy (store_root r v) _ _ (store_root_shading_lem N w h sized r v)
      (store_root_stays N w h fit.healthy r v place ref)
  outcome_stays (store_cell a j v) (first, place, ordinary, ref) living =
      stay_shading N w h fit.healthy (store_cell a j v) _ _ (store_cell_shading_lem N w h sized a j v)
      (store_cell_stays N w h fit.healthy a j v first place ordinary ref)
  outcome_stays (look a) p living = stay_same N w h fit.healthy (look a) h refl refl
  outcome_stays (return_roots chosen) p living =
      stay_shading N w h fit.healthy (return_roots chosen) _ _ (return_shading_lem N w h sized chosen (length h.roots))
      (return_stays N w h fit.healthy chosen)
  outcome_stays (allocate_data n r) (low, high, place, found) living =
      stay_shading N w h fit.healthy (allocate_data n r) _ _ (allocate_shading_lem N w h sized true n r _)
      (allocate_stays N w h fit.healthy true (allocate_data n r) n r _ low place found)
  outcome_stays (write_number a j x) (first, place, made) living = number_stays N w h fit.healthy a j x first place
  outcome_stays (read_number a j) p living = stay_same N w h fit.healthy (read_number a j) h refl refl
  outcome_stays (write_reason a room) p living = stay_same N w h fit.healthy (write_reason a room) h refl refl
  outcome_stays (write_shape room) p living = stay_same N w h fit.healthy (write_shape room) h refl refl
  outcome_stays (copy_from K u first) p living = absurd (true≢false living)
  outcome_stays (copy_into M v second) p living = stay_same N w h fit.healthy (copy_into M v second) h refl refl
  outcome_stays open_collection p living = open_stays N w h fit.healthy
  outcome_stays (take_steps budget) was_open living =
      let reached : Progress = (steps_from budget N h (progress_of N h)).reached in
      steps_stay N w h fit.healthy budget reached
      (list_empty N w h fit.healthy was_open fit.tidy budget reached (steps_from_open N w h fit.healthy was_open fit.tidy budget).tidy)

pub answer_stays :
    (N w : ℕ) (h : Memory) → Fit N w h → (c : Call) (b n : ℕ) → let x = answer N w h c in
    copied_over c x.0 ≡ false → Object N h b n → Object N x.1 b n → StaysSo h x.1 c b n
answer_stays N w h fit c b n living =
    answer_either N w h c
    (λ x. copied_over c x.0 ≡ false → (b n : ℕ) → Object N h b n → Object N x.1 b n → StaysSo h x.1 c b n)
    (λ number nonzero living. stay_same N w h fit.healthy c h refl refl)
    (λ e. outcome_stays N w h fit c (passed N w h c e)) living b n
