-- Request U8's second and third claim, over a list of calls as made: what is doomed at an opening is gone at
-- the close, and the steps are no more than the objects.
use mathlib.Core.Path.{◌≡◌, refl, sym, ap, ◌∙◌, subst}
use mathlib.Core.Logic.{◌≢◌, ◌⊎◌, inl, inr}
use mathlib.Core.Bool.{Bool, true, false, true≢false, false≢true}
use mathlib.Core.List.{List, [], ◌∷◌, ◌++◌}
use mathlib.Core.Option.{some}
use Prim.Native.Nat.{ℕ, suc, ◌+◌, ◌-◌, ◌*◌, ◌≤◌, ◌<◌}
use native.Mathlib.Decide.{ℕ_discrete}
use native.Mathlib.Omega.{arith}
use lib.ListN.{length, get_or, set, length-set}
use lib.Seq.{set-append_left}
use borrow.Author.Tests.{ne_eqb}
use Rattle.bitmap.specs.Bit.{count_below}
use Rattle.rules.specs.Heap.{Memory, with_cells, with_roots, with_waiting, is_first, size_at, is_ref, is_data, reference, exponent, lowest_free}
use Rattle.rules_stores.specs.Store.{formatted, placed}
use Rattle.rules_stores.specs.Collection.{marked}
use Rattle.rules_steps.specs.Steps.{is_open, is_marked, is_listed, with_none, with_progress, root_names, opened, Progress, progress_of, steps_from}
use Rattle.rules_steps.specs.Steps.{unmarked_freed, closed, closes, stepped, store_root_shading, store_cell_shading, allocate_shading, return_shading}
use Rattle.rules_calls.specs.Calls.{Call, format, check, collect, free_blocks, allocate, store_root, store_cell, look, return_roots, open_collection, take_steps}
use Rattle.rules_calls.specs.Calls.{allocate_data, write_number, read_number, write_reason, write_shape, Answer, reply, settled, freeing, outcome, answer, last_memory}
use Rattle.rules_calls.specs.Calls.{copy_from, copy_into}
use Rattle.rules_calls.specs.Promise.{Promise}
use Rattle.types.specs.declared.Reply.{Reply}
use Rattle.rules_calls.proofs.Replies.{answer_either, accepted_outcome, Passed, passed}
use Rattle.theory_memories.specs.Words.{Object, Leads}
use Rattle.theory.specs.CallWords.{roots_without, written, Made, left_by}
use Rattle.theory.specs.Steps.{LeadsFrom, Party, Touched, Untouched, until_closed, steps_of, steps_in, Closes, Collecting}
use Rattle.theory.specs.Demand.{Finds, Chain}
use Rattle.theory_memories.proofs.Maps.Extents.{Represents, sizes_of}
use Rattle.theory_memories.proofs.Maps.LowestChunk.{room}
use Rattle.theory_graphs.proofs.Graphs.Graph.{Graph, size, slot, first_slot, Owns}
use Rattle.theory_graphs.proofs.Graphs.Tidy.{Tidy}
use Rattle.theory_graphs.proofs.Graphs.Apart.{To, self, link, Apart, apart_opened}
use Rattle.theory_graphs.proofs.Graphs.Pale.{is_pale, count_le, pale_facts}
use Rattle.theory_graphs.proofs.Graphs.Scan.{apart_same, pale_same}
use Rattle.theory_graphs.proofs.Graphs.Stored.{to_sized}
use Rattle.theory_memories.proofs.Memories.View.{cell_refs, slots_in, view}
use Rattle.theory_memories.proofs.Memories.Slots.{root_slot, cell_slot, cell_within}
use Rattle.theory_memories.proofs.Memories.Fit.{Fit}
use Rattle.theory_memories.proofs.Memories.Leads.{size_object}
use Rattle.theory_memories.proofs.Memories.TidyHeap.{first_some, some_first, open_after, marked_after, listed_after, none_after}
use Rattle.theory_memories.proofs.Memories.Shades.{Among}
use Rattle.theory_memories.proofs.Memories.Events.{among_none, among_cases, allocate_slots, allocate_placed}
use Rattle.theory_memories.proofs.Memories.Scanning.{Stepped, steps_from_open, list_empty, marked_progress, listed_progress, opened_tidy, opened_names}
use Rattle.theory_memories.proofs.Memories.Stores.{placed_shows}
use Rattle.theory_memories.proofs.Memories.ViewClose.{close_shows, close_stands}
use Rattle.theory.proofs.EachCall.Open.{pale_in, ApartIn, Open, Goes, to_grows, root_goes, cell_goes, allocate_goes, return_goes}
use Rattle.theory.proofs.EachCall.Served.{number_view}
use Rattle.theory.proofs.EachCall.ReturnsServed.{length_without}
use Rattle.theory.proofs.Calls.{finds_fit, promised, stays_fit}
use Rattle.theory_copies.proofs.Copies.Accepted.{copy_shut}

-- ---- what leads to the object at b, in the words and in the graph

module _ (N w : ℕ) (k : Memory) (represents : Represents N k.a k.b (sizes_of N k.a k.b)) (b : ℕ) (stood : size (view N w k) b ≢ 0) where
  abbrev R : ℕ
  R = length k.roots

  place_of : (c d s : ℕ) → Owns R (view N w k).sizes c s → slot (view N w k) s ≡ suc d
      → (j : ℕ) × (j < 4 * size (view N w k) c) × (reference N k (4 * c + j) ≡ 1 + d)
  place_of c d s own e =
      let j : ℕ = s - first_slot R c in
      let at : length k.roots + (4 * c + j) ≡ s = omega (arith, own) in
      let here : slot (view N w k) (length k.roots + (4 * c + j)) ≡ suc d = ap (λ (i : ℕ). slot (view N w k) i) at ∙ e in
      let within = cell_within N k (4 * c + j) (λ z. omega (arith, here)) in
      (j, omega (arith, own), omega (arith, cell_slot N k (4 * c + j) within, here))

  pub to_leads : {a c : ℕ} → LeadsFrom N k a c → To R (view N w k).sizes (view N w k).slots b c → LeadsFrom N k a b
  to_leads from self = from
  to_leads {a} {c} from (link d s own e rest) =
      let place = place_of c d s own e in
      to_leads
      (LeadsFrom.cell d (size (view N w k) d) c (size (view N w k) c) place.0
      (size_object N k (view N w k).sizes represents d (to_sized stood rest)) from
      (size_object N k (view N w k).sizes represents c (omega (arith, own))) place.1 place.2)
      rest

  pub to_led : {c : ℕ} → Leads N k c → To R (view N w k).sizes (view N w k).slots b c → Leads N k b
  to_led from self = from
  to_led {c} from (link d s own e rest) =
      let place = place_of c d s own e in
      to_led
      (Leads.cell d (size (view N w k) d) c (size (view N w k) c) place.0
      (size_object N k (view N w k).sizes represents d (to_sized stood rest)) from
      (size_object N k (view N w k).sizes represents c (omega (arith, own))) place.1 place.2)
      rest

-- ---- one call, on a heap with a collection open

abbrev made : Call → Memory → Reply → Memory → Made
made c h x g = record { call = c; before = h; reply = x; after = g }

record During (N w : ℕ) (m : Made) : Type 0 where
  bounded : steps_of m.call m.reply ≤ pale_in N w m.before
  fewer : is_open N m.after ≡ true → steps_of m.call m.reply + pale_in N w m.after ≤ pale_in N w m.before
  apart :
      is_open N m.after ≡ true → (b : ℕ) → ¬ Touched N m b → size (view N w m.before) b ≢ 0 → size (view N w m.after) b ≢ 0
      → ApartIn N w m.before b → ApartIn N w m.after b
  stays : is_open N m.after ≡ true → (b : ℕ) → ¬ Touched N m b → size (view N w m.before) b ≢ 0 → size (view N w m.after) b ≢ 0
  gone :
      (budget : ℕ) → m.call ≡ take_steps budget → m.reply.number ≡ 0 → is_open N m.after ≡ false → (b : ℕ) → ApartIn N w m.before b
      → size (view N w m.after) b ≡ 0

-- a call that takes steps
abbrev stepping : Call → Bool
stepping (take_steps budget) = true
stepping format = false
stepping check = false
stepping collect = false
stepping free_blocks = false
stepping open_collection = false
stepping (allocate n r) = false
stepping (store_root r v) = false
stepping (store_cell a j v) = false
stepping (look a) = false
stepping (return_roots chosen) = false
stepping (allocate_data m r) = false
stepping (write_number a j v) = false
stepping (read_number a j) = false
stepping (write_reason a room) = false
stepping (write_shape room) = false
stepping (copy_from K u first) = false
stepping (copy_into M v second) = false

no_steps : (c : Call) (x : Reply) → stepping c ≡ false → steps_of c x ≡ 0
unfolding steps_of
no_steps (take_steps budget) x e = absurd (true≢false e)
no_steps format x e = refl
no_steps check x e = refl
no_steps collect x e = refl
no_steps free_blocks x e = refl
no_steps open_collection x e = refl
no_steps (allocate n r) x e = refl
no_steps (store_root r v) x e = refl
no_steps (store_cell a j v) x e = refl
no_steps (look a) x e = refl
no_steps (return_roots chosen) x e = refl
no_steps (allocate_data m r) x e = refl
no_steps (write_number a j v) x e = refl
no_steps (read_number a j) x e = refl
no_steps (write_reason a room) x e = refl
no_steps (write_shape room) x e = refl
no_steps (copy_from K u first) x e = refl
no_steps (copy_into M v second) x e = refl

refused_steps : (c : Call) (x : Reply) → x.number ≢ 0 → steps_of c x ≡ 0
unfolding steps_of
refused_steps (take_steps budget) x n = rw (ne_eqb x.number 0 n, steps_of)
refused_steps format x n = refl
refused_steps check x n = refl
refused_steps collect x n = refl
refused_steps free_blocks x n = refl
refused_steps open_collection x n = refl
refused_steps (allocate n r) x e = refl
refused_steps (store_root r v) x n = refl
refused_steps (store_cell a j v) x n = refl
refused_steps (look a) x n = refl
refused_steps (return_roots chosen) x n = refl
refused_steps (allocate_data m r) x n = refl
refused_steps (write_number a j v) x n = refl
refused_steps (read_number a j) x n = refl
refused_steps (write_reason a room) x n = refl
refused_steps (write_shape room) x n = refl
refused_steps (copy_from K u first) x n = refl
refused_steps (copy_into M v second) x n = refl

not_stepping : {A : Type 0} (c : Call) (budget : ℕ) → stepping c ≡ false → c ≡ take_steps budget → A
not_stepping c budget none is = absurd (false≢true (sym none ∙ ap stepping is))

module _ (N w : ℕ) (h : Memory) (before : Open N w h) (fit : Fit N w h) where
  -- the memory is kept, and no step taken
  same_during : (c : Call) (x : Reply) → steps_of c x ≡ 0 → (x.number ≡ 0 → stepping c ≡ false) → During N w (made c h x h)
  same_during c x none other =
      record {
        bounded = omega (arith, none);
        fewer = λ e. omega (arith, none);
        apart = λ e b u was is a. a;
        stays = λ e b u was. was;
        gone = λ budget is accepted shut b a. not_stepping c budget (other accepted) is;
      }

  -- a call that stores
  goes_during :
      (c : Call) (x : Reply) (Unled : ℕ → Type 0) (g : Memory) → stepping c ≡ false → Goes N w h Unled g
      → ((b : ℕ) → size (view N w h) b ≢ 0 → ¬ Touched N (made c h x (settled N g)) b → Unled b) → During N w (made c h x (settled N g))
  unfolding is_listed
  goes_during c x Unled g other goes unled =
      let none = no_steps c x other in
      record {
        bounded = omega (arith, none);
        fewer = λ e. omega (arith, none, goes.fewer);
        apart = λ e b u was is a. goes.apart b (unled b was u) was is a;
        stays = λ e b u was. goes.stays b (unled b was u) was;
        gone = λ budget is accepted shut b a. not_stepping c budget other is;
      }

  -- ---- steps

  steps_during :
      (budget second : ℕ) → let t = steps_from budget N h (progress_of N h) in
      During N w (made (take_steps budget) h (reply 0 t.steps second) (settled N (stepped N w h budget t.reached)))
  unfolding stepped steps_of is_listed closed with_none with_progress
  steps_during budget second = go (closes budget p) refl
    where
      p : Progress
      p = (steps_from budget N h (progress_of N h)).reached

      steps : Stepped N w h fit.healthy (progress_of N h) (steps_from budget N h (progress_of N h))
      steps = steps_from_open N w h fit.healthy before.was_open fit.tidy budget

      start : count_below (is_pale (view N w h) (marked (progress_of N h).marks) (marked (progress_of N h).list)) N ≤ pale_in N w h
      start =
          pale_same (view N w h) (is_marked h) (is_listed N h) (marked (progress_of N h).marks) (marked (progress_of N h).list)
          (marked_progress N w h fit.healthy before.was_open fit.tidy) (listed_progress N w h fit.healthy before.was_open fit.tidy) N

      reached_apart : (b : ℕ) → ApartIn N w h b → Apart (length h.roots) (view N w h) (marked p.marks) b
      reached_apart b a =
          steps.apart b
          (apart_same (length h.roots) (view N w h) (is_marked h) (marked (progress_of N h).marks) b
          (marked_progress N w h fit.healthy before.was_open fit.tidy) a)

      go : (t : Bool) → closes budget p ≡ t
          → During N w
          (made (take_steps budget) h (reply 0 (steps_from budget N h (progress_of N h)).steps second)
          (settled N (elim t [ true ↦ closed N w p.marks h | false ↦ with_progress N (marked p.marks) (marked p.list) h ])))
      go true e =
          record {
            bounded = omega (arith, steps.fewer, start);
            fewer = λ f. absurd (true≢false (sym f ∙ shut));
            apart = λ f. absurd (true≢false (sym f ∙ shut));
            stays = λ f. absurd (true≢false (sym f ∙ shut));
            gone = λ budget is accepted none b a. unmarked b (λ m. (reached_apart b a).marked b m self);
          }
        where
          tidy : Tidy (length h.roots) (view N w h) (marked p.marks) (λ b. false)
          tidy = list_empty N w h fit.healthy before.was_open fit.tidy budget p steps.tidy e

          shut : is_open N (closed N w p.marks h) ≡ false
          shut = none_after N (unmarked_freed N w p.marks h)

          unmarked : (b : ℕ) → ¬ (marked p.marks b ≡ true) → size (view N w (closed N w p.marks h)) b ≡ 0
          unmarked b never =
              let shown = close_shows N w h fit.healthy p.marks tidy in
              let same = ap (λ (k : Graph). size k b) shown.view_is in
              elim (ℕ_discrete (size (view N w (unmarked_freed N w p.marks h)) b) 0) [
                | yes z ↦ z
                | no n ↦ absurd (never (close_stands N w h fit.healthy p.marks tidy b (λ z. n (same ∙ z))).0)
              ]
      go false e =
          record {
            bounded = omega (arith, steps.fewer, start);
            fewer = λ f. omega (arith, steps.fewer, start, less);
            apart = λ f b u was is a.
                apart_same (length h.roots) (view N w h) (marked p.marks) (is_marked g) b
                (marked_after N w h fit.healthy (marked p.marks) (marked p.list) steps.tidy) (reached_apart b a);
            stays = λ f b u was. was;
            gone = λ budget is accepted none b a.
                absurd (true≢false (sym (open_after N w h fit.healthy (marked p.marks) (marked p.list) steps.tidy) ∙ none));
          }
        where
          g : Memory
          g = with_progress N (marked p.marks) (marked p.list) h

          less : pale_in N w (with_progress N (marked p.marks) (marked p.list) h)
              ≤ count_below (is_pale (view N w h) (marked p.marks) (marked p.list)) N
          less =
              pale_same (view N w h) (marked p.marks) (marked p.list) (is_marked g) (is_listed N g)
              (marked_after N w h fit.healthy (marked p.marks) (marked p.list) steps.tidy)
              (listed_after N w h fit.healthy (marked p.marks) (marked p.list) steps.tidy) N

  -- ---- stores

  root_during :
      (r v second : ℕ) → r < length h.roots → is_ref N h v ≡ true → let y = freeing N h (store_root_shading N w h r v) second in
      During N w (made (store_root r v) h y.0 y.1)
  unfolding freeing written
  root_during r v second l ref =
      goes_during (store_root r v) _ _ (store_root_shading N w h r v) refl (root_goes N w h before v ref r l)
      (λ b stood untouched new c among to.
      untouched
      (record {
        accepted = refl;
        party = c;
        is_party = party c new among;
        leads =
            to_leads N w (with_roots (set h.roots r v) h) before.healthy.represents b stood LeadsFrom.self
            (subst (λ (q : ℕ). To q (view N w h).sizes (set h.roots r v ++ cell_refs N h) b c) (sym (length-set h.roots r v)) to);
      }))
    where
      party : {x : Reply} (c : ℕ) → get_or h.roots r 0 ≢ v → Among (get_or h.roots r 0 ∷ v ∷ []) c → Party h x (store_root r v) c
      party c new among =
          elim (among_cases (get_or h.roots r 0) (v ∷ []) c among) [
            | inl e ↦ Party.old_in_root r v c new (omega arith)
            | inr rest ↦ elim (among_cases v [] c rest) [ inl e ↦ Party.new_in_root r v c new (omega arith) | inr none ↦ absurd (among_none c none) ]
          ]

  cell_during :
      (a j v second : ℕ) → is_first N h a ≡ true → j < 4 * size_at N h a → is_data h.d a ≡ false → is_ref N h v ≡ true
      → let y = freeing N h (store_cell_shading N w h a j v) second in During N w (made (store_cell a j v) h y.0 y.1)
  unfolding freeing written
  cell_during a j v second first l ordinary ref =
      goes_during (store_cell a j v) _ _ (store_cell_shading N w h a j v) refl (cell_goes N w h before v ref a j first l ordinary)
      (λ b stood untouched new c among to.
      untouched
      (record {
        accepted = refl;
        party = c;
        is_party = party c new among;
        leads = to_leads N w (with_cells (set h.cells (4 * a + j) v) h) before.healthy.represents b stood LeadsFrom.self to;
      }))
    where
      old : ℕ
      old = get_or h.cells (4 * a + j) 0

      party : {x : Reply} (c : ℕ) → get_or h.cells (4 * a + j) 0 ≢ v → Among ((a + 1) ∷ get_or h.cells (4 * a + j) 0 ∷ v ∷ []) c
          → Party h x (store_cell a j v) c
      party {x} c new among =
          elim (among_cases (a + 1) (get_or h.cells (4 * a + j) 0 ∷ v ∷ []) c among) [
            | inl e ↦ let same : a ≡ c = omega arith in subst (λ (q : ℕ). Party h x (store_cell a j v) q) same (Party.owner a j v new)
            | inr more ↦ elim (among_cases (get_or h.cells (4 * a + j) 0) (v ∷ []) c more) [
              | inl e ↦ Party.old_in_cell a j v c new (omega arith)
              | inr rest ↦ elim (among_cases v [] c rest) [ inl e ↦ Party.new_in_cell a j v c new (omega arith) | inr none ↦ absurd (among_none c none) ]
            ]
          ]

  -- an allocation c, of either kind
  allocate_during :
      (asData : Bool) (c : Call) (n r i second : ℕ) → stepping c ≡ false → written h c (reply 0 i second) ≡ with_roots (set h.roots r (1 + i)) h
      → ((b : ℕ) → get_or h.roots r 0 ≡ 1 + b → Party h (reply 0 i second) c b) → ((b : ℕ) → i ≡ b → Party h (reply 0 i second) c b)
      → 1 ≤ n → n ≤ N → r < length h.roots → lowest_free N (exponent n) h.a ≡ some i
      → During N w (made c h (reply 0 i second) (settled N (allocate_shading N w asData h n r i)))
  allocate_during asData call n r i second other stores old new low high l found =
      goes_during call _ _ (allocate_shading N w asData h n r i) other goes
      (λ b stood untouched c among to.
      untouched
      (record {
        accepted = refl;
        party = c;
        is_party = party c among;
        leads =
            subst (λ (m : Memory). LeadsFrom N m c b) (sym stores)
            (to_leads N w (with_roots (set h.roots r (1 + i)) h) before.healthy.represents b stood LeadsFrom.self
            (subst (λ (q : ℕ). To q (view N w h).sizes (set h.roots r (1 + i) ++ cell_refs N h) b c) (sym (length-set h.roots r (1 + i)))
            (to_grows same kept to)));
      }))
    where
      k : Memory
      k = with_roots (set h.roots r (i + 1)) (placed N w asData h i n)

      goes : Goes N w h
          (λ b. (c : ℕ) → Among (get_or h.roots r 0 ∷ (i + 1) ∷ []) c
          → ¬ (To (length h.roots) (view N w (with_roots (set h.roots r (i + 1)) (placed N w asData h i n))).sizes
          (view N w (with_roots (set h.roots r (i + 1)) (placed N w asData h i n))).slots b c))
          (allocate_shading N w asData h n r i)
      goes = allocate_goes N w h before asData n r i low high l found

      -- the new object has no slot that names anything, and no other object moved
      same : (x s a : ℕ) → Owns (length h.roots) (view N w (with_roots (set h.roots r (i + 1)) (placed N w asData h i n))).sizes x s
          → slot (view N w (with_roots (set h.roots r (i + 1)) (placed N w asData h i n))) s ≡ suc a
          → size (view N w (with_roots (set h.roots r (i + 1)) (placed N w asData h i n))) x ≡ size (view N w h) x
      same x s a own e =
          elim (allocate_placed N w h before.healthy n i (omega arith) (room N h.a n i found) asData r l x) [
            | inl q ↦ q
            | inr q ↦ absurd (omega (arith, q.1 s own, e))
          ]

      kept : (x s a : ℕ) → Owns (length h.roots) (view N w (with_roots (set h.roots r (i + 1)) (placed N w asData h i n))).sizes x s
          → slot (view N w (with_roots (set h.roots r (i + 1)) (placed N w asData h i n))) s ≡ suc a
          → get_or (set h.roots r (1 + i) ++ cell_refs N h) s 0 ≡ suc a
      kept x s a own e =
          let next : suc i ≡ 1 + i = omega arith in
          ap (λ (m : List ℕ). get_or m s 0)
          (sym (set-append_left h.roots (cell_refs N h) r (1 + i) l) ∙ ap (set (slots_in N h) r) (sym next)
          ∙ sym (allocate_slots N w h before.healthy n i (omega arith) (room N h.a n i found) asData r l
          (placed_shows N w h before.healthy n i (omega arith) (room N h.a n i found) asData)))
          ∙ e

      party : (c : ℕ) → Among (get_or h.roots r 0 ∷ (i + 1) ∷ []) c → Party h (reply 0 i second) call c
      party c among =
          elim (among_cases (get_or h.roots r 0) ((i + 1) ∷ []) c among) [
            | inl e ↦ old c (omega arith)
            | inr rest ↦ elim (among_cases (i + 1) [] c rest) [ inl e ↦ new c (omega arith) | inr none ↦ absurd (among_none c none) ]
          ]

  return_during :
      (chosen : ℕ) → let y = freeing N h (return_shading N w h chosen (length h.roots)) 0 in During N w (made (return_roots chosen) h y.0 y.1)
  unfolding freeing written
  return_during chosen =
      goes_during (return_roots chosen) _ _ (return_shading N w h chosen (length h.roots)) refl
      (return_goes N w h before chosen (length h.roots) (omega arith))
      (λ b stood untouched r c l is e to.
      untouched
      (record {
        accepted = refl;
        party = c;
        is_party = Party.old_of_return chosen r c is (omega (arith, root_slot N h r l));
        leads =
            to_leads N w (with_roots (roots_without chosen h.roots) h) before.healthy.represents b stood LeadsFrom.self
            (subst (λ (q : ℕ). To q (view N w h).sizes (roots_without chosen h.roots ++ cell_refs N h) b c) (sym same_length)
            (to_grows (λ x s a own f. refl) kept to));
      }))
    where
      same_length : length (roots_without chosen h.roots) ≡ length h.roots
      same_length = length_without chosen h.roots

      kept : (x s a : ℕ) → Owns (length h.roots) (view N w h).sizes x s → slot (view N w h) s ≡ suc a
          → get_or (roots_without chosen h.roots ++ cell_refs N h) s 0 ≡ suc a
      kept x s a own e =
          let j : ℕ = s - length h.roots in
          let here : length h.roots + j ≡ s = omega (arith, own) in
          let within = cell_within N h j (λ z. omega (arith, ap (λ (q : ℕ). get_or (slots_in N h) q 0) here)) in
          let there : length (roots_without chosen h.roots) + j ≡ s = omega (arith, same_length) in
          ap (λ (q : ℕ). get_or (roots_without chosen h.roots ++ cell_refs N h) q 0) (sym there)
          ∙ cell_slot N (with_roots (roots_without chosen h.roots) h) j within
          ∙ sym (cell_slot N h j within) ∙ ap (λ (q : ℕ). get_or (slots_in N h) q 0) here ∙ e

  -- a number write (request U6) changes no reference: nothing is marked, and nothing leads elsewhere
  number_during :
      (a j x : ℕ) → is_first N h a ≡ true → j < 4 * size_at N h a → is_data h.d a ≡ true
      → During N w (made (write_number a j x) h (reply 0 0 0) (with_cells (set h.cells (4 * a + j) x) h))
  unfolding is_listed
  number_during a j x first l kind =
      let same = number_view N w h fit.healthy a j x first l kind in
      let none = no_steps (write_number a j x) (reply 0 0 0) refl in
      let pale = ap (λ (k : Graph). count_below (is_pale k (is_marked h) (is_listed N h)) N) same in
      record {
        bounded = omega (arith, none);
        fewer = λ e. omega (arith, none, pale);
        apart = λ e b u was is apart. subst (λ (k : Graph). Apart (length h.roots) k (is_marked h) b) (sym same) apart;
        stays = λ e b u was z. was (sym (ap (λ (k : Graph). size k b) same) ∙ z);
        gone = λ budget is accepted shut b apart. not_stepping (write_number a j x) budget refl is;
      }

  -- a call that takes no steps and leaves none open: a format, or a copy into the heap (request U14)
  shut_during : (c : Call) (x : Reply) (g : Memory) → stepping c ≡ false → is_open N g ≡ false → During N w (made c h x g)
  shut_during c x g other shut =
      record {
        bounded = omega (arith, no_steps c x other);
        fewer = λ e. absurd (true≢false (sym e ∙ shut));
        apart = λ e. absurd (true≢false (sym e ∙ shut));
        stays = λ e. absurd (true≢false (sym e ∙ shut));
        gone = λ budget is accepted shut b a. not_stepping c budget other is;
      }

  outcome_during : (c : Call) → Passed N h c → let y = outcome N w h c in During N w (made c h y.0 y.1)
  unfolding outcome Passed written formatted with_none
  outcome_during format p = shut_during format _ _ refl (none_after N (formatted N w (length h.roots)))
  outcome_during (copy_from K u first) p = shut_during (copy_from K u first) _ _ refl (copy_shut N w h fit.healthy.shape K u first p)
  outcome_during (copy_into M v second) p = same_during (copy_into M v second) _ (no_steps (copy_into M v second) _ refl) (λ _. refl)
  outcome_during check p = same_during check _ (no_steps check _ refl) (λ _. refl)
  outcome_during free_blocks p = same_during free_blocks _ (no_steps free_blocks _ refl) (λ _. refl)
  outcome_during (look a) p = same_during (look a) _ (no_steps (look a) _ refl) (λ _. refl)
  outcome_during collect p = absurd (true≢false (sym before.was_open ∙ p))
  outcome_during open_collection p = absurd (true≢false (sym before.was_open ∙ p))
  outcome_during (allocate n r) (low, high, place, found) =
      allocate_during false (allocate n r) n r _ _ refl refl (λ b e. Party.old_of_allocation false n r b e)
      (λ b e. Party.new_of_allocation false n r b e) low high place found
  outcome_during (allocate_data n r) (low, high, place, found) =
      allocate_during true (allocate_data n r) n r _ _ refl refl (λ b e. Party.old_of_allocation true n r b e)
      (λ b e. Party.new_of_allocation true n r b e) low high place found
  outcome_during (write_number a j x) (first, place, made) = number_during a j x first place made
  outcome_during (read_number a j) p = same_during (read_number a j) _ (no_steps (read_number a j) _ refl) (λ _. refl)
  outcome_during (write_reason a room) p = same_during (write_reason a room) _ (no_steps (write_reason a room) _ refl) (λ _. refl)
  outcome_during (write_shape room) p = same_during (write_shape room) _ (no_steps (write_shape room) _ refl) (λ _. refl)
  outcome_during (store_root r v) (place, ref) = root_during r v _ place ref
  outcome_during (store_cell a j v) (first, place, ordinary, ref) = cell_during a j v _ first place ordinary ref
  outcome_during (return_roots chosen) p = return_during chosen
  outcome_during (take_steps budget) p = steps_during budget _

  answer_during : (c : Call) → let y = answer N w h c in During N w (made c h y.0 y.1)
  answer_during c =
      answer_either N w h c (λ y. During N w (made c h y.0 y.1))
      (λ number nonzero. same_during c _ (refused_steps c _ nonzero) (λ z. absurd (nonzero z)))
      (λ e. outcome_during c (passed N w h c e))

-- ---- the calls of a collection

module _ (N w : ℕ) where
  -- a call finds the heap that the one before it left
  found : {h g : Memory} → Finds N h g → h ≡ with_waiting h.waiting g
  found {h} finds = ap (with_waiting h.waiting) (sym finds.same_heap)

  open_found : {h g : Memory} → Finds N h g → is_open N h ≡ true → is_open N g ≡ true
  open_found {h} {g} finds e = subst (λ (k : Memory). is_open N k ≡ true) (found finds) e

  pale_found : {h g : Memory} → Finds N h g → pale_in N w h ≡ pale_in N w g
  unfolding is_listed
  pale_found {h} {g} finds = ap (λ (k : Memory). pale_in N w k) (found finds)

  during :
      {h : Memory} → Fit N w h → is_open N h ≡ true → (m : Made) → Finds N h m.before
      → Promise N w m.call m.before m.reply m.after → During N w m
  during fit was_open m finds promise =
      let here = finds_fit N w finds fit in
      let before : Open N w m.before =
      record { healthy = here.healthy; was_open = open_found finds was_open; tidy = here.tidy } in
      subst (λ (y : Answer). During N w (made m.call m.before y.0 y.1)) (sym (promised N w m promise))
      (answer_during N w m.before before here m.call)

  -- the third claim
  bounded :
      (ms : List Made) {h : Memory} → Fit N w h → is_open N h ≡ true → Chain N w h ms → steps_in (until_closed N ms) ≤ pale_in N w h
  unfolding until_closed steps_in
  bounded [] fit was_open chain = omega arith
  bounded (m ∷ ms) {h} fit was_open (Chain.next finds promise rest) =
      go (during fit was_open m finds promise) (pale_found finds) (is_open N m.after) refl
      (λ e. bounded ms (stays_fit N w fit m finds promise) e rest)
    where
      go : During N w m → pale_in N w h ≡ pale_in N w m.before → (t : Bool) → is_open N m.after ≡ t
          → (is_open N m.after ≡ true → steps_in (until_closed N ms) ≤ pale_in N w m.after)
          → steps_in (m ∷ elim t [ true ↦ until_closed N ms | false ↦ [] ]) ≤ pale_in N w h
      go d same true e more = omega (arith, d.fewer e, more e, same)
      go d same false e more = omega (arith, d.bounded, same)

closes_cases :
    {N : ℕ} {m : Made} {ms : List Made} → Closes N (m ∷ ms)
    → ((budget : ℕ) × (m.call ≡ take_steps budget) × (m.reply.number ≡ 0) × (is_open N m.after ≡ false)) ⊎ Closes N ms
closes_cases (Closes.last budget c a o) = inl (budget, c, a, o)
closes_cases (Closes.later rest) = inr rest

is_more : List Made → Bool
is_more [] = false
is_more (m ∷ ms) = true

closes_some : {N : ℕ} {ms : List Made} → Closes N ms → is_more ms ≡ true
unfolding is_more
closes_some (Closes.last budget c a o) = refl
closes_some (Closes.later rest) = refl

no_close : {N : ℕ} → Closes N [] → ⊥
unfolding is_more
no_close c = false≢true (closes_some c)

untouched_first : {N b : ℕ} {m : Made} {ms : List Made} → Untouched N b (m ∷ ms) → (¬ Touched N m b) × Untouched N b ms
untouched_first (Untouched.next u rest) = (u, rest)

module _ (N w : ℕ) where
  sized_object : (h : Memory) (b n : ℕ) → Object N h b n → size (view N w h) b ≢ 0
  sized_object h b n object = first_some N w h b object.first

  -- the second claim
  gone_at_close :
      (b n : ℕ) (ms : List Made) {h : Memory} → Fit N w h → is_open N h ≡ true → Chain N w h ms → size (view N w h) b ≢ 0 → ApartIn N w h b
      → Closes N (until_closed N ms) → Untouched N b (until_closed N ms) → (start : Memory) → Object N (left_by start (until_closed N ms)) b n → ⊥
  unfolding until_closed last_memory
  gone_at_close b n [] fit was_open chain stood apart closes untouched start stands = no_close closes
  gone_at_close b n (m ∷ ms) {h} fit was_open (Chain.next finds promise rest) stood apart closes untouched start stands =
      go (during N w fit was_open m finds promise)
      (subst (λ (k : Memory). size (view N w k) b ≢ 0) (found N w finds) stood)
      (subst (λ (k : Memory). ApartIn N w k b) (found N w finds) apart)
      (λ e s a c u t. gone_at_close b n ms (stays_fit N w fit m finds promise) e rest s a c u m.after t)
      (is_open N m.after) refl closes untouched stands
    where
      go : During N w m → size (view N w m.before) b ≢ 0 → ApartIn N w m.before b
          → (is_open N m.after ≡ true → size (view N w m.after) b ≢ 0 → ApartIn N w m.after b → Closes N (until_closed N ms)
          → Untouched N b (until_closed N ms) → Object N (left_by m.after (until_closed N ms)) b n → ⊥)
          → (t : Bool) → is_open N m.after ≡ t
          → Closes N (m ∷ elim t [ true ↦ until_closed N ms | false ↦ [] ]) → Untouched N b (m ∷ elim t [ true ↦ until_closed N ms | false ↦ [] ])
          → Object N (left_by m.after (elim t [ true ↦ until_closed N ms | false ↦ [] ])) b n → ⊥
      go d was a more true e closes untouched stands =
          let u = untouched_first untouched in
          let is = d.stays e b u.0 was in
          elim (closes_cases closes) [
            | inl q ↦ true≢false (sym e ∙ q.3)
            | inr c ↦ more e is (d.apart e b u.0 was is a) c u.1 stands
          ]
      go d was a more false e closes untouched stands =
          elim (closes_cases closes) [
            | inl q ↦ sized_object m.after b n stands (d.gone q.0 q.1 q.2 e b a)
            | inr c ↦ no_close c
          ]

-- ---- an accepted opening, and what follows it

module _ (N w : ℕ) (h : Memory) (fit : Fit N w h) where
  opened_open : is_open N (opened N h) ≡ true
  unfolding opened
  opened_open = open_after N w h fit.healthy (root_names h) (root_names h) (opened_tidy N w h fit.healthy)

  -- at most all objects are unmarked or listed
  opened_pale : pale_in N w (opened N h) ≤ count_below (is_first N h) N
  unfolding opened with_progress
  opened_pale =
      count_le (is_pale (view N w h) (is_marked (opened N h)) (is_listed N (opened N h))) (is_first N h) N
      (λ b e. some_first N w h b (pale_facts (view N w h) (is_marked (opened N h)) (is_listed N (opened N h)) b e).0)

  -- no marked object leads to what no root leads to
  opened_apart : (b n : ℕ) → Object N h b n → ¬ Leads N h b → ApartIn N w (opened N h) b
  unfolding opened with_progress
  opened_apart b n object unled =
      apart_same (length h.roots) (view N w h) (root_names h) (is_marked (with_progress N (root_names h) (root_names h) h)) b
      (marked_after N w h fit.healthy (root_names h) (root_names h) (opened_tidy N w h fit.healthy))
      (apart_opened (length h.roots) (view N w h) (root_names h) b roots (opened_names N w h fit.healthy))
    where
      roots : (s c : ℕ) → s < length h.roots → slot (view N w h) s ≡ suc c → ¬ (To (length h.roots) (view N w h).sizes (view N w h).slots b c)
      roots s c l e to =
          let stood = first_some N w h b object.first in
          unled
          (to_led N w h fit.healthy.represents b stood
          (Leads.root c (size (view N w h) c) s
          (size_object N h (view N w h).sizes fit.healthy.represents c (to_sized stood to)) l (omega (arith, root_slot N h s l))) to)

  same_size : (b : ℕ) → size (view N w (opened N h)) b ≡ size (view N w h) b
  unfolding opened with_progress
  same_size b = refl

pub collected_in_steps :
    (N w : ℕ) (m : Made) (later : List Made) {h : Memory} → Fit N w h → Chain N w h (m ∷ later) → m.call ≡ open_collection
    → m.reply.number ≡ 0 → Collecting N m.before later
unfolding outcome
collected_in_steps N w m later fit (Chain.next finds promise rest) is accepted =
    let here = finds_fit N w finds fit in
    let after-fit = stays_fit N w fit m finds promise in
    let answered : answer N w m.before m.call ≡ answer N w m.before open_collection = ap (answer N w m.before) is in
    let number : (answer N w m.before open_collection).0.number ≡ 0 =
    sym (ap (λ (y : Answer). y.0.number) answered) ∙ sym (ap (λ (x : Reply). x.number) promise.reply_is) ∙ accepted in
    let left : m.after ≡ opened N m.before =
    promise.after_is ∙ ap (λ (y : Answer). y.1) (answered ∙ accepted_outcome N w m.before open_collection number) in
    let open_now : is_open N m.after ≡ true = subst (λ (k : Memory). is_open N k ≡ true) (sym left) (opened_open N w m.before here) in
    record {
      bounded =
          omega (
            arith,
            bounded N w later after-fit open_now rest,
            ap (λ (k : Memory). pale_in N w k) left,
            opened_pale N w m.before here,
          );
      gone = λ closes b n object unled untouched stands.
          gone_at_close N w b n later after-fit open_now rest
          (λ z.
          first_some N w m.before b object.first
          (sym (same_size N w m.before here b) ∙ sym (ap (λ (k : Memory). size (view N w k) b) left) ∙ z))
          (subst (λ (k : Memory). ApartIn N w k b) (sym left) (opened_apart N w m.before here b n object unled)) closes untouched m.before stands;
    }
