-- A return leaves the heap that clearing its roots singly in ascending order leaves, with a collection open
-- too (requests U8 and U10).
use mathlib.Core.Path.{◌≡◌, refl, sym, ap, ◌∙◌, subst}
use mathlib.Core.Bool.{Bool, true, false}
use mathlib.Core.List.{List, [], ◌∷◌, ◌++◌, map}
use Prim.Native.Nat.{ℕ, zero, suc, ◌+◌, ◌≤◌, ◌<◌}
use native.Mathlib.Omega.{arith}
use lib.ListN.{length, get_or, replicate}
use Rattle.bitmap.specs.Bit.{one, zeros}
use Rattle.rules.specs.Heap.{Memory, with_waiting, with_sections}
use Rattle.rules.specs.Sections.{figures}
use Rattle.rules_stores.specs.Store.{store_sticks, is_chosen}
use Rattle.rules_steps.specs.Steps.{store_root_shading, clear_shading, return_shading}
use Rattle.rules_calls.specs.Calls.{Call, store_root, return_roots, Answer, settled, freeing, outcome, answer, run, last_memory}
use Rattle.rules_calls.proofs.Unread.{store_root_aside}
use Rattle.rules_calls.proofs.Replies.{accepted_outcome, Passed}
use Rattle.theory.specs.Returns.{freed_in_all, cleared_singly, SameAsSingly, ascending}
use Rattle.theory_memories.proofs.Memories.Fit.{Fit}
use Rattle.theory_memories.proofs.Memories.Accepted.{fit_accepted}
use Rattle.theory.proofs.EachCall.Answers.{answer-fit}
use Rattle.theory.proofs.EachCall.Clearing.{none_ref, root_cleared}
use Rattle.theory.proofs.EachCall.Shading.{shape_sized, store_root_shading_lem}

-- ---- lists of calls, one after another

map_append : {A B : Type 0} (f : A → B) (xs ys : List A) → map f (xs ++ ys) ≡ map f xs ++ map f ys
map_append f [] ys = refl
map_append f (x ∷ xs) ys = ap (λ (l : List _). f x ∷ l) (map_append f xs ys)

run_append :
    (N w : ℕ) (h : Memory) (xs ys : List Call) → run N w h (xs ++ ys) ≡ run N w h xs ++ run N w (last_memory h (run N w h xs)) ys
unfolding run last_memory
run_append N w h [] ys = refl
run_append N w h (c ∷ cs) ys = ap (λ (l : List Answer). answer N w h c ∷ l) (run_append N w (answer N w h c).1 cs ys)

last_append : (h : Memory) (xs ys : List Answer) → last_memory h (xs ++ ys) ≡ last_memory (last_memory h xs) ys
unfolding last_memory
last_append h [] ys = refl
last_append h (x ∷ xs) ys = last_append x.1 xs ys

freed_append : (xs ys : List Answer) → freed_in_all (xs ++ ys) ≡ freed_in_all xs + freed_in_all ys
unfolding freed_in_all
freed_append [] ys = omega arith
freed_append (x ∷ xs) ys = omega (arith, freed_append xs ys)

singly_append :
    (N w : ℕ) (h : Memory) (xs ys : List ℕ)
    → cleared_singly N w h (xs ++ ys) ≡ cleared_singly N w h xs ++ cleared_singly N w (last_memory h (cleared_singly N w h xs)) ys
singly_append N w h xs ys =
    ap (run N w h) (map_append (λ r. store_root r 0) xs ys) ∙ run_append N w h (map (λ r. store_root r 0) xs) (map (λ r. store_root r 0) ys)

-- ---- a store doesn't read what `settled` writes

settled_store : (N w : ℕ) (g : Memory) (r v : ℕ) → settled N (store_root_shading N w (settled N g) r v) ≡ settled N (store_root_shading N w g r v)
settled_store N w g r v =
    ap (settled N) (store_root_aside N w (λ x. with_waiting (replicate N 0) (with_sections (figures N g.a) x)) g r v)

-- ---- the roots of the set, the lowest first

module _ (N w : ℕ) (h : Memory) (chosen : ℕ) where
  -- `answers` cleared the roots below n
  record Ascended (n : ℕ) (answers : List Answer) : Type 0 where
    fit : Fit N w (last_memory h answers)
    same : settled N (last_memory h answers) ≡ settled N (return_shading N w h chosen n)
    blocks : zeros (last_memory h answers).a ≡ zeros h.a + freed_in_all answers
    roots : length (last_memory h answers).roots ≡ length h.roots

  -- one root more, of the memory `last`
  record Further (n : ℕ) (last : Memory) (more : List Answer) : Type 0 where
    fit : Fit N w (last_memory last more)
    same : settled N (last_memory last more) ≡ settled N (return_shading N w h chosen (suc n))
    blocks : zeros (last_memory last more).a ≡ zeros last.a + freed_in_all more
    roots : length (last_memory last more).roots ≡ length last.roots

  module _ (n : ℕ) (last : Memory) (fit : Fit N w last) (before : settled N last ≡ settled N (return_shading N w h chosen n))
      (l : n < length last.roots) where
    abbrev stored : Memory
    stored = store_root_shading N w last n 0

    answered : answer N w last (store_root n 0) ≡ freeing N last stored (one (store_sticks N w last.counts (get_or last.roots n 0) 0))
    unfolding outcome Passed
    answered = fit_accepted N w last fit (store_root n 0) refl (l, none_ref N last)

    grows : zeros last.a ≤ zeros stored.a
    grows =
        let shading = store_root_shading_lem N w last (shape_sized N w last fit.healthy.shape) n 0 in
        let cleared = root_cleared N w (λ i. i ≡ n) last fit.healthy n l refl in
        omega (arith, cleared.grows, ap (λ (g : Memory). zeros g.a) shading.is)

    roots_kept : length stored.roots ≡ length last.roots
    roots_kept =
        let shading = store_root_shading_lem N w last (shape_sized N w last fit.healthy.shape) n 0 in
        let cleared = root_cleared N w (λ i. i ≡ n) last fit.healthy n l refl in
        ap (λ (g : Memory). length g.roots) shading.is ∙ cleared.roots_are

    further : (t : Bool) → is_chosen chosen n ≡ t → Further n last (cleared_singly N w last (elim t [ true ↦ n ∷ [] | false ↦ [] ]))
    unfolding run last_memory freed_in_all return_shading clear_shading freeing
    further true e =
        let next = ap (λ (x : Answer). x.1) answered in
        record {
          fit = answer-fit N w last fit (store_root n 0);
          same =
              ap (settled N) next ∙ sym (settled_store N w last n 0)
              ∙ ap (λ (k : Memory). settled N (store_root_shading N w k n 0)) before ∙ settled_store N w (return_shading N w h chosen n) n 0
              ∙ ap (settled N) (chosen_here e);
          blocks = omega (
            arith,
            ap (λ (x : Answer). zeros x.1.a) answered,
            ap (λ (x : Answer). x.0.value) answered,
            grows,
          );
          roots = ap (λ (g : Memory). length g.roots) next ∙ roots_kept;
        }
      where
        chosen_here : is_chosen chosen n ≡ true → store_root_shading N w (return_shading N w h chosen n) n 0 ≡ return_shading N w h chosen (suc n)
        chosen_here e = rw (e, return_shading, clear_shading)
    further false e =
        record { fit = fit; same = before ∙ ap (settled N) (other e); blocks = omega arith; roots = refl }
      where
        other : is_chosen chosen n ≡ false → return_shading N w h chosen n ≡ return_shading N w h chosen (suc n)
        other e = rw (e, return_shading, clear_shading)

  ascended : Fit N w h → (n : ℕ) → n ≤ length h.roots → Ascended n (cleared_singly N w h (ascending chosen n))
  unfolding ascending run last_memory freed_in_all return_shading
  ascended fit zero l = record { fit = fit; same = refl; blocks = omega arith; roots = refl }
  ascended fit (suc n) l = step (ascended fit n (omega arith))
    where
      front : List Answer
      front = cleared_singly N w h (ascending chosen n)

      back : List ℕ
      back = elim (is_chosen chosen n) as (λ _. List ℕ) [ true ↦ n ∷ [] | false ↦ [] ]

      step : Ascended n (cleared_singly N w h (ascending chosen n)) → Ascended (suc n) (cleared_singly N w h (ascending chosen (suc n)))
      step before =
          let last : Memory = last_memory h (cleared_singly N w h (ascending chosen n)) in
          let more = further n last before.fit before.same (omega (arith, before.roots)) (is_chosen chosen n) refl in
          let rest : List Answer = cleared_singly N w last (elim (is_chosen chosen n) as (λ _. List ℕ) [ true ↦ n ∷ [] | false ↦ [] ]) in
          let end = last_append h (cleared_singly N w h (ascending chosen n)) rest in
          subst (λ (xs : List Answer). Ascended (suc n) xs)
          (sym (singly_append N w h (ascending chosen n) (elim (is_chosen chosen n) as (λ _. List ℕ) [ true ↦ n ∷ [] | false ↦ [] ])))
          (record {
            fit = subst (λ (k : Memory). Fit N w k) (sym end) more.fit;
            same = ap (settled N) end ∙ more.same;
            blocks = omega (
              arith,
              ap (λ (k : Memory). zeros k.a) end,
              more.blocks,
              before.blocks,
              freed_append (cleared_singly N w h (ascending chosen n)) rest,
            );
            roots = ap (λ (k : Memory). length k.roots) end ∙ more.roots ∙ before.roots;
          })

  pub in_ascending_order :
      Fit N w h → (answer N w h (return_roots chosen)).0.number ≡ 0 → SameAsSingly N w h chosen (ascending chosen (length h.roots))
  unfolding outcome freeing
  in_ascending_order fit accepted =
      let all = ascended fit (length h.roots) (omega arith) in
      let is = accepted_outcome N w h (return_roots chosen) accepted in
      let last : Memory = last_memory h (cleared_singly N w h (ascending chosen (length h.roots))) in
      record {
        heap = ap (λ (l : List ℕ). with_sections l (with_waiting (replicate N 0) last)) all.fit.listed ∙ all.same ∙ sym (ap (λ (x : Answer). x.1) is);
        value = omega (
          arith,
          all.blocks,
          ap (λ (k : Memory). zeros k.a) all.same,
          ap (λ (x : Answer). x.0.value) is,
        );
      }
