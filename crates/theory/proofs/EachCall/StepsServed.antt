-- The calls of request U8 serve: an opening and steps that don't close change the mark map and the second
-- list alone, and the close leaves a healthy memory and all that a root led to.
use mathlib.Core.Path.{◌≡◌, refl, ap, ◌∙◌}
use mathlib.Core.Logic.{◌≢◌, ◌⊎◌, inl, inr}
use mathlib.Core.Bool.{Bool, true, false}
use mathlib.Core.List.{List}
use Prim.Native.Nat.{ℕ, ◌+◌, ◌/◌, ◌<◌}
use native.Mathlib.Omega.{arith}
use lib.ListN.{length, get_or, replicate, length-replicate}
use Rattle.rules.specs.Heap.{Memory}
use Rattle.rules_stores.specs.Collection.{marked}
use Rattle.rules_steps.specs.Steps.{is_open, with_progress, with_none, root_names, opened, Progress, progress_of, steps_from, unmarked_freed, closed, closes, stepped}
use Rattle.rules_calls.specs.Calls.{open_collection, take_steps, reply, accepted, settled}
use Rattle.types.specs.declared.Reply.{Reply}
use Rattle.rules.proofs.Objects.{first_facts}
use Rattle.theory_memories.specs.Words.{Object}
use Rattle.theory.specs.CallWords.{written, stored}
use Rattle.theory_memories.proofs.Maps.Extents.{sizes_of}
use Rattle.theory_graphs.proofs.Graphs.Graph.{Graph, size, count}
use Rattle.theory_graphs.proofs.Graphs.Tidy.{Tidy}
use Rattle.theory_memories.proofs.Memories.View.{view}
use Rattle.theory_memories.proofs.Memories.Healthy.{Aligned, Healthy, view_count}
use Rattle.theory_memories.proofs.Memories.Fit.{Fit}
use Rattle.theory_memories.proofs.Memories.Leads.{leads_reach}
use Rattle.theory_memories.proofs.Memories.ViewRelease.{Shows}
use Rattle.theory_memories.proofs.Memories.ViewClose as close
use Rattle.theory_memories.proofs.Memories.ViewClose.{close_shows, close_whole, close_stands, close_or_gone, close_reach, close_lowered}
use Rattle.theory_memories.proofs.Memories.TidyHeap.{first_some}
use Rattle.theory_memories.proofs.Memories.Scanning.{Stepped, steps_from_open, list_empty}
use Rattle.theory.proofs.EachCall.Served.{no_collection, Served}
use Rattle.theory.proofs.EachCall.Shading.{Shading, shape_sized, progress_shading, marked_served, marked_settled, settled_beside}
use Rattle.theory_memories.proofs.Memories.Settled.{healthy_after, object_after}

pub none_shading : (N : ℕ) (g : Memory) → Shading N g (with_none N g)
unfolding with_none
none_shading N g =
    record {
      marks = replicate (N / 8) 0;
      list = replicate (N + 1) 0;
      is = refl;
      length_marks = length-replicate (N / 8) 0;
      length_list = length-replicate (N + 1) 0;
    }

pub open_served : (N w : ℕ) (h : Memory) → Healthy N w h → Served N w open_collection h (accepted (opened N h) 0)
unfolding opened
open_served N w h healthy =
    marked_served N w open_collection h (with_progress N (root_names h) (root_names h) h) (reply 0 0 0) refl healthy
    (progress_shading N h (shape_sized N w h healthy.shape) (root_names h) (root_names h))

-- ---- the close

module _ (N w : ℕ) (h : Memory) (healthy : Healthy N w h) (marks : List Bool)
    (tidy : Tidy (length h.roots) (view N w h) (marked marks) (λ b. false)) where
  abbrev after : Graph
  after = close.after N w h healthy marks tidy

  shows : Shows N w (length h.roots) (unmarked_freed N w marks h) after
  shows = close_shows N w h healthy marks tidy

  close_aligned : Aligned after.sizes
  close_aligned x n =
      let was = (close_stands N w h healthy marks tidy x n).1 in
      rw was (healthy.aligned x (λ z. n (was ∙ z)))

  freed_served : (budget : ℕ) (x : Reply) → x.number ≡ 0 → Served N w (take_steps budget) h (x, settled N (unmarked_freed N w marks h))
  unfolding stored written
  freed_served budget x is =
      record {
        keep =
            healthy_after N w (length h.roots) (unmarked_freed N w marks h) after shows (close_whole N w h healthy marks tidy) close_aligned;
        no_early_free = λ b n object leads.
            object_after N w (length h.roots) h (unmarked_freed N w marks h) after healthy.represents shows b n object
            (close_reach N w h healthy marks tidy b
            (leads_reach N h (sizes_of N h.a h.b) healthy.represents (rw is at leads)));
        collects = no_collection (take_steps budget) refl;
        sticks = λ living b n was is low top.
            let in_heap : b < N = (first_facts N h.a h.b b was.first).inside in
            let same : count (view N w (unmarked_freed N w marks h)) b ≡ count after b = ap (λ (k : Graph). count k b) shows.view_is in
            absurd
            (omega (
              arith,
              close_lowered N w h healthy marks tidy b (stands b n is),
              same,
              view_count N w h b in_heap,
              view_count N w (unmarked_freed N w marks h) b in_heap,
            ));
      }
    where
      stands : (b n : ℕ) → Object N (settled N (unmarked_freed N w marks h)) b n → size after b ≢ 0
      stands b n object z =
          first_some N w (unmarked_freed N w marks h) b object.first (ap (λ (k : Graph). size k b) shows.view_is ∙ z)

  pub closed_served : (budget : ℕ) (x : Reply) → x.number ≡ 0 → Served N w (take_steps budget) h (x, settled N (closed N w marks h))
  unfolding closed
  closed_served budget x is =
      settled_beside N w (take_steps budget) h x refl (unmarked_freed N w marks h) (with_none N (unmarked_freed N w marks h))
      (none_shading N (unmarked_freed N w marks h)) (freed_served budget x is)

-- ---- steps

module _ (N w : ℕ) (h : Memory) (fit : Fit N w h) (was_open : is_open N h ≡ true) (budget : ℕ) where
  abbrev reached : Progress
  reached = (steps_from budget N h (progress_of N h)).reached

  steps : Stepped N w h fit.healthy (progress_of N h) (steps_from budget N h (progress_of N h))
  steps = steps_from_open N w h fit.healthy was_open fit.tidy budget

  pub steps_served : (second : ℕ) → Served N w (take_steps budget) h
      (reply 0 (steps_from budget N h (progress_of N h)).steps second, settled N (stepped N w h budget reached))
  unfolding stepped
  steps_served second = go (closes budget reached) refl
    where
      x : Reply
      x = reply 0 (steps_from budget N h (progress_of N h)).steps second

      go : (t : Bool) → closes budget reached ≡ t
          → Served N w (take_steps budget) h (
            reply 0 (steps_from budget N h (progress_of N h)).steps second,
            settled N
                (elim t [
                  | true ↦ closed N w reached.marks h
                  | false ↦ with_progress N (marked reached.marks) (marked reached.list) h
                ]),
          )
      go true e =
          closed_served N w h fit.healthy reached.marks
          (list_empty N w h fit.healthy was_open fit.tidy budget reached steps.tidy e) budget
          (reply 0 (steps_from budget N h (progress_of N h)).steps second) refl
      go false e =
          marked_settled N w (take_steps budget) h (with_progress N (marked reached.marks) (marked reached.list) h)
          (reply 0 (steps_from budget N h (progress_of N h)).steps second) refl fit.healthy
          (progress_shading N h (shape_sized N w h fit.healthy.shape) (marked reached.marks) (marked reached.list))

  -- the sizes of what the steps leave
  pub steps_or_gone : (b : ℕ)
      → (get_or (sizes_of N (stepped N w h budget reached).a (stepped N w h budget reached).b) b 0 ≡ size (view N w h) b)
      ⊎ (get_or (sizes_of N (stepped N w h budget reached).a (stepped N w h budget reached).b) b 0 ≡ 0)
  unfolding stepped closed with_none with_progress
  steps_or_gone b = go (closes budget reached) refl
    where
      go : (t : Bool) → closes budget reached ≡ t
          → let g : Memory = elim t [
            | true ↦ closed N w reached.marks h
            | false ↦ with_progress N (marked reached.marks) (marked reached.list) h
          ] in
          (get_or (sizes_of N g.a g.b) b 0 ≡ size (view N w h) b) ⊎ (get_or (sizes_of N g.a g.b) b 0 ≡ 0)
      go true e =
          let tidy = list_empty N w h fit.healthy was_open fit.tidy budget reached steps.tidy e in
          let same = ap (λ (k : Graph). size k b) (close_shows N w h fit.healthy reached.marks tidy).view_is in
          elim (close_or_gone N w h fit.healthy reached.marks tidy b) [ inl q ↦ inl (same ∙ q) | inr q ↦ inr (same ∙ q) ]
      go false e = inl refl
