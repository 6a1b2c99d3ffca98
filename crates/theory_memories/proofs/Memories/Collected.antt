-- The full collection: it leaves a healthy memory, exactly the objects that a root led to, and each of them with its number of references
-- or the capacity as its count.
use mathlib.Core.Path.{◌≡◌, refl, sym, ap, ◌∙◌, subst}
use mathlib.Core.Logic.{◌≢◌, inl, inr}
use mathlib.Core.Bool.{Bool, true, false, ◌&&◌, false≢true}
use Prim.Native.Nat.{ℕ, zero, suc, ◌+◌, ◌*◌, ◌≤◌, ◌<◌, min}
use native.Mathlib.Omega.{arith}
use lib.Dec.{eqb}
use lib.ListN.{length}
use Rattle.bitmap.specs.Bit.{one, count_below}
use Rattle.rules.specs.Heap.{Memory, capacity, count_of, is_first, reference}
use Rattle.rules_stores.specs.Collection.{is_cell_of, cell_of_chosen, references_from, marked, reached, collected}
use Rattle.rules_calls.specs.Calls.{settled}
use Rattle.theory_memories.specs.Words.{Object, Leads, number_of_references}
use Rattle.theory_memories.specs.Sound.{ExactCollection}
use Rattle.rules.proofs.Tests.{test_cases_lem, and_true, true_and, some_true, true_some}
use Rattle.rules.proofs.Objects.{first_facts}
use Rattle.theory_graphs.proofs.Graphs.Graph.{Graph, size, count}
use Rattle.theory_graphs.proofs.Graphs.Collection.{collected_or_gone}
use Rattle.theory_graphs.proofs.Graphs.Sweep as graph
use Rattle.theory_graphs.proofs.Graphs.Calls.{collect_whole}
use Rattle.theory_memories.proofs.Memories.View.{view}
use Rattle.theory_memories.proofs.Memories.Healthy.{Aligned, Healthy, view_count}
use Rattle.theory_memories.proofs.Memories.Soundness.{healthy_counted}
use Rattle.theory_memories.proofs.Memories.Leads.{object_size, size_object, leads_reach}
use Rattle.theory_memories.proofs.Memories.Stores.{positive}
use Rattle.theory_memories.proofs.Memories.Settled.{healthy_after, object_after}
use Rattle.theory_memories.proofs.Memories.Rounds.{reached_led, led_reached}
use Rattle.theory_memories.proofs.Memories.ViewCollection.{is_collected, reach_marked, references_left, collected_shows}

-- what passes more often counts for more
count_mono : (test other : ℕ → Bool) (n : ℕ) → ((i : ℕ) → test i ≡ true → other i ≡ true) → count_below test n ≤ count_below other n
unfolding count_below
count_mono test other zero h = omega arith
count_mono test other (suc n) h = omega (arith, count_mono test other n h, last (test n) (other n) (h n))
  where
    last : (s t : Bool) → (s ≡ true → t ≡ true) → one s ≤ one t
    last true t p = rw (p refl) (omega arith)
    last false t p = omega arith

-- chosen objects hold no more references than all objects do
references_le : (N : ℕ) (h : Memory) (chosen : ℕ → Bool) (b : ℕ) → references_from N h chosen b ≤ number_of_references N h b
unfolding references_from cell_of_chosen
references_le N h chosen b =
    omega (
      arith,
      count_mono
          (λ j. elim (eqb (reference N h j) (b + 1)) [ true ↦ cell_of_chosen N h chosen j | false ↦ false ])
          (λ j. elim (eqb (reference N h j) (b + 1)) [ true ↦ cell_of_chosen N h (is_first N h) j | false ↦ false ])
          (4 * N) (λ j. both (eqb (reference N h j) (b + 1)) (cell_of_chosen N h chosen j) (cell_of_chosen N h (is_first N h) j) (among j)),
    )
  where
    both : (s t u : Bool) → (t ≡ true → u ≡ true) → elim s [ true ↦ t | false ↦ false ] ≡ true → elim s [ true ↦ u | false ↦ false ] ≡ true
    both true t u p e = p e
    both false t u p e = e

    among : (j : ℕ) → cell_of_chosen N h chosen j ≡ true → cell_of_chosen N h (is_first N h) j ≡ true
    among j e =
        let found = some_true (λ i. is_first N h i && chosen i && is_cell_of N h i j) N e in
        let i = found.0 in
        let parts = and_true (is_first N h i && chosen i) (is_cell_of N h i j) found.2 in
        let first = (and_true (is_first N h i) (chosen i) parts.0).0 in
        true_some (λ i. is_first N h i && is_first N h i && is_cell_of N h i j) N i found.1
        (true_and (is_first N h i && is_first N h i) (is_cell_of N h i j) (true_and (is_first N h i) (is_first N h i) first first) parts.1)

module _ (N w : ℕ) (h : Memory) (healthy : Healthy N w h) where
  abbrev r : ℕ
  r = length h.roots

  abbrev before : Graph
  before = view N w h

  abbrev after : Graph
  after = graph.collect (capacity w) r before

  -- an object that is left has its old size
  same_size : (b : ℕ) → size after b ≢ 0 → size after b ≡ size before b
  same_size b n =
      elim (collected_or_gone (capacity w) r before after (is_collected N w h healthy) b) [ inl e ↦ e | inr e ↦ absurd (n e) ]

  after_aligned : Aligned after.sizes
  after_aligned x n = rw (same_size x n) (healthy.aligned x (λ z. n (same_size x n ∙ z)))

  pub led_stays : (b n : ℕ) → Object N h b n → Leads N h b → Object N (settled N (collected N w h)) b n
  led_stays b n object leads =
      object_after N w r h (collected N w h) after healthy.represents (collected_shows N w h healthy) b n object
      ((is_collected N w h healthy).reached b (leads_reach N h before.sizes healthy.represents leads))

  stays_led : (b n : ℕ) → Object N (settled N (collected N w h)) b n → Object N h b n × Leads N h b
  stays_led b n object =
      let shows = collected_shows N w h healthy in
      let stands = object_size N (settled N (collected N w h)) (view N w (collected N w h)).sizes shows.represents b n object in
      let left : size after b ≡ n = ap (λ (k : Graph). size k b) (sym shows.view_is) ∙ stands.0 in
      let some : size after b ≢ 0 = λ z. stands.1 (sym left ∙ z) in
      let was : size before b ≡ n = sym (same_size b some) ∙ left in (
        subst (λ (m : ℕ). Object N h b m) was (size_object N h before.sizes healthy.represents b (λ z. stands.1 (sym was ∙ z))),
        led some,
      )
    where
      led : size after b ≢ 0 → Leads N h b
      led some =
          elim (test_cases_lem (marked (reached N h) b)) [
            | inl e ↦ reached_led N h b e
            | inr e ↦
                absurd
                (some ((is_collected N w h healthy).unreached b (λ reach. false≢true (sym e ∙ reach_marked N w h healthy b reach))))
          ]

  recounted_first :
      (b : ℕ) → is_first N (settled N (collected N w h)) b ≡ true
      → count_of N w (settled N (collected N w h)) b ≡ min (capacity w) (references_from N h (marked (reached N h)) b)
  recounted_first b first =
      sym (view_count N w (collected N w h) b (first_facts N (collected N w h).a (collected N w h).b b first).inside)
      ∙ ap (λ (k : Graph). count k b) (collected_shows N w h healthy).view_is
      ∙ (is_collected N w h healthy).counted b
      ∙ ap (min (capacity w)) (sym (references_left N w h healthy b))

  pub collected_exact : ExactCollection N w h (settled N (collected N w h))
  collected_exact =
      record {
        exactly = λ b n. (stays_led b n, λ p. led_stays b n p.0 p.1);
        led = marked (reached N h);
        led_is = λ b. (reached_led N h b, led_reached N h b);
        counted = recounted_first;
      }

  -- no object below the capacity before a collection stands at it afterwards
  pub unstuck :
      (b : ℕ) → is_first N h b ≡ true → is_first N (settled N (collected N w h)) b ≡ true → count_of N w h b < capacity w
      → count_of N w (settled N (collected N w h)) b ≡ capacity w → ⊥
  unstuck b was is low top =
      elim (healthy_counted N w h healthy b was) [
        | inl e ↦ omega arith
        | inr e ↦ omega (arith, recounted_first b is, references_le N h (marked (reached N h)) b)
      ]

  pub collected_healthy : Healthy N w (settled N (collected N w h))
  collected_healthy =
      healthy_after N w r (collected N w h) after (collected_shows N w h healthy)
      (collect_whole (capacity w) (positive N w h healthy) r before healthy.whole) after_aligned
