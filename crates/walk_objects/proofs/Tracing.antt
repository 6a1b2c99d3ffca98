-- Meeting in the arrays, with the place of each first meeting.
use mathlib.Core.Path.{◌≡◌, refl, sym, ap, ◌∙◌}
use mathlib.Core.Logic.{◌≢◌}
use mathlib.Core.List.{List, [], ◌∷◌, ◌++◌}
use Prim.Native.Nat.{ℕ, zero, suc, ◌+◌, ◌-◌, ◌≤◌, ◌<◌}
use native.Mathlib.Numerals.{add-one}
use native.Mathlib.Omega.{arith}
use lib.ListN.{length, get_or, set, take, length-set}
use lib.Seq.{get_or-set_same, get_or-set_other, length-take-le}
use Rattle.std.proofs.lemmas.List.{take_more}
use Rattle.rules.specs.Heap.{max_blocks}
use Rattle.rules_output.specs.Walk.{number_in}
use Rattle.theory_walks.specs.Trail.{Entry, entry, met_in, meet_at, meet_each_at}
use Rattle.theory_walks.proofs.Walks.Trails.{MetAt, nothing, again, new, met_at_cases}
use Rattle.walk_objects.specs.Walking.{last_first, entries, Tracing, Traced}
use Rattle.walk_objects.proofs.Meeting.{walks_on}
use Rattle.walk_objects.proofs.Meeting as meeting

pub entries_met : (order owners vias : List ℕ) (n : ℕ) → met_in (entries order owners vias n) ≡ last_first order n
unfolding entries met_in last_first
entries_met order owners vias zero = refl
entries_met order owners vias (suc n) = ap (λ (l : List ℕ). get_or order n 0 ∷ l) (entries_met order owners vias n)

kept : (order owners vias : List ℕ) (n k v p j : ℕ) → n ≤ k → entries (set order k v) (set owners k p) (set vias k j) n ≡ entries order owners vias n
unfolding entries
kept order owners vias zero k v p j h = refl
kept order owners vias (suc n) k v p j h =
    rw (
      get_or-set_other order k n v 0 (omega arith),
      get_or-set_other owners k n p 0 (omega arith),
      get_or-set_other vias k n j 0 (omega arith),
      kept order owners vias n k v p j (omega arith),
    )

push : (order owners vias : List ℕ) (n v p j : ℕ) → n < length order → n < length owners → n < length vias
    → entries (set order n v) (set owners n p) (set vias n j) (n + 1) ≡ entry v p j ∷ entries order owners vias n
unfolding entries
push order owners vias n v p j a b c =
    rw (
      add-one n,
      get_or-set_same order n v 0 a,
      get_or-set_same owners n p 0 b,
      get_or-set_same vias n j 0 c,
      kept order owners vias n n v p j (omega arith),
    )

module _ (N : ℕ) (order numbers owners vias : List ℕ) (met v p j : ℕ) (t : Tracing N order numbers owners vias met) where
  abbrev so_far : List Entry
  so_far = entries order owners vias met

  known : (b : ℕ) → b < N → get_or numbers b 0 ≡ number_in (met_in so_far) (suc b)
  known b l = t.walking.numbers_are b l ∙ ap (λ (l : List ℕ). number_in l (suc b)) (sym (entries_met order owners vias met))

  pub trace_nothing : v ≡ 0 → Traced N (meet_at so_far p j v) order numbers owners vias met
  trace_nothing z = record { is = same (met_at_cases so_far p j v); tracing = t }
    where
      same : {next : List Entry} → MetAt so_far p j v next → so_far ≡ next
      same (nothing e) = refl
      same (again n d e) = refl
      same (new d e) = absurd (d z)

  pub trace_again : v ≢ 0 → v ≤ N → get_or numbers (v - 1) 0 ≢ 0 → Traced N (meet_at so_far p j v) order numbers owners vias met
  trace_again s l some = record { is = same (met_at_cases so_far p j v); tracing = t }
    where
      whole : suc (v - 1) ≡ v
      whole = omega arith

      same : {next : List Entry} → MetAt so_far p j v next → so_far ≡ next
      same (nothing e) = refl
      same (again n d e) = refl
      same (new d e) = absurd (some (known (v - 1) (omega arith) ∙ ap (number_in (met_in so_far)) whole ∙ e))

  module _ (s : v ≢ 0) (l : v ≤ N) (unmet : get_or numbers (v - 1) 0 ≡ 0) where
    space : met < N
    space = meeting.room N order numbers met v t.walking s l unmet

    pub trace_new : Traced N (meet_at so_far p j v) (set order met v) (set numbers (v - 1) (met + 1)) (set owners met p) (set vias met j) (met + 1)
    trace_new =
        let w = t.walking in
        record {
          is =
              push order owners vias met v p j (omega (arith, space, w.long_order)) (omega (arith, space, t.long_owners))
              (omega (arith, space, t.long_vias))
              ∙ same (met_at_cases so_far p j v);
          tracing = record {
            walking = walks_on N order numbers met v w s l unmet;
            long_owners = omega (arith, length-set owners met p, t.long_owners);
            long_vias = omega (arith, length-set vias met j, t.long_vias);
          };
        }
      where
        whole : suc (v - 1) ≡ v
        whole = omega arith

        same : {next : List Entry} → MetAt so_far p j v next → entry v p j ∷ so_far ≡ next
        same (nothing e) = absurd (s e)
        same (again n d e) =
            let zero_is : number_in (met_in so_far) v ≡ 0 = ap (number_in (met_in so_far)) (sym whole) ∙ sym (known (v - 1) (omega arith)) ∙ unmet in
            absurd (omega (arith, zero_is))
        same (new d e) = refl

-- there is a place for one more
pub record Room (N : ℕ) (order owners vias : List ℕ) (met : ℕ) : Type 0 where
  pub below : met < N
  pub small : N ≤ max_blocks
  pub of_order : met < length order
  pub of_owners : met < length owners
  pub of_vias : met < length vias

pub room : {N : ℕ} {order numbers owners vias : List ℕ} {met : ℕ} (v : ℕ) → Tracing N order numbers owners vias met → v ≢ 0 → v ≤ N
    → get_or numbers (v - 1) 0 ≡ 0 → Room N order owners vias met
room {N} {order} {numbers} {owners} {vias} {met} v t s l unmet =
    let below : met < N = space N order numbers owners vias met v 0 0 t s l unmet in
    record {
      below = below;
      small = t.walking.small;
      of_order = omega (arith, below, t.walking.long_order);
      of_owners = omega (arith, below, t.long_owners);
      of_vias = omega (arith, below, t.long_vias);
    }

-- one more at the end
each_end : (l : List Entry) (p j : ℕ) (vs : List ℕ) (v : ℕ) → meet_each_at l p j (vs ++ (v ∷ [])) ≡ meet_at (meet_each_at l p j vs) p (j + length vs) v
unfolding meet_each_at
each_end l p j [] v = let place : j ≡ j + 0 = omega arith in ap (λ (i : ℕ). meet_at l p i v) place
each_end l p j (x ∷ vs) v =
    let place : suc j + length vs ≡ j + suc (length vs) = omega arith in
    each_end (meet_at l p j x) p (suc j) vs v ∙ ap (λ (i : ℕ). meet_at (meet_each_at (meet_at l p j x) p (suc j) vs) p i v) place

pub trace_start : (N : ℕ) (order numbers owners vias refs : List ℕ) (met p : ℕ) → Tracing N order numbers owners vias met
    → Traced N (meet_each_at (entries order owners vias met) p 0 (take 0 refs)) order numbers owners vias met
unfolding meet_each_at
trace_start N order numbers owners vias refs met p t = record { is = refl; tracing = t }

pub trace_more :
    (N : ℕ) (l : List Entry) (p : ℕ) (refs : List ℕ) (i : ℕ) (order numbers owners vias order' numbers' owners' vias' : List ℕ) (met met' : ℕ)
    → i < length refs
    → Traced N (meet_each_at l p 0 (take i refs)) order numbers owners vias met
    → Traced N (meet_at (entries order owners vias met) p i (get_or refs i 0)) order' numbers' owners' vias' met'
    → Traced N (meet_each_at l p 0 (take (i + 1) refs)) order' numbers' owners' vias' met'
trace_more N l p refs i order numbers owners vias order' numbers' owners' vias' met met' inside before next =
    let place : 0 + length (take i refs) ≡ i = omega (arith, length-take-le i refs (omega arith)) in
    record {
      is =
          next.is ∙ ap (λ (x : List Entry). meet_at x p i (get_or refs i 0)) before.is
          ∙ sym (rw (take_more refs i 0 inside) (each_end l p 0 (take i refs) (get_or refs i 0)
          ∙ ap (λ (k : ℕ). meet_at (meet_each_at l p 0 (take i refs)) p k (get_or refs i 0)) place));
      tracing = next.tracing;
    }

pub same_arrays : {N : ℕ} {l : List Entry} {order numbers owners vias order' numbers' owners' vias' : List ℕ} {met : ℕ}
    → order' ≡ order → numbers' ≡ numbers → owners' ≡ owners → vias' ≡ vias
    → Traced N l order numbers owners vias met → Traced N l order' numbers' owners' vias' met
same_arrays a b c d t = rw (a, b, c, d) t
